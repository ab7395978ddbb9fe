-- What a step sends is read as it should, and what its vat knows of the other is so: for steps of a vat that was between two
-- steps, with the other.
use Rattle.std.specs.Prelude.{◌≡◌, ◌⊎◌, ℕ, nat_eq, false, Option, None, Some, List, ◌∷◌}
use Rattle.std.specs.FinMap as map
use Rattle.rpc_msg.specs.declared.ids.Vat.{Vat}
use Rattle.rpc_msg.specs.declared.message.Message.{Message}
use Rattle.rpc_msg.specs.declared.message.Message.TheVariants as message
use Rattle.rpc_msg.specs.declared.message.PlainMessage.{PlainMessage}
use Rattle.rpc_journal.specs.Meaning.{History}
use Rattle.rpc_machine.specs.declared.command.Command.{Command}
use Rattle.rpc_machine.specs.declared.command.Effects.{Effects}
use Rattle.rpc_machine.specs.declared.command.Granted.{Granted}
use Rattle.rpc_machine.specs.declared.command.Level.TheVariants.{One}
use Rattle.rpc_machine.specs.declared.entries.Question.{Question}
use Rattle.rpc_machine.specs.declared.entries.Role.{Role}
use Rattle.rpc_machine.specs.State.{State}
use Rattle.rpc_machine.specs.Faults.{fault_of}
use Rattle.rpc_machine.specs.Steps.{Does, Handles}
use Rattle.rpc_machine.specs.Sweeping.{IsNotSent}
use Rattle.laws_acts.specs.Moments.{Moment, beginning}
use Rattle.laws_acts.specs.FirstActs.{Starts}
use Rattle.laws_acts.specs.MessageActs.{Consumes}
use Rattle.laws_acts.specs.SmallActs.{Acts}
use Rattle.laws_steps.specs.NodesThere.{IsReached}
use Rattle.laws_runs.specs.Views.{IsReady}
use Rattle.laws_routes.specs.Midway.{Midway}
use Rattle.laws_routes.specs.Premises.{EachOpen}
use Rattle.laws_routes.specs.Received.{IsMet}
use Rattle.laws_meanings.specs.CommandMeanings.{OpensNothing, IsWrittenOpen}
use Rattle.laws_meanings.specs.NodeLabels.{Labels, MomentMeans}
use Rattle.laws_wires.specs.Wires.{Session, ImportAgrees, QuestionAgrees, IsSession, export_label, past, sessions_at}
use Rattle.laws_wires.specs.Sent.{AllSaySo}
use Rattle.laws_wires.specs.SceneWires.{RolesKeepLabels}
use Rattle.laws_wires.specs.StepWires.{Around, OutIsMet}

-- ---- What is asked

-- The question was there, of the same role; and where it is not finished, it was not.
abbrev pub WasThere : State → ℕ → Question → Type 0
WasThere s q x = (y : Question) × (map.get s.questions q ≡ Some y) × (y.role ≡ x.role) × (IsNotSent x.finish → IsNotSent y.finish)

-- It is of what was sent last with its id, whatever that stood for before.
abbrev pub IsOfSent : Vat → Labels → List Message → ℕ → Role → Type 0
IsOfSent v l sends q r = (now : ℕ → Session) → IsSession l q (past v now sends q) r

abbrev pub IsAskedSo : Vat → Labels → State → List Message → ℕ → Option Question → Type 0
IsAskedSo v l s sends q None = Unit {0}
IsAskedSo v l s sends q (Some x) = (EachOpen (λ i. nat_eq i q ≡ false) sends × WasThere s q x) ⊎ IsOfSent v l sends q x.role

-- Of a vat that was in the state s, and is in the state t: each question was there before, and nothing that was sent asks it; or
-- what was sent asks it, and it is of that.
abbrev pub AreAskedSo : Vat → Labels → State → List Message → State → Type 0
AreAskedSo v l s sends t = (q : ℕ) → IsAskedSo v l s sends q (map.get t.questions q)

-- So it is behind the first act of a command, and of a message; and it stays so, act by act.
abbrev pub CommandsAskSo : Type 0
CommandsAskSo =
    (h : History) (v : Vat) (l : Labels) (s : State) (c : Command) (g : Granted) (new : Moment)
    → OpensNothing c ⊎ IsWrittenOpen h v s c → Starts (beginning s) c g new → MomentMeans h v l new → AreAskedSo v l s new.effects.sends new.state

abbrev pub MessagesAskSo : Type 0
MessagesAskSo = (v : Vat) (l : Labels) (s : State) (m : Message) (new : Moment) → Consumes (beginning s) m new → AreAskedSo v l s new.effects.sends new.state

abbrev pub ActsAskSo : Type 0
ActsAskSo =
    (h : History) (v : Vat) (l : Labels) (s : State) (d last : Moment)
    → Acts last d → MomentMeans h v l d → AreAskedSo v l s d.effects.sends d.state → AreAskedSo v l s last.effects.sends last.state

-- ---- What is known of the other vat, and what is sent to it

-- Behind a command. What the vat's answers stand for is said, and the other vat's questions agree with it, with what is on its way
-- from there.
abbrev pub CommandsMeetOut : Type 0
CommandsMeetOut =
    (h : History) (w : Around) (out back : List Message) (said : ℕ → Session) (c : Command) (g : Granted) (effects : Effects)
    → IsReached w.s → IsReady w.s → Midway w.s w.z out back → Does w.s c g effects w.t
    → RolesKeepLabels w.l w.m w.s → ((e : ℕ) → w.m.import e ≡ w.l.import e) → AreAskedSo w.v w.m w.s effects.sends w.t
    → ((e : ℕ) → ImportAgrees (w.l.import e) (export_label h w.u w.k w.z.exports e) (map.get w.s.imports e))
    → ((q : ℕ) → QuestionAgrees w.l q (past w.v (sessions_at w.k w.z.answers) out q) (map.get w.s.questions q))
    → ((q : ℕ) → QuestionAgrees w.k q (past w.u said back q) (map.get w.z.questions q))
    → AllSaySo h w.v w.m w.t.exports w.t.promises said effects.sends
    → OutIsMet h w out effects.sends

-- Behind a message that is taken, where imports mean what the other vat exports as them.
abbrev pub MessagesMeetOut : Type 0
MessagesMeetOut =
    (h : History) (w : Around) (out rest : List Message) (said : ℕ → Session) (x : PlainMessage) (effects : Effects)
    → IsReached w.s → IsReady w.s → Midway w.s w.z out (message.Plain x ∷ rest) → w.s.level ≡ One → IsMet w.s w.z out rest x → fault_of w.s (message.Plain x) ≡ None → Handles w.s (message.Plain x) effects w.t
    → RolesKeepLabels w.l w.m w.s → ((e : ℕ) → w.m.import e ≡ export_label h w.u w.k w.z.exports e) → AreAskedSo w.v w.m w.s effects.sends w.t
    → ((q : ℕ) → QuestionAgrees w.l q (past w.v (sessions_at w.k w.z.answers) out q) (map.get w.s.questions q))
    → ((q : ℕ) → QuestionAgrees w.k q (past w.u said rest q) (map.get w.z.questions q))
    → AllSaySo h w.v w.m w.t.exports w.t.promises said effects.sends
    → OutIsMet h w out effects.sends
