-- What the wires behind a step take as known of it, for steps of a vat that was between two steps, with the other.
use Rattle.std.specs.Prelude.{◌≡◌, ℕ, true, None, Some, IsSome, List, [], ◌∷◌}
use Rattle.std.specs.FinMap as map
use Rattle.rpc_msg.specs.declared.ids.Vat.{Vat}
use Rattle.rpc_msg.specs.declared.message.Message.{Message}
use Rattle.rpc_msg.specs.declared.message.Message.TheVariants as message
use Rattle.rpc_msg.specs.declared.message.PlainMessage.{PlainMessage}
use Rattle.rpc_msg.specs.declared.parts.Descriptor.{Descriptor}
use Rattle.rpc_msg.specs.Messages.{descriptors_of}
use Rattle.rpc_journal.specs.Meaning.{History}
use Rattle.rpc_machine.specs.declared.command.Command.{Command}
use Rattle.rpc_machine.specs.declared.command.Effects.{Effects}
use Rattle.rpc_machine.specs.declared.command.Granted.{Granted}
use Rattle.rpc_machine.specs.declared.command.Level.TheVariants.{One}
use Rattle.rpc_machine.specs.declared.entries.Export.{Export}
use Rattle.rpc_machine.specs.declared.entries.Question.{Question}
use Rattle.rpc_machine.specs.State.{State}
use Rattle.rpc_machine.specs.Descriptors.{take_all}
use Rattle.rpc_machine.specs.Faults.{fault_of}
use Rattle.rpc_machine.specs.Steps.{Does, Handles}
use Rattle.rpc_machine.specs.Sweeping.{IsNotSent}
use Rattle.laws_acts.specs.Moments.{Moment, beginning}
use Rattle.laws_acts.specs.FirstActs.{Starts}
use Rattle.laws_acts.specs.MessageActs.{Consumes}
use Rattle.laws_routes.specs.Midway.{Midway}
use Rattle.laws_routes.specs.Named.{EachReturn}
use Rattle.laws_routes.specs.Received.{IsMet}
use Rattle.laws_routes.specs.Sayings.{Has, has_of, is_waiting}
use Rattle.laws_meanings.specs.NodeLabels.{Labels, asked_label, label}
use Rattle.laws_wires.specs.Wires.{Session, asked_at}
use Rattle.laws_wires.specs.StepWires.{Around, NamedAreKept}

-- An export that the first act of a step left of its node stays, and means what it did.
abbrev pub ExportsAreKept : History → Vat → Labels → Labels → State → State → State → Type 0
ExportsAreKept h v l m s first t =
    (e : ℕ) (x y : Export) → map.get s.exports e ≡ Some x → map.get first.exports e ≡ Some y → y.node ≡ x.node
    → (z : Export) × (map.get t.exports e ≡ Some z) × (z.node ≡ x.node) × (label h v m x.node ≡ label h v l x.node)

-- What a vat has once it took these descriptors.
abbrev pub has_taken : State → List Descriptor → Has
has_taken s ds = has_of [] (take_all s ds).imports s.questions

-- Behind a command what is named on the way is as it was.
abbrev pub CommandsKeepNamed : Type 0
CommandsKeepNamed =
    (h : History) (w : Around) (out back : List Message) (now : ℕ → Session) (c : Command) (g : Granted) (d : Moment)
    → Midway w.s w.z out back → Midway w.z w.s back out → Starts (beginning w.s) c g d → ExportsAreKept h w.v w.l w.m w.s d.state w.t
    → NamedAreKept h w (record { out = out; back = back; has = has_of [] w.s.imports w.s.questions; now = now }) w.s.exports

-- So it is behind a message that is taken, in the exports that its first act leaves.
abbrev pub MessagesKeepNamed : Type 0
MessagesKeepNamed =
    (h : History) (w : Around) (out rest : List Message) (now : ℕ → Session) (x : PlainMessage) (d : Moment)
    → Midway w.s w.z out (message.Plain x ∷ rest) → Midway w.z w.s (message.Plain x ∷ rest) out → w.s.level ≡ One → IsMet w.s w.z out rest x
    → Consumes (beginning w.s) (message.Plain x) d → ExportsAreKept h w.v w.l w.m w.s d.state w.t
    → NamedAreKept h w (record { out = out; back = rest; has = has_taken w.s (descriptors_of (message.Plain x)); now = now }) d.state.exports

-- ---- What the way back names of questions and imports

-- The question was there, and is: of the same role, and finished where it was finished.
abbrev pub IsLeft : State → State → ℕ → Type 0
IsLeft s t q = (x : Question) × (y : Question) × (map.get s.questions q ≡ Some x) × (map.get t.questions q ≡ Some y) × (y.role ≡ x.role) × (IsNotSent y.finish → IsNotSent x.finish)

-- So is each whose Return is on its way, behind a command, and behind a message that is taken.
abbrev pub CommandsLeaveReturns : Type 0
CommandsLeaveReturns = (s other t : State) (out back : List Message) (c : Command) (g : Granted) (effects : Effects) → Midway s other out back → Does s c g effects t → EachReturn (IsLeft s t) back

abbrev pub MessagesLeaveReturns : Type 0
MessagesLeaveReturns =
    (s other t : State) (out rest : List Message) (x : PlainMessage) (effects : Effects)
    → Midway s other out (message.Plain x ∷ rest) → s.level ≡ One → IsMet s other out rest x → fault_of s (message.Plain x) ≡ None → Handles s (message.Plain x) effects t → EachReturn (IsLeft s t) rest

-- An import that is there behind it was there, or came with the message.
abbrev pub CommandsBringNone : Type 0
CommandsBringNone = (s t : State) (c : Command) (g : Granted) (effects : Effects) → Does s c g effects t → (e : ℕ) → IsSome (map.get t.imports e) → IsSome (map.get s.imports e)

-- Where each question keeps its label, and so does the outcome of a relay, the way back means the same to who asks: a question
-- that waits did, and is of the same.
abbrev pub RolesKeepLabels : Labels → Labels → State → Type 0
RolesKeepLabels l m s = (q : ℕ) (x : Question) → map.get s.questions q ≡ Some x → asked_label m q x.role ≡ asked_label l q x.role

abbrev pub ReturnsAreMet : Type 0
ReturnsAreMet =
    (l m : Labels) (s t : State) (back : List Message) → RolesKeepLabels l m s → EachReturn (IsLeft s t) back
    → EachReturn (λ q. is_waiting (map.get t.questions q) ≡ true → is_waiting (map.get s.questions q) ≡ true) back
    × EachReturn (λ q. is_waiting (map.get s.questions q) ≡ true → asked_at m q (map.get t.questions q) ≡ asked_at l q (map.get s.questions q)) back

-- An import that is there behind a message was there, or came with its descriptors.
abbrev pub MessagesBringTheirs : Type 0
MessagesBringTheirs =
    (s t : State) (x : PlainMessage) (effects : Effects) → s.level ≡ One → fault_of s (message.Plain x) ≡ None → Handles s (message.Plain x) effects t
    → (e : ℕ) → IsSome (map.get t.imports e) → IsSome (map.get (take_all s (descriptors_of (message.Plain x))).imports e)
