-- A step in a scene: behind it all that its vat holds means what the history says, by labels that are kept where keys were
-- there; and so does all that it sends, where what its first act sends does.
use Rattle.std.specs.Prelude.{◌≡◌, ℕ, false, Option, None, Some, List, [], ◌∷◌, ◌++◌}
use Rattle.std.specs.FinMap as map
use Rattle.rpc_msg.specs.declared.ids.Vat.{Vat}
use Rattle.rpc_msg.specs.declared.ids.ObjectId.{ObjectId}
use Rattle.rpc_msg.specs.declared.message.Message.{Message}
use Rattle.rpc_msg.specs.Vats.{other_vat}
use Rattle.rpc_journal.specs.declared.entry.JournalEntry.TheVariants as entry
use Rattle.rpc_journal.specs.Sources.{Asking}
use Rattle.rpc_journal.specs.Meaning.{History}
use Rattle.rpc_machine.specs.declared.calls.KeptOutcome.{KeptOutcome}
use Rattle.rpc_machine.specs.declared.calls.Promise.{Promise}
use Rattle.rpc_machine.specs.declared.command.Command.{Command}
use Rattle.rpc_machine.specs.declared.command.Effects.{Effects}
use Rattle.rpc_machine.specs.declared.command.Granted.{Granted}
use Rattle.rpc_machine.specs.declared.entries.Export.{Export}
use Rattle.rpc_machine.specs.declared.entries.Import.{Import}
use Rattle.rpc_machine.specs.declared.entries.Question.{Question}
use Rattle.rpc_machine.specs.State.{State}
use Rattle.rpc_machine.specs.Claims.{history}
use Rattle.rpc_machine.specs.Faults.{fault_of}
use Rattle.rpc_machine.specs.Journal.{effect_entries, granted_entries}
use Rattle.rpc_machine.specs.Progress.{quiet}
use Rattle.rpc_machine.specs.Refusals.{refused}
use Rattle.rpc_machine.specs.Steps.{Does, Handles}
use Rattle.rpc_machine.specs.World.{core, inbox}
use Rattle.laws_acts.specs.Moments.{Moment, beginning}
use Rattle.laws_acts.specs.FirstActs.{Starts}
use Rattle.laws_acts.specs.MessageActs.{Consumes}
use Rattle.laws_runs.specs.Scenes.{Scene, IsScene, is_over}
use Rattle.laws_meanings.specs.MessageMeanings.{AnswersOf, OutcomesKept}
use Rattle.laws_meanings.specs.NodeLabels.{Labels, MomentMeans, Places, label}
use Rattle.laws_wires.specs.Sent.{AllSaySo, SentMean}
use Rattle.laws_wires.specs.SceneSessions.{AnswersStay}
use Rattle.laws_wires.specs.SceneOut.{AreAskedSo}
use Rattle.laws_wires.specs.Wires.{Session, WorldMeans, past_one, sessions_at}
use Rattle.laws_sound.specs.OldestHeard.{exports_mean}

-- ---- What a step leaves

-- What was there before the step has the label that it had.
pub record AreKept (l m : Labels) (s : State) : Type 0 where
  pub promises : (p : ℕ) (y : Promise) → map.get s.promises p ≡ Some y → m.promise p ≡ l.promise p
  pub imports : (e : ℕ) (y : Import) → map.get s.imports e ≡ Some y → m.import e ≡ l.import e
  pub outcomes : (o : ℕ) (y : KeptOutcome) → map.get s.outcomes o ≡ Some y → m.outcome o ≡ l.outcome o
  pub questions : (q : ℕ) (y : Question) → map.get s.questions q ≡ Some y → m.question q ≡ l.question q

-- Of the vat v, which was in the state s with the labels l, in the state `first` behind the first act of its step, and is in the
-- state t with the labels m. An export that the first act left of its node stays, and means what it did; an answer that it left
-- stays, of its outcome, or closes.
pub record HasStepped (h : History) (v : Vat) (l : Labels) (s first : State) (said : ℕ → Session) (told : Effects) (t : State) (m : Labels) : Type 0 where
  pub imports : (e : ℕ) (y : Import) → map.get s.imports e ≡ Some y → m.import e ≡ l.import e
  pub outcomes : (o : ℕ) (y : KeptOutcome) → map.get s.outcomes o ≡ Some y → m.outcome o ≡ l.outcome o
  pub questions : (q : ℕ) (y : Question) → map.get s.questions q ≡ Some y → m.question q ≡ l.question q
  pub answers : AnswersStay first t
  pub exports : (e : ℕ) (x y : Export) → map.get s.exports e ≡ Some x → map.get first.exports e ≡ Some y → y.node ≡ x.node → (z : Export) × (map.get t.exports e ≡ Some z) × (z.node ≡ x.node) × (label h v m x.node ≡ label h v l x.node)
  pub sent : AllSaySo h v m t.exports t.promises said told.sends
  pub asked : AreAskedSo v m s told.sends t

-- ---- What the first act sends

-- It means what it should. Of a Return it is said by what the vat's answers stand for behind the message that it takes.
abbrev pub FirstCommandsSend : Option ObjectId → Option ObjectId → Type 0
FirstCommandsSend root_a root_b =
    (x : Scene) (l : Vat → Labels) (v : Vat) (c : Command) (g : Granted) (told : Effects) (t : State) (m : Labels) (d : Moment)
    → IsScene root_a root_b x → WorldMeans (history root_a root_b x.journal) x.world l → is_over x v ≡ false → refused (core x.world v) c ≡ None → Does (core x.world v) c g told t → Starts (beginning (core x.world v)) c g d
    → AreKept (l v) m (core x.world v) → ((e : ℕ) → m.import e ≡ (l v).import e)
    → MomentMeans (history root_a root_b (x.journal ++ granted_entries x.journal v c g)) v m d
    → SentMean (history root_a root_b (x.journal ++ granted_entries x.journal v c g)) v m (sessions_at (l v) (core x.world v).answers) d

abbrev pub FirstMessagesSend : Option ObjectId → Option ObjectId → Type 0
FirstMessagesSend root_a root_b =
    (x : Scene) (l : Vat → Labels) (v : Vat) (y : Message) (ms : List Message) (os : ℕ → Option (Vat × Asking)) (d : Moment)
    → IsScene root_a root_b x → WorldMeans (history root_a root_b x.journal) x.world l → inbox x.world v ≡ y ∷ ms → fault_of (core x.world v) y ≡ None → Consumes (beginning (core x.world v)) y d
    → OutcomesKept (l v) (core x.world v) os → AnswersOf os (other_vat v) d.state y
    → MomentMeans (history root_a root_b (x.journal ++ entry.Got v ∷ [])) v (record (l v) { import = exports_mean (history root_a root_b x.journal) x.world l (other_vat v); outcome = os }) d
    → SentMean (history root_a root_b (x.journal ++ entry.Got v ∷ [])) v (record (l v) { import = exports_mean (history root_a root_b x.journal) x.world l (other_vat v); outcome = os })
    (past_one (other_vat v) (sessions_at (l v) (core x.world v).answers) y) d

abbrev pub FirstActsSend : Type 0
FirstActsSend = (root_a root_b : Option ObjectId) → FirstCommandsSend root_a root_b × FirstMessagesSend root_a root_b

-- ---- Then the step

abbrev pub CommandsStep : Type 0
CommandsStep =
    (root_a root_b : Option ObjectId) (x new : Scene) (l : Vat → Labels) (v : Vat) (c : Command) (g : Granted) (told : Effects) (t : State)
    → IsScene root_a root_b x → IsScene root_a root_b new → WorldMeans (history root_a root_b x.journal) x.world l → is_over x v ≡ false → refused (core x.world v) c ≡ None → Does (core x.world v) c g told t
    → new.journal ≡ (x.journal ++ granted_entries x.journal v c g) ++ effect_entries v told
    → (d : Moment) × Starts (beginning (core x.world v)) c g d
    × ((m : Labels) × ((e : ℕ) → m.import e ≡ (l v).import e) × Places (history root_a root_b new.journal) v m quiet t
    × HasStepped (history root_a root_b (x.journal ++ granted_entries x.journal v c g)) v (l v) (core x.world v) d.state (sessions_at (l v) (core x.world v).answers) told t m)

-- Imports that come mean what the other vat exports as them.
abbrev pub MessagesStep : Type 0
MessagesStep =
    (root_a root_b : Option ObjectId) (x new : Scene) (l : Vat → Labels) (v : Vat) (y : Message) (ms : List Message) (told : Effects) (t : State)
    → IsScene root_a root_b x → IsScene root_a root_b new → WorldMeans (history root_a root_b x.journal) x.world l → inbox x.world v ≡ y ∷ ms → fault_of (core x.world v) y ≡ None → Handles (core x.world v) y told t
    → new.journal ≡ (x.journal ++ entry.Got v ∷ []) ++ effect_entries v told
    → (d : Moment) × Consumes (beginning (core x.world v)) y d
    × ((m : Labels) × ((e : ℕ) → m.import e ≡ exports_mean (history root_a root_b x.journal) x.world l (other_vat v) e) × AnswersOf m.outcome (other_vat v) d.state y × Places (history root_a root_b new.journal) v m quiet t
    × HasStepped (history root_a root_b (x.journal ++ entry.Got v ∷ [])) v (l v) (core x.world v) d.state (past_one (other_vat v) (sessions_at (l v) (core x.world v).answers) y) told t m)
