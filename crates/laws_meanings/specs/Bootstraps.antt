-- How a Bootstrap ends: as its Return says. What the numbers of own calls were asked for.
use Rattle.std.specs.Prelude.{◌≡◌, ◌≤◌, ℕ, Option, None, Some, List, [], ◌∷◌, length, codes}
use Rattle.std.specs.FinMap as map
use Rattle.rpc_msg.specs.declared.ids.Vat.{Vat}
use Rattle.rpc_msg.specs.declared.ids.CallId.{CallId}
use Rattle.rpc_msg.specs.declared.ids.Stamp.{Stamp}
use Rattle.rpc_msg.specs.declared.ids.ObjectId.{ObjectId}
use Rattle.rpc_msg.specs.declared.message.Message.{Message}
use Rattle.rpc_msg.specs.declared.message.Message.TheVariants as message
use Rattle.rpc_msg.specs.declared.message.PlainMessage.TheVariants as plain
use Rattle.rpc_msg.specs.declared.message.Return.{Return}
use Rattle.rpc_msg.specs.Vats.{other_vat}
use Rattle.rpc_journal.specs.declared.report.Outcome.TheVariants as outcome
use Rattle.rpc_journal.specs.declared.entry.JournalEntry.{JournalEntry}
use Rattle.rpc_journal.specs.declared.entry.JournalEntry.TheVariants as entry
use Rattle.rpc_journal.specs.Sources.{Asking, OfBootstrap, OfCall, asking}
use Rattle.rpc_journal.specs.Meaning.{History, root}
use Rattle.rpc_machine.specs.declared.calls.Caller.{Caller}
use Rattle.rpc_machine.specs.declared.calls.Caller.TheVariants as caller
use Rattle.rpc_machine.specs.declared.calls.KeptOutcome.{KeptOutcome}
use Rattle.rpc_machine.specs.declared.calls.Value.{Value}
use Rattle.rpc_machine.specs.declared.entries.Role.{Role}
use Rattle.rpc_machine.specs.declared.entries.Role.TheVariants as role
use Rattle.rpc_machine.specs.declared.entries.Question.{Question}
use Rattle.rpc_machine.specs.State.{State}
use Rattle.rpc_machine.specs.Payloads.{bootstrap_payload}
use Rattle.rpc_machine.specs.Progress.{outcome_of, caps_of}
use Rattle.rpc_machine.specs.Routing.{failed}
use Rattle.rpc_machine.specs.Messages.{results_of, value_of_results}
use Rattle.rpc_machine.specs.Sweeping.{IsNotSent}
use Rattle.rpc_machine.specs.World.{core, inbox}
use Rattle.rpc_machine.specs.Claims.{Upto, EndsRoot, history}
use Rattle.laws_runs.specs.Scenes.{Scene, IsScene}

-- ---- What a number was asked for

module _ (v : Vat) (h : List JournalEntry) where
  abbrev pub IsCall : ℕ → Type 0
  IsCall c = (s : Stamp) × (asking h v c ≡ Some (OfCall s))

  abbrev pub WasAsked : ℕ → Type 0
  WasAsked c = (a : Asking) × (asking h v c ≡ Some a)

  abbrev pub CallerCalled : Caller → Type 0
  CallerCalled (caller.Application c) = IsCall c.0
  CallerCalled (caller.Peer q) = Unit {0}

  abbrev pub OutcomeCalled : Option KeptOutcome → Type 0
  OutcomeCalled None = Unit {0}
  OutcomeCalled (Some x) = CallerCalled x.caller

  abbrev pub RoleAsked : Role → Type 0
  RoleAsked (role.Direct c) = WasAsked c.0
  RoleAsked (role.Relay o) = Unit {0}

  abbrev pub QuestionAsked : Option Question → Type 0
  QuestionAsked None = Unit {0}
  QuestionAsked (Some x) = RoleAsked x.role

  -- An outcome of which an own call is told is of a call, and no Bootstrap; a question that is asked for an own call was
  -- asked; and a number to come was asked for nothing.
  pub record NumbersAsked (s : State) : Type 0 where
    pub outcomes : (k : ℕ) → OutcomeCalled (map.get s.outcomes k)
    pub questions : (q : ℕ) → QuestionAsked (map.get s.questions q)
    pub later : (c : ℕ) → s.next_call ≤ c → asking h v c ≡ None

-- So in each scene.
abbrev pub NumbersAreAsked : Type 0
NumbersAreAsked = (root_a root_b : Option ObjectId) (x : Scene) → IsScene root_a root_b x → (v : Vat) → NumbersAsked v x.journal (core x.world v)

-- ---- How a Bootstrap ends

-- It is the root capability of that object, or that there is none.
abbrev pub SaysRoot : Option ℕ → Value → Type 0
SaysRoot (Some o) x = (outcome_of x ≡ outcome.Results bootstrap_payload) × (length (caps_of x) ≡ 1)
SaysRoot None x = (outcome_of x ≡ outcome.Exception (failed (codes "no bootstrap"))) × (caps_of x ≡ [])

-- In each scene the oldest Return to a Bootstrap that is not finished says so of the other vat's bootstrap object.
abbrev pub RootsReturn : Option ObjectId → Option ObjectId → Type 0
RootsReturn root_a root_b =
    (x : Scene) → IsScene root_a root_b x → (v : Vat) (r : Return) (ms : List Message) (q : Question) (c : CallId)
    → inbox x.world v ≡ message.Plain (plain.Return r) ∷ ms → map.get (core x.world v).questions r.answer.0 ≡ Some q → q.role ≡ role.Direct c → IsNotSent q.finish
    → asking x.journal v c.0 ≡ Some OfBootstrap → SaysRoot (root (history root_a root_b x.journal) (other_vat v)) (value_of_results (results_of (core x.world v) r.body))

abbrev pub IfRoot : History → JournalEntry → Type 0
IfRoot h (entry.Ended v x) = asking h.journal v x.call.0 ≡ Some OfBootstrap → EndsRoot (root h (other_vat v)) x.outcome x.refs
IfRoot h e = Unit {0}

-- Then each Bootstrap ends with it.
abbrev pub RootsAreLeft : Type 0
RootsAreLeft = (root_a root_b : Option ObjectId) → RootsReturn root_a root_b → (x : Scene) → IsScene root_a root_b x → Upto IfRoot (history root_a root_b x.journal)

-- So it is of each Return to a Bootstrap; and each Bootstrap ends so.
abbrev pub RootsAreReturned : Type 0
RootsAreReturned = (root_a root_b : Option ObjectId) → RootsReturn root_a root_b

abbrev pub BootstrapsEnd : Type 0
BootstrapsEnd = (root_a root_b : Option ObjectId) (x : Scene) → IsScene root_a root_b x → Upto IfRoot (history root_a root_b x.journal)
