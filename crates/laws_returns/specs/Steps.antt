-- In each step of a vat, whatever its peer sends: each question that comes is returned in it, or it is open then.
use Rattle.std.specs.Prelude.{◌≡◌, ℕ, ◌+◌, ◌≤◌, Option, None, Some, List, Result, Ok}
use Rattle.std.specs.FinMap as map
use Rattle.rpc_msg.specs.declared.ids.ExportId.{ExportId}
use Rattle.rpc_msg.specs.declared.ids.TaskId.{TaskId}
use Rattle.rpc_msg.specs.declared.message.Message.{Message}
use Rattle.rpc_machine.specs.declared.command.Command.{Command}
use Rattle.rpc_machine.specs.declared.command.Command.TheVariants as command
use Rattle.rpc_machine.specs.declared.command.Granted.{Granted}
use Rattle.rpc_machine.specs.declared.command.Refusal.{Refusal}
use Rattle.rpc_machine.specs.declared.command.Effects.{Effects}
use Rattle.rpc_machine.specs.declared.calls.KeptOutcome.{KeptOutcome}
use Rattle.rpc_machine.specs.declared.entries.AnswerEntry.{AnswerEntry}
use Rattle.rpc_machine.specs.State.{State}
use Rattle.rpc_machine.specs.Steps.{Obeys, Receives}
use Rattle.laws_nodes.specs.Sources.{sources}
use Rattle.laws_steps.specs.NodesThere.{IsReached}
use Rattle.laws_returns.specs.Counts.{asks, returns_in}

-- ---- Questions of the peer that are open

abbrev pub unreturned : Option (List ExportId) → ℕ
unreturned None = 1
unreturned (Some ids) = 0

abbrev pub is_open : Option AnswerEntry → ℕ
is_open None = 0
is_open (Some a) = unreturned a.returned

-- One, if the question has an answer whose Return was not sent.
abbrev pub open_in : ℕ → State → ℕ
open_in q s = is_open (map.get s.answers q)

-- Its outcome is not known, and has one source: a task, a call that was sent on and has not returned, or a call that waits.
abbrev pub HasSource : State → ℕ → Option KeptOutcome → Type 0
HasSource s o None = ⊥
HasSource s o (Some x) = (x.value ≡ None) × (sources o s ≡ 1)

abbrev pub WaitsBy : State → Option AnswerEntry → Type 0
WaitsBy s None = ⊥
WaitsBy s (Some a) = HasSource s a.outcome (map.get s.outcomes a.outcome)

abbrev pub Waits : State → ℕ → Type 0
Waits s q = WaitsBy s (map.get s.answers q)

-- ---- A step

-- What came is what was returned and is open then. A vat that goes down returns no more.
abbrev pub IsReturned : State → ℕ → ℕ → Type 0
IsReturned new came left = (left ≤ came) × (new.down ≡ None → came ≡ left)

pub record StepsReturn : Type 0 where
  pub commands : (s : State) (c : Command) (answer : Result Granted Refusal) (x : Effects) (t : State) → IsReached s → Obeys s c answer x t
      → (q : ℕ) → IsReturned t (open_in q s) (returns_in q x.sends + open_in q t)
  pub messages : (s : State) (m : Message) (x : Effects) (t : State) → IsReached s → Receives s m x t
      → (q : ℕ) → IsReturned t (asks q m + open_in q s) (returns_in q x.sends + open_in q t)

-- Between steps: a question that is open waits for what is to come.
abbrev pub OpenOnesWait : Type 0
OpenOnesWait = (s : State) → IsReached s → (q : ℕ) → open_in q s ≡ 1 → Waits s q

-- ---- A task that ends

-- The command answers or fails that task.
abbrev pub EndsTask : TaskId → Command → Type 0
EndsTask k (command.Answer t payload refs) = k ≡ t
EndsTask k (command.Fail t exception) = k ≡ t
EndsTask k c = ⊥

-- Where the answer has that outcome, it was returned.
abbrev pub IsReturnedBy : ℕ → Option AnswerEntry → Type 0
IsReturnedBy o None = Unit {0}
IsReturnedBy o (Some a) = a.outcome ≡ o → unreturned a.returned ≡ 0

-- A task is answered or failed: in that step each question that waits for its outcome is returned.
abbrev pub TaskEndsReturn : Type 0
TaskEndsReturn =
    (s : State) (c : Command) (g : Granted) (x : Effects) (t : State) (k : TaskId) (o : ℕ) → IsReached s → EndsTask k c → map.get s.tasks k.0 ≡ Some o → Obeys s c (Ok g) x t
    → (q : ℕ) → IsReturnedBy o (map.get t.answers q)
