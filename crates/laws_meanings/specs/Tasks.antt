-- A task is answered once: one that is there was delivered, and was not answered.
use Rattle.std.specs.Prelude.{◌≡◌, ℕ, ◌+◌, ◌≤◌, false, ◌&&◌, nat_eq, Option, Some, List, [], ◌∷◌}
use Rattle.std.specs.FinMap as map
use Rattle.rpc_msg.specs.declared.ids.Vat.{Vat}
use Rattle.rpc_msg.specs.declared.ids.ObjectId.{ObjectId}
use Rattle.rpc_journal.specs.declared.entry.JournalEntry.{JournalEntry}
use Rattle.rpc_journal.specs.declared.entry.JournalEntry.TheVariants as entry
use Rattle.rpc_journal.specs.History.{same_vat}
use Rattle.rpc_machine.specs.World.{core}
use Rattle.rpc_machine.specs.Claims.{EveryRun}
use Rattle.laws_runs.specs.Scenes.{Scene, IsScene, is_over}
use Rattle.laws_meanings.specs.OnePlace.{counted}

-- How often the task with that number was delivered at that vat, and how often it was answered.
module _ (v : Vat) (k : ℕ) where
  abbrev pub task_in : JournalEntry → ℕ
  task_in (entry.Delivered u d) = counted (same_vat v u && nat_eq k d.task.0)
  task_in e = 0

  abbrev pub times_delivered : List JournalEntry → ℕ
  times_delivered [] = 0
  times_delivered (e ∷ es) = task_in e + times_delivered es

  abbrev pub reply_in : JournalEntry → ℕ
  reply_in (entry.Answered u t o refs) = counted (same_vat v u && nat_eq k t.0)
  reply_in e = 0

  abbrev pub times_answered : List JournalEntry → ℕ
  times_answered [] = 0
  times_answered (e ∷ es) = reply_in e + times_answered es

-- In each scene a task that is there was delivered once and not answered.
abbrev pub TasksAreOpen : Type 0
TasksAreOpen =
    (root_a root_b : Option ObjectId) (x : Scene)
    → IsScene root_a root_b x → (v : Vat) → is_over x v ≡ false
    → (k o : ℕ) → map.get (core x.world v).tasks k ≡ Some o → (times_delivered v k x.journal ≡ 1) × (times_answered v k x.journal ≡ 0)

-- In every run no number of a task is delivered twice at a vat, and each task is answered once at most, after it was
-- delivered.
abbrev pub TasksAreAnsweredOnce : Type 0
TasksAreAnsweredOnce =
    EveryRun (λ h xs w. (v : Vat) (k : ℕ) → (times_delivered v k h.journal ≤ 1) × (times_answered v k h.journal ≤ times_delivered v k h.journal))
