-- What a step does to tasks, to the outcomes that the peer waits for, and to its answers (docs/laws/hosts.md, "What is cancelled is
-- told").
use Rattle.std.specs.Prelude.{◌≡◌, ◌⊎◌, ℕ, ◌≤◌, true, Option, None, Some, List, [], ◌∷◌}
use Rattle.std.specs.FinMap as map
use Rattle.rpc_msg.specs.declared.message.Message.{Message}
use Rattle.rpc_msg.specs.declared.message.Message.TheVariants as message
use Rattle.rpc_msg.specs.declared.message.PlainMessage.{PlainMessage}
use Rattle.rpc_msg.specs.declared.message.PlainMessage.TheVariants as plain
use Rattle.rpc_msg.specs.declared.message.Call.{Call}
use Rattle.rpc_msg.specs.declared.message.Finish.{Finish}
use Rattle.rpc_machine.specs.rpc_journal.specs.declared.report.Delivery.{Delivery}
use Rattle.rpc_machine.specs.declared.calls.KeptOutcome.{KeptOutcome}
use Rattle.rpc_machine.specs.declared.command.Command.{Command}
use Rattle.rpc_machine.specs.declared.command.Effects.{Effects}
use Rattle.rpc_machine.specs.declared.command.Granted.{Granted}
use Rattle.rpc_machine.specs.declared.entries.AnswerEntry.{AnswerEntry}
use Rattle.rpc_machine.specs.Faults.{fault_of}
use Rattle.rpc_machine.specs.State.{State}
use Rattle.rpc_machine.specs.Steps.{Does, Handles}
use Rattle.laws_steps.specs.Callers.{IsOpenFor}
use Rattle.laws_steps.specs.NodesThere.{IsReached}

-- ---- Words

-- One of them is delivered as that task.
abbrev pub WasDelivered : ℕ → List Delivery → Type 0
WasDelivered k [] = ⊥
WasDelivered k (y ∷ ys) = (y.task.0 ≡ k) ⊎ WasDelivered k ys

-- It is there, and not known yet.
abbrev pub IsOpen : Option KeptOutcome → Type 0
IsOpen None = ⊥
IsOpen (Some x) = x.value ≡ None

-- The Finish of the answer came, before its Return was sent.
abbrev pub IsFinished : Option AnswerEntry → Type 0
IsFinished None = ⊥
IsFinished (Some a) = a.finished ≡ true

-- The Return of the answer was not sent.
abbrev pub IsOwed : Option AnswerEntry → Type 0
IsOwed None = ⊥
IsOwed (Some a) = a.returned ≡ None

abbrev pub ReturnsPlainly : ℕ → PlainMessage → Type 0
ReturnsPlainly q (plain.Return r) = r.answer.0 ≡ q
ReturnsPlainly q m = ⊥

abbrev pub ReturnsOf : ℕ → Message → Type 0
ReturnsOf q (message.Plain m) = ReturnsPlainly q m
ReturnsOf q (message.Unimplemented m) = ⊥

-- One of them is the Return of that question.
abbrev pub IsReturned : ℕ → List Message → Type 0
IsReturned q [] = ⊥
IsReturned q (m ∷ ms) = ReturnsOf q m ⊎ IsReturned q ms

-- What came is the Call of that question, or its Finish.
abbrev pub IsCallOf : ℕ → Option Message → Type 0
IsCallOf q came = (c : Call) × (came ≡ Some (message.Plain (plain.Call c))) × (c.question.0 ≡ q)

abbrev pub IsFinishOf : ℕ → Option Message → Type 0
IsFinishOf q came = (f : Finish) × (came ≡ Some (message.Plain (plain.Finish f))) × (f.question.0 ≡ q)

-- ---- A step

-- The step from s to t, in which that message came, or none.
pub record KeepsTasks (s : State) (came : Option Message) (x : Effects) (t : State) : Type 0 where
  -- a task is new only if it is delivered, with a number that none had
  pub delivered : (k o : ℕ) → map.get t.tasks k ≡ Some o → (map.get s.tasks k ≡ Some o) ⊎ ((s.next_task ≤ k) × WasDelivered k x.deliveries)
  pub rises : s.next_task ≤ t.next_task
  -- a task stays while its outcome is open
  pub stays : (k o : ℕ) → map.get s.tasks k ≡ Some o → IsOpen (map.get t.outcomes o) → map.get t.tasks k ≡ Some o
  -- an outcome for the peer is new and open only if its Call came
  pub opens : (o q : ℕ) → IsOpenFor q (map.get t.outcomes o) → IsOpenFor q (map.get s.outcomes o) ⊎ (IsCallOf q came × (map.get s.outcomes o ≡ None))
  -- an outcome that is there before and after it has one caller
  pub callers : (o : ℕ) (x y : KeptOutcome) → map.get s.outcomes o ≡ Some x → map.get t.outcomes o ≡ Some y → y.caller ≡ x.caller
  -- an answer is finished only by its Finish, and stays so while it is there
  pub finishes : (q : ℕ) → IsFinished (map.get t.answers q) → IsFinished (map.get s.answers q) ⊎ IsFinishOf q came
  pub finished : (q : ℕ) → IsFinished (map.get s.answers q) → (map.get t.answers q ≡ None) ⊎ IsFinished (map.get t.answers q)
  -- no Return is owed of an answer of which one is sent
  pub returned : (q : ℕ) → IsReturned q x.sends → IsOwed (map.get t.answers q) → ⊥
  -- the question of a Call has no answer, and that of a Finish has one of which none came before
  pub asks : (q : ℕ) → IsCallOf q came → map.get s.answers q ≡ None
  pub over : (q : ℕ) → IsFinishOf q came → (a : AnswerEntry) × (map.get s.answers q ≡ Some a) × (IsFinished (map.get s.answers q) → ⊥)

-- So of each step that is neither refused nor a fall.
pub record StepsKeepTasks : Type 0 where
  pub commands : (s : State) (c : Command) (g : Granted) (x : Effects) (t : State) → IsReached s → Does s c g x t → KeepsTasks s None x t
  pub messages : (s : State) (m : Message) (x : Effects) (t : State) → IsReached s → fault_of s m ≡ None → Handles s m x t → KeepsTasks s (Some m) x t
