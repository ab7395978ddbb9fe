-- Of each run of one vat, whatever its peer sends: what is told once at most (docs/laws/authority.md, "At most once").
use Rattle.std.specs.Prelude.{ℕ, ◌+◌, ◌≤◌, nat_eq, List, [], ◌∷◌}
use Rattle.rpc_machine.specs.rpc_journal.specs.declared.report.Delivery.{Delivery}
use Rattle.rpc_machine.specs.rpc_journal.specs.declared.report.Ended.{Ended}
use Rattle.rpc_machine.specs.declared.command.Command.{Command}
use Rattle.rpc_machine.specs.declared.command.Command.TheVariants as command
use Rattle.rpc_machine.specs.State.{State}
use Rattle.laws_nodes.specs.Ones.{one_if}
use Rattle.laws_authority.specs.Runs.{Event, DidCommand, GotMessage, RunsTo}

-- ---- In the effects of a step, and in its command

-- How often the call with the number k ended.
abbrev pub ends_in : ℕ → List Ended → ℕ
ends_in k [] = 0
ends_in k (x ∷ xs) = one_if (nat_eq k x.call.0) + ends_in k xs

-- How often the task with the number k was delivered.
abbrev pub tasks_in : ℕ → List Delivery → ℕ
tasks_in k [] = 0
tasks_in k (y ∷ ys) = one_if (nat_eq k y.task.0) + tasks_in k ys

-- Once, if the command answers or fails the task with the number k.
abbrev pub answers_of : ℕ → Command → ℕ
answers_of k (command.Answer t payload refs) = one_if (nat_eq k t.0)
answers_of k (command.Fail t exception) = one_if (nat_eq k t.0)
answers_of k c = 0

-- ---- In a log

abbrev pub times_ended : ℕ → List Event → ℕ
times_ended k [] = 0
times_ended k (DidCommand s c x ∷ log) = ends_in k x.answers + times_ended k log
times_ended k (GotMessage s m x ∷ log) = ends_in k x.answers + times_ended k log

abbrev pub times_delivered : ℕ → List Event → ℕ
times_delivered k [] = 0
times_delivered k (DidCommand s c x ∷ log) = tasks_in k x.deliveries + times_delivered k log
times_delivered k (GotMessage s m x ∷ log) = tasks_in k x.deliveries + times_delivered k log

-- How often a command that answers or fails the task was done.
abbrev pub times_answered : ℕ → List Event → ℕ
times_answered k [] = 0
times_answered k (DidCommand s c x ∷ log) = answers_of k c + times_answered k log
times_answered k (GotMessage s m x ∷ log) = times_answered k log

pub record AllAtMostOnce : Type 0 where
  -- no call of the application ends twice
  pub ends : (s : State) (log : List Event) → RunsTo s log → (k : ℕ) → times_ended k log ≤ 1
  -- no task is delivered twice
  pub deliveries : (s : State) (log : List Event) → RunsTo s log → (k : ℕ) → times_delivered k log ≤ 1
  -- a task that is answered was delivered, and none is answered twice
  pub answers : (s : State) (log : List Event) → RunsTo s log → (k : ℕ) → times_answered k log ≤ times_delivered k log
