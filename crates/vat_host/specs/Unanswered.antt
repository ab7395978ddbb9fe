-- The calls of the peer that no Return answered, as a host keeps them (docs/protocol.md, "What an application is told").
use Rattle.std.specs.Prelude.{◌≡◌, ℕ, true, false, cond, is_some, IsSome, List, [], ◌∷◌, Option, None, Some, refl}
use Rattle.std.specs.Coded.{Coded, code_by, coded×, coded_ℕ, coded_option}
use Rattle.std.specs.FinMap as map
use Rattle.finite_maps.specs.Tally.{Map}
use Rattle.rpc_msg.specs.contracts.ids.TaskId as task_row
use Rattle.rpc_msg.specs.declared.ids.TaskId.{TaskId}
use Rattle.rpc_msg.specs.declared.message.Message.{Message}
use Rattle.rpc_msg.specs.declared.message.Message.TheVariants as message
use Rattle.rpc_msg.specs.declared.message.PlainMessage.{PlainMessage}
use Rattle.rpc_msg.specs.declared.message.PlainMessage.TheVariants as plain
use Rattle.rpc_journal.specs.declared.report.Delivery.{Delivery}
use Rattle.rpc_machine.specs.declared.calls.Caller.{Caller}
use Rattle.rpc_machine.specs.declared.calls.Caller.TheVariants as caller
use Rattle.rpc_machine.specs.declared.command.Effects.{Effects}
use Rattle.rpc_machine.specs.State.{State}
use Rattle.rpc_uses.specs.Results.{cancelled}
use Rattle.core_queries.specs.Tasks.{task_caller}

-- By question: the calls that came, each with its task, once it was delivered; and which of them are over: their Finish came, and they
-- were not told as cancelled.
pub record Unanswered : Type 0 where
  pub tasks : Map (Option TaskId)
  pub over : Map (Unit {0})

abbrev tasks_code : Coded (Map (Option TaskId))
tasks_code = map.code coded_ℕ (coded_option task_row.the_row.coded)

abbrev over_code : Coded (Map (Unit {0}))
over_code = map.code coded_ℕ (code_by ℕ coded_ℕ (λ _. 0) (λ _. tt) (λ _. refl))

abbrev pub unanswered_code : Coded Unanswered
unanswered_code =
    code_by (Map (Option TaskId) × Map (Unit {0})) (coded× tasks_code over_code) (λ u. (u.tasks, u.over))
    (λ p. record { tasks = p.0; over = p.1 })
    (λ _. refl)

abbrev pub none_unanswered : Unanswered
none_unanswered = record { tasks = map.empty; over = map.empty }

-- ---- a message comes

-- A Call comes. If its question has a call already, it is a fault, and nothing is kept of it.
abbrev pub asked : Option (Option TaskId) → ℕ → Unanswered → Unanswered
asked None q u = record u { tasks = map.insert u.tasks q None }
asked (Some t) q u = u

-- The Finish of a question comes. If its call was answered, nothing is kept of it.
abbrev pub finished : Option (Option TaskId) → ℕ → Unanswered → Unanswered
finished None q u = u
finished (Some t) q u = record u { over = map.insert u.over q tt }

abbrev pub heard_plainly : PlainMessage → Unanswered → Unanswered
heard_plainly (plain.Call c) u = asked (map.get u.tasks c.question.0) c.question.0 u
heard_plainly (plain.Finish f) u = finished (map.get u.tasks f.question.0) f.question.0 u
heard_plainly m u = u

abbrev pub heard : Message → Unanswered → Unanswered
heard (message.Plain m) u = heard_plainly m u
heard (message.Unimplemented m) u = u

-- A message comes to a vat in that state. Of one that is down, what is kept stays as it is.
abbrev pub heard_at : State → Message → Unanswered → Unanswered
heard_at s m u = cond (is_some s.down) u (heard m u)

-- ---- what follows of a step

abbrev pub with_task : Option (Option TaskId) → ℕ → TaskId → Unanswered → Unanswered
with_task None q t u = u
with_task (Some before) q t u = record u { tasks = map.insert u.tasks q (Some t) }

-- A call is delivered as a task, whose outcome that caller is told of.
abbrev pub served_for : Option Caller → TaskId → Unanswered → Unanswered
served_for None t u = u
served_for (Some (caller.Application c)) t u = u
served_for (Some (caller.Peer q)) t u = with_task (map.get u.tasks q.0) q.0 t u

abbrev pub served : State → List Delivery → Unanswered → Unanswered
served s [] u = u
served s (d ∷ ds) u = served s ds (served_for (task_caller s d.task) d.task u)

abbrev pub closed : ℕ → Unanswered → Unanswered
closed q u = record { tasks = map.remove u.tasks q; over = map.remove u.over q }

abbrev pub returned_plainly : PlainMessage → Unanswered → Unanswered
returned_plainly (plain.Return r) u = closed r.answer.0 u
returned_plainly m u = u

-- A message goes out: a Return answers its question.
abbrev pub returned : Message → Unanswered → Unanswered
returned (message.Plain m) u = returned_plainly m u
returned (message.Unimplemented m) u = u

abbrev pub answered : List Message → Unanswered → Unanswered
answered [] u = u
answered (m ∷ ms) u = answered ms (returned m u)

-- The core took a step, and is in that state.
abbrev pub followed : Effects → State → Unanswered → Unanswered
followed e s u = answered e.sends (served s e.deliveries u)

-- ---- what is told

-- The call of that question is over and was not told to be, that is its task, and nobody has use for its results.
pub record IsCancelledAt (s : State) (u : Unanswered) (q : ℕ) (t : TaskId) : Type 0 where
  pub over : IsSome (map.get u.over q)
  pub task : map.get u.tasks q ≡ Some (Some t)
  pub cancelled : cancelled s t ≡ true

abbrev pub NoneIsCancelledOf : State → Unanswered → Type 0
NoneIsCancelledOf s u = (q : ℕ) (t : TaskId) → IsSome (map.get u.over q) → map.get u.tasks q ≡ Some (Some t) → cancelled s t ≡ false

abbrev pub told_of : ℕ → Unanswered → Unanswered
told_of q u = record u { over = map.remove u.over q }
