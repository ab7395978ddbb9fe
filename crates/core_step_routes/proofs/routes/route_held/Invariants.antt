use Rattle.std.proofs.Common.{length}
use Rattle.rpc_machine.specs.Progress.{Progress}
use Rattle.rpc_machine.specs.Routing.{RoutesHeld}
use Rattle.core_step.specs.InProgress.{progress_of, IsReady}
use Rattle.core_step_routes.proofs.routes.route_held.Given as goal

-- What routes the calls that are left routes all.
abbrev pub invariant-loop-held : goal.invariant-loop-held
invariant-loop-held l = record {
  ready : IsReady l.step;
  rest : (p : Progress) → RoutesHeld (progress_of l.step) l.o l.step.store.waits.taken p → RoutesHeld (progress_of l.fn.step) l.o l.fn.step.store.waits.taken p;
}

abbrev pub decreases-loop-held : goal.decreases-loop-held
decreases-loop-held l = length l.step.store.waits.taken
