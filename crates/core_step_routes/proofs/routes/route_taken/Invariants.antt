use Rattle.std.proofs.Common.{length}
use Rattle.rpc_machine.specs.Progress.{Progress}
use Rattle.rpc_machine.specs.Routing.{RoutesAll}
use Rattle.core_waits.specs.Waiting.{calls_of}
use Rattle.core_step.specs.InProgress.{progress_of, IsReady}
use Rattle.core_step_routes.proofs.routes.route_taken.Given as goal

-- What routes the calls that are left routes all.
abbrev pub invariant-loop-held : goal.invariant-loop-held
invariant-loop-held l = record {
  ready : IsReady l.step;
  rest : (p : Progress) → RoutesAll (progress_of l.step) (calls_of l.step.store.waits.taken) l.fn.node p → RoutesAll (progress_of l.fn.step) (calls_of l.fn.step.store.waits.taken) l.fn.node p;
}

abbrev pub decreases-loop-held : goal.decreases-loop-held
decreases-loop-held l = length l.step.store.waits.taken
