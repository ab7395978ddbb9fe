use Rattle.std.proofs.Common.{subst}
use Rattle.rpc_machine.specs.Progress.{Progress}
use Rattle.rpc_machine.specs.Routing.{Routes}
use Rattle.core_step.specs.InProgress.{progress_of}
use Rattle.core_step_routes.proofs.routes.route.Goals as goal

pub returns-clause-routed : goal.returns-clause-routed
returns-clause-routed c = subst (λ (p : Progress). Routes p c.args.call c.args.node.now (progress_of c.route_within.new.step)) c.reserve.ensures.same c.in_ok-route_within.ensures.routed
