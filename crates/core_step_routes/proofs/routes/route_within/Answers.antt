use Rattle.std.proofs.Common.{sym, ap, subst, ◌∙◌}
use Rattle.rpc_machine.specs.declared.node.Node.{Node}
use Rattle.rpc_machine.specs.Nodes.{link}
use Rattle.rpc_machine.specs.Routing.{RoutedTo}
use Rattle.core_store.specs.Holding.{state_of}
use Rattle.core_store.proofs.Walking.{settles_there}
use Rattle.core_step.specs.InProgress.{progress_of}
use Rattle.core_step_routes.proofs.routes.route_within.Goals as goal

pub returns-clause-routed : goal.returns-clause-routed
returns-clause-routed c =
    let s = state_of c.args.step.now.store in
    let there = settles_there s c.args.node.now (ap (link s) c.in-Object.is) in
    subst (λ (n : Node). RoutedTo (progress_of c.args.step.now) c.args.call n (progress_of c.deliver_if_numbered.new.step)) (sym c.in-Object.is ∙ there) c.in_ok-deliver_if_numbered.ensures.delivered
