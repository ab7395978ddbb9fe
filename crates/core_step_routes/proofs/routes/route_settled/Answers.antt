use Rattle.std.proofs.Common.{◌≡◌, ◌+◌, ◌≤◌, OnOk, length, sym, subst}
use Rattle.rpc_machine.specs.declared.node.Node.{Node}
use Rattle.rpc_machine.specs.Routing.{RoutedTo}
use Rattle.core_store.specs.declared.store.Store.{Store}
use Rattle.core_step.specs.InProgress.{progress_of, IsReady}
use Rattle.core_step_routes.proofs.routes.route_settled.Goals as goal

pub route_on-requires-clause-ready : goal.route_on-requires-clause-ready
route_on-requires-clause-ready c = subst (λ (x : Store). IsReady (record (c.args.step.now) { store = x })) (sym c.shorten-at.ensures.same) c.requires.ready

pub route_on-requires-clause-slack : goal.route_on-requires-clause-slack
route_on-requires-clause-slack c = subst (λ (x : Store). length c.args.call.request.caps + 2 ≤ x.slack) (sym c.shorten-at.ensures.same) c.requires.slack

pub returns : goal.returns
returns c =
    let new = c.route_on.new.step in record {
      routed =
          subst (λ (n : Node). OnOk c.route_on.result (RoutedTo (progress_of c.args.step.now) c.args.call n (progress_of new))) c.shorten-at.ensures.end
          (subst (λ (x : Store). OnOk c.route_on.result (RoutedTo (progress_of (record (c.args.step.now) { store = x })) c.args.call c.shorten-at.result (progress_of new))) c.shorten-at.ensures.same c.route_on.ensures.routed);
      taken = subst (λ (x : Store). OnOk c.route_on.result (new.store.waits.taken ≡ x.waits.taken)) c.shorten-at.ensures.same c.route_on.ensures.taken;
      ready = c.route_on.ensures.ready;
    }
