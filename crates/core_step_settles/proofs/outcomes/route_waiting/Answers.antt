use Rattle.std.proofs.Common.{[], refl, subst}
use Rattle.std.specs.FinMap as map
use Rattle.rpc_machine.specs.Progress.{Progress}
use Rattle.rpc_machine.specs.Routing.{RoutesHeld}
use Rattle.core_store.specs.Holding.{state_of}
use Rattle.core_step.specs.InProgress.{progress_of}
use Rattle.core_step_settles.proofs.Known.{none_to_take}
use Rattle.core_step_settles.proofs.outcomes.route_waiting.Goals as goal

pub returns-then-not-is_awaited-clause-routed : goal.returns-then-not-is_awaited-clause-routed
returns-then-not-is_awaited-clause-routed c =
    let s = state_of c.args.step.now.store in
    (s, [], none_to_take s c.args.key c.in-Some._caller (map.get s.outcomes c.args.key) refl c.in-Some.ensures c.if-not-is_awaited.ensures, refl)

pub returns-clause-routed : goal.returns-clause-routed
returns-clause-routed c =
    let freed = c.free_held.new.step in (
      state_of freed.store,
      freed.store.waits.taken,
      c.in_ok-free_held.ensures.freed,
      subst (λ (p : Progress). RoutesHeld p c.args.key freed.store.waits.taken (progress_of c.route_held.new.step)) c.in_ok-free_held.ensures.same c.in_ok-route_held.ensures.routed,
    )
