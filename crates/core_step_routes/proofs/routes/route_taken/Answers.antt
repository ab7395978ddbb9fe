use Rattle.core_step.specs.InProgress.{progress_of}
use Rattle.core_step_routes.proofs.Draining.{same_progress, all_next}
use Rattle.core_step_routes.proofs.routes.route_taken.Goals as goal

pub loop-held-preserved : goal.loop-held-preserved
loop-held-preserved c =
    let x = c.loop-held.step in
    let s = c.next_taken.new.store in record {
      ready = c.in_ok-route.ensures.ready;
      rest = λ p all. c.loop-held.invariant.rest p (all_next (progress_of x) (progress_of (record x { store = s })) (progress_of c.route.new.step) c.args.node c.in-Some.held x.store.waits.taken s.waits.taken c.route.new.step.store.waits.taken
          (same_progress x s c.next_taken.ensures.state) c.in-Some.ensures.value c.in_ok-route.ensures.taken c.in_ok-route.ensures.routed p all);
    }
