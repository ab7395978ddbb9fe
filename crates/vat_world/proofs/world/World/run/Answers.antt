use Rattle.vat_world.proofs.Reaching.{runs_more, run_keeps}
use Rattle.vat_world.proofs.world.World.run.Goals as goal

pub loop-event-preserved : goal.loop-event-preserved
loop-event-preserved c = rw c.give_back.ensures (runs_more _ _ _ _ _ _ c.loop-event.invariant c.step-answer.ensures.steps)

pub returns-clause-bootstraps : goal.returns-clause-bootstraps
returns-clause-bootstraps c = run_keeps c.bootstraps_stay.ensures.events _ _ _ c.loop-event.invariant
