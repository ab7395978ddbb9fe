use Rattle.core_step.specs.InProgress.{progress_of}
use Rattle.core_step_settles.proofs.Drained.{drains_on, drained, goes_on}
use Rattle.core_step_settles.proofs.drains.drain.Goals as goal

pub arisen-smaller : goal.arisen-smaller
arisen-smaller c =
    goes_on (progress_of c.arisen.step) (progress_of c.next_arisen.new.step) (progress_of c.settle_outcome.new.step) (c.in-Some.key, c.in-Some.value) c.in-Some.ensures.some c.in_ok-settle_outcome.ensures.settled

pub arisen-preserved : goal.arisen-preserved
arisen-preserved c = record {
  ready = c.in_ok-settle_outcome.ensures.ready;
  none = c.in_ok-settle_outcome.ensures.taken;
  drains = drains_on (progress_of c.args.step.now) (progress_of c.arisen.step) (progress_of c.next_arisen.new.step) (progress_of c.settle_outcome.new.step) (c.in-Some.key, c.in-Some.value)
      c.arisen.invariant.drains c.in-Some.ensures.some c.in_ok-settle_outcome.ensures.settled;
}

pub returns-clause-drained : goal.returns-clause-drained
returns-clause-drained c =
    drained (progress_of c.args.step.now) (progress_of c.arisen.step) (progress_of c.next_arisen.new.step) c.arisen.invariant.drains c.in_default.ensures.none.0 c.in_default.ensures.none.1
