use Rattle.core_steps.proofs.Drained.{none_arises}
use Rattle.core_steps.proofs.settlement.settle_step.Goals as goal

pub returns-clause-settled : goal.returns-clause-settled
returns-clause-settled c = none_arises c.in_ok-drain.ensures.drained
