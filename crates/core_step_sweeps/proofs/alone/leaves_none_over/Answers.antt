use Rattle.core_step_sweeps.proofs.Single.{outcome_noted}
use Rattle.core_step_sweeps.proofs.alone.leaves_none_over.Goals as goal

pub returns : goal.returns
returns c = λ yes. outcome_noted c.args.store.now c.requires.sound c.requires.none_taken c.in-Some.key c.in-Some.ensures (c.says_nothing.ensures yes)
