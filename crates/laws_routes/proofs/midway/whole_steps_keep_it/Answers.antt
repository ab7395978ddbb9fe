use Rattle.laws_routes.proofs.StepsFollow.{commands, ends}
use Rattle.laws_routes.proofs.midway.whole_steps_keep_it.Goals as goal

pub returns-clause-ends : goal.returns-clause-ends
returns-clause-ends c = ends

pub returns-clause-commands : goal.returns-clause-commands
returns-clause-commands c = commands
