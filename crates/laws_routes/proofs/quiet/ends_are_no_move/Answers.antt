use Rattle.laws_routes.proofs.StepEnds.{swept}
use Rattle.laws_routes.proofs.quiet.ends_are_no_move.Goals as goal

pub returns : goal.returns
returns c = swept
