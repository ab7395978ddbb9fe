use Rattle.laws_routes.proofs.HeadSwitched.{switches}
use Rattle.laws_routes.proofs.HeadTurned.{turns_back}
use Rattle.laws_routes.proofs.laws.references_advance.Goals as goal

pub returns-clause-switched : goal.returns-clause-switched
returns-clause-switched c = switches

pub returns-clause-embargoed : goal.returns-clause-embargoed
returns-clause-embargoed c = turns_back
