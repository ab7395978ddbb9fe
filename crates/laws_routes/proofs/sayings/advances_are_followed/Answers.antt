use Rattle.laws_routes.proofs.HeadAdvances.{advances}
use Rattle.laws_routes.proofs.sayings.advances_are_followed.Goals as goal

pub returns : goal.returns
returns c = advances
