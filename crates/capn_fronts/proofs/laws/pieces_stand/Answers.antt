use Rattle.capn_fronts.proofs.Refusing.{pieces_stand}
use Rattle.capn_fronts.proofs.laws.pieces_stand.Goals as goal

pub returns : goal.returns
returns c = pieces_stand
