use Rattle.vat_connection.proofs.Pieces.{pieces_are_one}
use Rattle.vat_connection.proofs.laws.pieces_are_one.Goals as goal

pub returns : goal.returns
returns c = pieces_are_one c.pieces_stand.ensures
