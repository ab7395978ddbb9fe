use Rattle.capn_stream.proofs.Runs.{pieces}
use Rattle.capn_stream.proofs.laws.pieces_do_not_matter.Goals as goal

pub returns : goal.returns
returns c = pieces
