use Rattle.peer_large.proofs.Small.{contents_are_small}
use Rattle.peer_large.proofs.laws.contents_are_small.Goals as goal

pub returns : goal.returns
returns c = contents_are_small
