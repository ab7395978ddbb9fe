use Rattle.laws_nodes.proofs.Owning.{have_their_own}
use Rattle.laws_nodes.proofs.laws.calls_have_their_own.Goals as goal

pub returns : goal.returns
returns c = have_their_own
