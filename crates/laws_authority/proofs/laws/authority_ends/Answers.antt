use Rattle.laws_authority.proofs.Ending.{over}
use Rattle.laws_authority.proofs.laws.authority_ends.Goals as goal

pub returns : goal.returns
returns c = over
