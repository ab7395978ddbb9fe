use Rattle.laws_ends.proofs.Names as names
use Rattle.laws_ends.proofs.laws.names_stay.Goals as goal

pub returns : goal.returns
returns c = names.names_stay
