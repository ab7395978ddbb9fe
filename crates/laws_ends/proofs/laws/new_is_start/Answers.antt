use Rattle.laws_ends.proofs.NewCores as cores
use Rattle.laws_ends.proofs.laws.new_is_start.Goals as goal

pub returns : goal.returns
returns c = cores.new_is_start
