use Rattle.laws_wires.proofs.AtFirst.{new_vats_mean}
use Rattle.laws_wires.proofs.laws.wires_mean_at_first.Goals as goal

pub returns : goal.returns
returns c = new_vats_mean
