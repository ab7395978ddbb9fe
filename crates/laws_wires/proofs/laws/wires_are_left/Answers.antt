use Rattle.laws_wires.proofs.Behind.{back_is_left, out_is_left, wires_live}
use Rattle.laws_wires.proofs.laws.wires_are_left.Goals as goal

pub returns-clause-longer : goal.returns-clause-longer
returns-clause-longer c = wires_live

pub returns-clause-back : goal.returns-clause-back
returns-clause-back c = back_is_left

pub returns-clause-out : goal.returns-clause-out
returns-clause-out c = out_is_left
