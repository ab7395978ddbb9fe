use Rattle.laws_merge.proofs.Crossed as crossed
use Rattle.laws_merge.proofs.laws.acks_are_needed.Goals as goal

pub returns : goal.returns
returns c = crossed.needed
