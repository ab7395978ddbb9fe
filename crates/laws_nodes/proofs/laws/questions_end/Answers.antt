use Rattle.laws_nodes.proofs.Ending.{each_ends}
use Rattle.laws_nodes.proofs.laws.questions_end.Goals as goal

pub returns : goal.returns
returns c = each_ends
