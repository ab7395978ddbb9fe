use Rattle.laws_nodes.proofs.Pairs.{are_paired}
use Rattle.laws_nodes.proofs.Loopbacks.{loopbacks}
use Rattle.laws_nodes.proofs.laws.embargoes_pair.Goals as goal

pub returns-clause-paired : goal.returns-clause-paired
returns-clause-paired c = are_paired

pub returns-clause-loopbacks : goal.returns-clause-loopbacks
returns-clause-loopbacks c = loopbacks
