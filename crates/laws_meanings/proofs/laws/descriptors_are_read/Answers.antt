use Rattle.laws_meanings.proofs.ReadLabels.{descriptors_read, targets_read}
use Rattle.laws_meanings.proofs.laws.descriptors_are_read.Goals as goal

pub returns-clause-descriptors : goal.returns-clause-descriptors
returns-clause-descriptors c = descriptors_read

pub returns-clause-targets : goal.returns-clause-targets
returns-clause-targets c = targets_read
