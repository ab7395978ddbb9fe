use Rattle.core_step_checks.proofs.FaultParts.{faults_in_parts, taking_changes_none}
use Rattle.core_step_checks.proofs.laws.faults_in_parts.Goals as goal

pub returns-clause-parts : goal.returns-clause-parts
returns-clause-parts c = faults_in_parts

pub returns-clause-taken : goal.returns-clause-taken
returns-clause-taken c = taking_changes_none
