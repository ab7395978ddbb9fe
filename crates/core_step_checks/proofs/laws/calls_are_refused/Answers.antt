use Rattle.core_step_checks.proofs.CallParts.{calls_are_refused}
use Rattle.core_step_checks.proofs.laws.calls_are_refused.Goals as goal

pub returns : goal.returns
returns c = calls_are_refused
