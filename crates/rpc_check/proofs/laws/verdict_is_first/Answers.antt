use Rattle.rpc_check.proofs.First.{verdict_first}
use Rattle.rpc_check.proofs.laws.verdict_is_first.Goals as goal

pub returns : goal.returns
returns c = verdict_first
