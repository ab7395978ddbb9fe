use Rattle.laws_returns.proofs.Adapting.{adapter_returns}
use Rattle.laws_returns.proofs.laws.adapter_returns.Goals as goal

pub returns : goal.returns
returns c = adapter_returns
