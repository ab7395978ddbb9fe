use Rattle.laws_returns.proofs.Talking.{each_gets_one}
use Rattle.laws_returns.proofs.laws.each_gets_one_return.Goals as goal

pub returns : goal.returns
returns c = each_gets_one c.steps_return.ensures.steps c.adapter_returns.ensures c.steps_return.ensures.wait
