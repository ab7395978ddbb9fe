use Rattle.laws_runs.proofs.Numbered.{numbered}
use Rattle.laws_runs.proofs.laws.calls_are_numbered.Goals as goal

pub returns : goal.returns
returns c = numbered
