use Rattle.laws_authority.proofs.Targets.{aimed}
use Rattle.laws_authority.proofs.laws.calls_are_aimed.Goals as goal

pub returns : goal.returns
returns c = aimed
