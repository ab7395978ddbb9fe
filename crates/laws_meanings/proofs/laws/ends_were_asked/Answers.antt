use Rattle.laws_meanings.proofs.Asking.{ends_asked}
use Rattle.laws_meanings.proofs.laws.ends_were_asked.Goals as goal

pub returns : goal.returns
returns c = ends_asked
