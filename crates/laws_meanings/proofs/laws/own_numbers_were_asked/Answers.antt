use Rattle.laws_meanings.proofs.Asking.{numbers_asked}
use Rattle.laws_meanings.proofs.laws.own_numbers_were_asked.Goals as goal

pub returns : goal.returns
returns c = numbers_asked
