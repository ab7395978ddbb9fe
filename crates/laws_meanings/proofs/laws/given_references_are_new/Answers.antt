use Rattle.laws_meanings.proofs.Giving.{given_are_new}
use Rattle.laws_meanings.proofs.laws.given_references_are_new.Goals as goal

pub returns : goal.returns
returns c = given_are_new
