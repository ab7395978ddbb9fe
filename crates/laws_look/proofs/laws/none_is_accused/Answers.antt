use Rattle.laws_look.proofs.Seen.{none_is_accused}
use Rattle.laws_look.proofs.laws.none_is_accused.Goals as goal

pub returns : goal.returns
returns c = none_is_accused c.sends_raise_counts.ensures c.embargoes_pair.ensures.loopbacks
