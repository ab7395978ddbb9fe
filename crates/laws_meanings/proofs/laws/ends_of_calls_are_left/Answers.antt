use Rattle.laws_meanings.proofs.Leaving.{calls_left}
use Rattle.laws_meanings.proofs.laws.ends_of_calls_are_left.Goals as goal

pub returns : goal.returns
returns c = calls_left c.ends_were_asked.ensures c.bootstraps_end_with_roots.ensures.ends c.meanings_are_left.ensures.answers
