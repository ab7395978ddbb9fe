use Rattle.laws_meanings.proofs.Unanswered.{broken_left}
use Rattle.laws_meanings.proofs.laws.broken_calls_are_left.Goals as goal

pub returns : goal.returns
returns c = broken_left c.calls_end_as_answered.ensures c.ends_of_calls_are_left.ensures
