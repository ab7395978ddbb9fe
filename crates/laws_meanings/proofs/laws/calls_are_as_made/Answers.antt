use Rattle.laws_meanings.proofs.Making.{calls_made, deliveries_made}
use Rattle.laws_meanings.proofs.laws.calls_are_as_made.Goals as goal

pub returns-clause-about : goal.returns-clause-about
returns-clause-about c = calls_made

pub returns-clause-delivered : goal.returns-clause-delivered
returns-clause-delivered c = deliveries_made
