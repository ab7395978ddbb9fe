use Rattle.laws_meanings.proofs.Lasts.{places_last, moments_last}
use Rattle.laws_meanings.proofs.laws.node_meanings_last.Goals as goal

pub returns-clause-places : goal.returns-clause-places
returns-clause-places c = places_last

pub returns-clause-moments : goal.returns-clause-moments
returns-clause-moments c = moments_last
