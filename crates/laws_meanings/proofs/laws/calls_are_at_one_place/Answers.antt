use Rattle.laws_meanings.proofs.Placing.{at_one_place, deliveries_first, delivered_once}
use Rattle.laws_meanings.proofs.laws.calls_are_at_one_place.Goals as goal

pub returns-clause-places : goal.returns-clause-places
returns-clause-places c = at_one_place

pub returns-clause-deliveries : goal.returns-clause-deliveries
returns-clause-deliveries c = deliveries_first

pub returns-clause-runs : goal.returns-clause-runs
returns-clause-runs c = delivered_once
