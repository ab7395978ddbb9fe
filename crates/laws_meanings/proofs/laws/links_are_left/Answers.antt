use Rattle.laws_meanings.proofs.Links.{objects_by_links, broken_by_links}
use Rattle.laws_meanings.proofs.laws.links_are_left.Goals as goal

pub returns-clause-objects : goal.returns-clause-objects
returns-clause-objects c = objects_by_links c.calls_are_as_made.ensures.delivered c.given_references_are_new.ensures

pub returns-clause-broken : goal.returns-clause-broken
returns-clause-broken c = broken_by_links c.broken_calls_are_left.ensures
