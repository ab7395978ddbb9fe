use Rattle.laws_meanings.proofs.Links.{links_last, led_to_objects, led_to_broken}
use Rattle.laws_meanings.proofs.laws.links_are_meanings.Goals as goal

pub returns-clause-last : goal.returns-clause-last
returns-clause-last c = links_last

pub returns-clause-objects : goal.returns-clause-objects
returns-clause-objects c = led_to_objects

pub returns-clause-broken : goal.returns-clause-broken
returns-clause-broken c = led_to_broken
