use Rattle.vat_joined.proofs.joined.Joined.journal.Goals as goal

pub returns-clause-in_order : goal.returns-clause-in_order
returns-clause-in_order c one = (c.promises.ensures.promised.promised one).in_order

pub returns-clause-numbered : goal.returns-clause-numbered
returns-clause-numbered c one = (c.promises.ensures.promised.promised one).numbered

pub returns-clause-at_one : goal.returns-clause-at_one
returns-clause-at_one c one = (c.promises.ensures.promised.promised one).at_one

pub returns-clause-to_object : goal.returns-clause-to_object
returns-clause-to_object c one = (c.promises.ensures.promised.promised one).to_one

pub returns-clause-means_one : goal.returns-clause-means_one
returns-clause-means_one c one = (c.promises.ensures.promised.promised one).means_one

pub returns-clause-lasting : goal.returns-clause-lasting
returns-clause-lasting c one = (c.promises.ensures.promised.promised one).lasting

pub returns-clause-in_full : goal.returns-clause-in_full
returns-clause-in_full c one = (c.promises.ensures.promised.promised one).in_full

pub returns-clause-none_lost : goal.returns-clause-none_lost
returns-clause-none_lost c one = (c.promises.ensures.promised.promised one).none_lost

pub returns-clause-as_made : goal.returns-clause-as_made
returns-clause-as_made c one = (c.promises.ensures.promised.promised one).as_made

pub returns-clause-ends : goal.returns-clause-ends
returns-clause-ends c one = (c.promises.ensures.promised.promised one).ends

pub returns-clause-quiet : goal.returns-clause-quiet
returns-clause-quiet c one = (c.promises.ensures.promised.promised one).quiet

pub returns-clause-counts : goal.returns-clause-counts
returns-clause-counts c one = (c.promises.ensures.promised.promised one).counts

pub returns-clause-unrefused : goal.returns-clause-unrefused
returns-clause-unrefused c one = (c.promises.ensures.promised.promised one).unrefused

pub returns-clause-downs : goal.returns-clause-downs
returns-clause-downs c one = (c.promises.ensures.promised.promised one).downs

pub returns-clause-told : goal.returns-clause-told
returns-clause-told c one = (c.promises.ensures.promised.promised one).told

pub returns-clause-one_world : goal.returns-clause-one_world
returns-clause-one_world c = c.promises.ensures.promised.one_world

pub returns-clause-sound : goal.returns-clause-sound
returns-clause-sound c one = c.promises.ensures.promised.sound one

pub returns-clause-as_told : goal.returns-clause-as_told
returns-clause-as_told c one = c.promises.ensures.promised.as_told one
