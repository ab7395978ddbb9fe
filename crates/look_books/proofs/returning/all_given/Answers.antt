use Rattle.std.proofs.Common.{◌∙◌}
use Rattle.look_books.proofs.Giving.{given_more, given_all}
use Rattle.look_books.proofs.returning.all_given.Goals as goal

pub loop-descriptor-preserved : goal.loop-descriptor-preserved
loop-descriptor-preserved c =
    given_more c.args.descriptors.now c.loop-descriptor.descriptor-index c.descriptor-item.result _ _ _ c.loop-descriptor-test.true c.descriptor-item.is c.loop-descriptor.invariant c.in_ok-push_given.ensures

pub returns : goal.returns
returns c = c.from_vec.ensures ∙ given_all c.args.descriptors.now c.loop-descriptor.descriptor-index _ _ c.loop-descriptor-test.false c.loop-descriptor.invariant
