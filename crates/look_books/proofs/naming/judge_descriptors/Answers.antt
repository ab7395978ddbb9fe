use Rattle.look_books.specs.Ends.{kept_of}
use Rattle.look_books.proofs.Finding.{leaves_all, descriptors_more, descriptors_all}
use Rattle.look_books.proofs.naming.judge_descriptors.Goals as goal

pub loop-index-init : goal.loop-index-init
loop-index-init c = leaves_all _ _

pub loop-index-preserved : goal.loop-index-preserved
loop-index-preserved c =
    descriptors_more (kept_of c.args.own.now) (kept_of c.args.heard.now) c.args.descriptors.now c.loop-index.index c.index-descriptors-index.result c.loop-index-test.true c.index-descriptors-index.is c.loop-index.invariant c.in_ok-judge_descriptor.ensures

pub returns : goal.returns
returns c = descriptors_all (kept_of c.args.own.now) (kept_of c.args.heard.now) c.args.descriptors.now c.loop-index.index c.loop-index-test.false c.loop-index.invariant
