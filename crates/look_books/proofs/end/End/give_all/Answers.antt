use Rattle.std.proofs.Common.{refl}
use Rattle.look_books.specs.Ends.{kept_of}
use Rattle.look_books.proofs.Keeping.{gives_more, gives_all}
use Rattle.look_books.proofs.end.End.give_all.Goals as goal

pub loop-index-init : goal.loop-index-init
loop-index-init c = refl

pub loop-index-preserved : goal.loop-index-preserved
loop-index-preserved c =
    gives_more c.args.number c.args.origin c.args.descriptors.now c.loop-index.index c.index-descriptors-index.result _ (kept_of c.loop-index.self) _ c.loop-index-test.true c.index-descriptors-index.is c.loop-index.invariant c.in_ok-give_one.ensures

pub returns : goal.returns
returns c = gives_all c.args.number c.args.origin c.args.descriptors.now c.loop-index.index _ (kept_of c.loop-index.self) c.loop-index-test.false c.loop-index.invariant
