use Rattle.capn_reading.proofs.Rooted.{framed_read, not_unframed}
use Rattle.capn_reading.proofs.view.View.of.Goals as goal

pub unreachable-requires : goal.unreachable-requires
unreachable-requires c = not_unframed c.args.bytes.now c.args.caps c.in_default.field-0 c.requires c.in_default.ensures

pub invariant_of-result : goal.invariant_of-result
invariant_of-result c = (framed_read c.args.bytes.now c.args.caps c.in-Ok.message c.requires c.in-Ok.ensures).0

pub returns : goal.returns
returns c = (framed_read c.args.bytes.now c.args.caps c.in-Ok.message c.requires c.in-Ok.ensures).1
