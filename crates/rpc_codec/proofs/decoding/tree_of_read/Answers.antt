use Rattle.std.proofs.Common.{◌∙◌}
use Rattle.capn_reading.proofs.Rooted.{framed_read, not_unframed}
use Rattle.rpc_codec.specs.Decoding.{any_caps}
use Rattle.rpc_codec.proofs.decoding.tree_of_read.Goals as goal

pub unreachable-requires : goal.unreachable-requires
unreachable-requires c = not_unframed c.args.bytes.now any_caps c.in_default.field-0 c.requires c.in_default.ensures

pub build_tree-requires : goal.build_tree-requires
build_tree-requires c = (framed_read c.args.bytes.now any_caps c.in-Ok.message c.requires c.in-Ok.ensures).0

pub returns : goal.returns
returns c = c.in_ok-tree.ensures ∙ (framed_read c.args.bytes.now any_caps c.in-Ok.message c.requires c.in-Ok.ensures).1
