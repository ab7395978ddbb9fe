use Rattle.std.proofs.Common.{arith}
use Rattle.capn_trees.specs.Trees.{no_trees}
use Rattle.rpc_codec_parts.specs.Descriptors.{descriptor_pointer}
use Rattle.rpc_codec_parts.proofs.Within.{pointer_within, trees_within, none_within}
use Rattle.rpc_codec_parts.proofs.descriptors.row_of.Goals as goal

pub of-requires : goal.of-requires
of-requires c =
    rw (c.push_reserved.ensures.items, c.in_ok-trees.ensures.items, c.in_ok-answer.ensures)
    (trees_within 2 (descriptor_pointer c.args.descriptor.now) no_trees (pointer_within c.args.descriptor.now) (none_within 2) 127 (omega arith))
