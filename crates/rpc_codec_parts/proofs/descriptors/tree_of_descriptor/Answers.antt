use Rattle.std.proofs.Common.{arith}
use Rattle.rpc_codec_parts.proofs.Within.{pointer_within}
use Rattle.rpc_codec_parts.proofs.descriptors.tree_of_descriptor.Goals as goal

pub with_one-requires : goal.with_one-requires
with_one-requires c n le = rw c.in_ok-answer.ensures (pointer_within c.args.descriptor.now n (omega arith))

pub returns-clause-depth : goal.returns-clause-depth
returns-clause-depth c = c.with_one.ensures.depth 64 (λ n le. rw c.in_ok-answer.ensures (pointer_within c.args.descriptor.now n (omega arith)))
