use Rattle.std.proofs.Common.{arith}
use Rattle.rpc_codec_parts.proofs.Within.{path_within}
use Rattle.rpc_codec_parts.proofs.targets.tree_of_answer.Goals as goal

pub with_one-requires : goal.with_one-requires
with_one-requires c n le = rw c.in_ok-path.ensures (path_within c.args.path.now n (omega arith))
