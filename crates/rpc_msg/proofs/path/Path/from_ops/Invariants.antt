use Rattle.std.proofs.Common.{◌≡◌, take}
use Rattle.rpc_msg.proofs.path.Path.from_ops.Given as goal

abbrev pub invariant-loop-op : goal.invariant-loop-op
invariant-loop-op l = l.path ≡ take l.op-index l.ops
