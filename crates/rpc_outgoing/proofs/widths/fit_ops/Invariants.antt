use Rattle.std.proofs.Common.{drop}
use Rattle.std.specs.List.{AllByRecursion}
use Rattle.rpc_codec_parts.specs.Fitting.{FitsOp}
use Rattle.rpc_outgoing.proofs.widths.fit_ops.Given as goal

-- Where the rest fit, all do.
abbrev pub invariant-loop-op : goal.invariant-loop-op
invariant-loop-op l = AllByRecursion FitsOp (drop l.op-index l.ops) → AllByRecursion FitsOp l.ops
