use Rattle.rpc_msg.specs.Op.TheVariants.{Noop}
use Rattle.rpc_codec_parts.specs.Fitting.{FitsOp}
use Rattle.rpc_outgoing.proofs.Each.{all_from, all_end}
use Rattle.rpc_outgoing.proofs.widths.fit_ops.Goals as goal

pub loop-op-init : goal.loop-op-init
loop-op-init c = λ rest. rest

pub loop-op-preserved : goal.loop-op-preserved
loop-op-preserved c = λ rest. c.loop-op.invariant (all_from FitsOp c.args.ops.now c.loop-op.op-index Noop c.loop-op-test.true c.fit_op.ensures rest)

pub returns : goal.returns
returns c = c.loop-op.invariant (all_end FitsOp c.args.ops.now c.loop-op.op-index c.loop-op-test.false)
