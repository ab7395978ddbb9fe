use Rattle.std.proofs.Common.{subst}
use Rattle.rpc_codec_parts.specs.Fitting.{FitsDescriptor}
use Rattle.rpc_outgoing.proofs.Each.{all_from, all_end}
use Rattle.rpc_outgoing.proofs.widths.fit_descriptors.Goals as goal

pub loop-descriptor-init : goal.loop-descriptor-init
loop-descriptor-init c = λ rest. rest

pub loop-descriptor-preserved : goal.loop-descriptor-preserved
loop-descriptor-preserved c = λ rest. c.loop-descriptor.invariant
    (all_from FitsDescriptor c.args.descriptors.now c.loop-descriptor.descriptor-index c.descriptor-item.result c.loop-descriptor-test.true
    (subst FitsDescriptor c.descriptor-item.is c.fit_descriptor.ensures) rest)

pub returns : goal.returns
returns c = c.loop-descriptor.invariant (all_end FitsDescriptor c.args.descriptors.now c.loop-descriptor.descriptor-index c.loop-descriptor-test.false)
