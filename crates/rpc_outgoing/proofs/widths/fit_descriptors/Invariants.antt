use Rattle.std.proofs.Common.{drop}
use Rattle.std.specs.List.{AllByRecursion}
use Rattle.rpc_codec_parts.specs.Fitting.{FitsDescriptor}
use Rattle.rpc_outgoing.proofs.widths.fit_descriptors.Given as goal

-- Where the rest fit, all do.
abbrev pub invariant-loop-descriptor : goal.invariant-loop-descriptor
invariant-loop-descriptor l = AllByRecursion FitsDescriptor (drop l.descriptor-index l.descriptors) → AllByRecursion FitsDescriptor l.descriptors
