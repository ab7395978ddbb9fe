use Rattle.std.proofs.Common.{◌≡◌, List, [], drop}
use Rattle.rpc_msg.specs.declared.parts.Descriptor.{Descriptor}
use Rattle.rpc_machine.specs.Faults.{each_fault}
use Rattle.core_store.specs.Holding.{state_of}
use Rattle.core_step_messages.specs.Foreseen.{Knows}
use Rattle.core_step_messages.proofs.foresight.first_fault.Given as goal

abbrev pub invariant-loop-descriptor : goal.invariant-loop-descriptor
invariant-loop-descriptor l = (before : List Descriptor) × Knows (state_of l.store) before l.kinds × (each_fault (state_of l.store) [] l.descriptors ≡ each_fault (state_of l.store) before (drop l.descriptor-index l.descriptors))
