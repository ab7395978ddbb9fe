use Rattle.std.proofs.Common.{◌≡◌, take}
use Rattle.rpc_machine.specs.Descriptors.{read_beside}
use Rattle.core_store.specs.Holding.{state_of}
use Rattle.core_step_messages.proofs.nodes.read_beside.Given as goal

abbrev pub invariant-loop-descriptor : goal.invariant-loop-descriptor
invariant-loop-descriptor l = l.caps ≡ read_beside (state_of l.store) (take l.descriptor-index l.descriptors)
