use Rattle.std.proofs.Common.{◌≡◌, take}
use Rattle.rpc_machine.specs.Descriptors.{read_all}
use Rattle.core_store.specs.Holding.{state_of}
use Rattle.core_step_messages.proofs.nodes.read_all.Given as goal

abbrev pub invariant-loop-descriptor : goal.invariant-loop-descriptor
invariant-loop-descriptor l = l.nodes ≡ read_all (state_of l.store) (take l.descriptor-index l.descriptors)
