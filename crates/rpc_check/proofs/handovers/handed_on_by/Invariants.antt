use Rattle.std.proofs.Common.{◌≡◌, take}
use Rattle.rpc_msg.specs.Messages.{given}
use Rattle.rpc_check.specs.Counts.{one_each}
use Rattle.rpc_check.proofs.handovers.handed_on_by.Given as goal

abbrev pub invariant-loop-descriptor : goal.invariant-loop-descriptor
invariant-loop-descriptor l = l.ids ≡ one_each (given (take l.descriptor-index l.descriptors))
