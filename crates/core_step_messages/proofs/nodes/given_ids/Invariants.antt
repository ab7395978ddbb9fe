use Rattle.std.proofs.Common.{◌≡◌, take}
use Rattle.rpc_msg.specs.Messages.{given}
use Rattle.rpc_machine.specs.Progress.{export_ids}
use Rattle.core_step_messages.proofs.nodes.given_ids.Given as goal

abbrev pub invariant-loop-descriptor : goal.invariant-loop-descriptor
invariant-loop-descriptor l = l.ids ≡ export_ids (given (take l.descriptor-index l.descriptors))
