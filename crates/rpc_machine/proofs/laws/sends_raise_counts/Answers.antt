use Rattle.rpc_machine.proofs.StepCounts.{command_counts}
use Rattle.rpc_machine.proofs.MessageCounts.{message_counts}
use Rattle.rpc_machine.proofs.laws.sends_raise_counts.Goals as goal

pub returns : goal.returns
returns c = record { commands = command_counts; messages = message_counts }
