use Rattle.rpc_machine.proofs.StaysDown.{command_down, receive_down}
use Rattle.rpc_machine.proofs.laws.down_stays_down.Goals as goal

pub returns : goal.returns
returns c = record { commands = λ s c a x t h e. command_down s c a x t e h; messages = λ s m x t h e. receive_down s m x t e h }
