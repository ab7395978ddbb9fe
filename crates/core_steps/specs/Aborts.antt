-- A received Abort, and what comes of it alone.
use Rattle.std.specs.Prelude.{Bool, true, false}
use Rattle.rpc_msg.specs.declared.message.PlainMessage.TheVariants as plain
use Rattle.rpc_msg.specs.declared.message.Message.{Message}
use Rattle.rpc_msg.specs.declared.message.Message.TheVariants as message

abbrev pub is_abort : Message → Bool
is_abort (message.Plain (plain.Abort exception)) = true
is_abort m = false
