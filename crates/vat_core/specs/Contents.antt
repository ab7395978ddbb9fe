-- What a message carries that gives nothing, or one capability.
use Rattle.std.specs.Prelude.{Option, None, Some}
use Rattle.rpc_msg.specs.Payloads.{Contents as Payload, null_payload, root_payload}
use Rattle.rpc_msg.specs.declared.ids.RefId.{RefId}

-- Null, or the pointer to the capability.
abbrev pub payload_of : Option RefId → Payload
payload_of None = null_payload
payload_of (Some r) = root_payload
