-- What the machine asks of payloads (docs/messages.md): how many capabilities go with one, what stands at a path, and
-- the payload that a Bootstrap's Return has.
use Rattle.std.specs.Prelude.{ℕ, List}
use Rattle.rpc_journal.specs.rpc_msg.specs.Op.{Op}
use Rattle.rpc_journal.specs.rpc_msg.specs.CapAt.{CapAt}
use Rattle.rpc_journal.specs.rpc_msg.specs.Payloads.{Contents as Payload, tree_of, root_payload}
use Rattle.rpc_journal.specs.rpc_msg.specs.Walking.{capability_at}

abbrev pub cap_at : Payload → List Op → CapAt
cap_at p path = capability_at (tree_of p) path

abbrev pub caps_in : Payload → ℕ
caps_in p = p.caps

abbrev pub bootstrap_payload : Payload
bootstrap_payload = root_payload
