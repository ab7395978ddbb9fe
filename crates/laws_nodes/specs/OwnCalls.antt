-- In each state to which a vat comes a call has no outcome and no question but its own (docs/protocol.md, "What a vat
-- holds").
use Rattle.rpc_machine.specs.State.{State}
use Rattle.rpc_machine.specs.OwnCalls.{CallsHaveTheirOwn}
use Rattle.laws_steps.specs.NodesThere.{IsReached}

abbrev pub EachHasItsOwn : Type 0
EachHasItsOwn = (s : State) → IsReached s → CallsHaveTheirOwn s
