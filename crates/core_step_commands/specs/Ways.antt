-- The ways of a call that its vat does not refuse.
use Rattle.std.specs.Prelude.{◌≡◌, ◌+◌, ℕ, Option, None, Some, IsSome}
use Rattle.std.specs.FinMap as map
use Rattle.rpc_msg.specs.declared.ids.EmbargoId.{EmbargoId}
use Rattle.rpc_machine.specs.declared.calls.Request.{Request}
use Rattle.rpc_machine.specs.declared.entries.Reference.{Reference}
use Rattle.rpc_machine.specs.declared.node.Node.{Node}
use Rattle.rpc_machine.specs.State.{State}
use Rattle.rpc_machine.specs.Lists.{update}
use Rattle.rpc_machine.specs.Nodes.{settle}
use Rattle.rpc_machine.specs.Progress.{Progress, with_state}
use Rattle.rpc_machine.specs.Commands.{kept, WaitsForEmbargo}
use Rattle.core_store_handles.specs.Changes.{counted_once}
use Rattle.core_step_routes.specs.Fitting.{IsOpenThere}

-- Its outcome is kept here, and it waits under that embargo.
abbrev pub CallsUnder : Progress → ℕ → Request → ℕ → Progress → Type 0
CallsUnder d c r e new =
    (o : ℕ) × (map.get d.state.outcomes o ≡ None)
    × WaitsForEmbargo (kept d c o) (record { request = r; outcome = o }) e (map.get d.state.embargoes e) new

-- One more call was made through the reference, if it is there, and has the next number.
abbrev pub numbered : Progress → ℕ → Progress
numbered d r =
    with_state d (record (d.state) { refs = update d.state.refs r counted_once; next_call = d.state.next_call + 1 })

-- A call with that head and embargo finds where it goes: the embargo is there; or without one, where the head settles a
-- call that has to wait can, and a text with that room holds the reason where it is broken.
abbrev pub GoesThrough : ℕ → State → Node → Option EmbargoId → Type 0
GoesThrough room s head None = IsOpenThere room s (settle s head)
GoesThrough room s head (Some e) = IsSome (map.get s.embargoes e.0)

abbrev pub GoesBy : ℕ → State → Option Reference → Type 0
GoesBy room s None = ⊥
GoesBy room s (Some x) = GoesThrough room s x.head x.embargo

-- The reference is there, and a call through it finds where it goes.
abbrev pub GoesSomewhere : ℕ → State → ℕ → Type 0
GoesSomewhere room s r = GoesBy room s (map.get s.refs r)
