-- The application is told of its call's outcome.
use Rattle.std.specs.FinMap as map
use Rattle.std.proofs.Common.{◌≡◌, ℕ, ◌+◌, Option, None, Some, List, [], ◌∷◌, refl}
use Rattle.rpc_machine.specs.declared.node.Node.{Node}
use Rattle.rpc_machine.specs.declared.calls.OwnCall.{OwnCall}
use Rattle.rpc_machine.specs.declared.calls.Caller.TheVariants as who
use Rattle.rpc_machine.specs.declared.calls.Value.{Value}
use Rattle.rpc_machine.specs.State.{State}
use Rattle.rpc_machine.specs.Progress.{Progress, with_refs, caps_of}
use Rattle.rpc_machine.specs.Settling.{TellsCall, Tells}
use Rattle.laws_order.specs.Machine.{Message}
use Rattle.laws_order.specs.Machine as routing
use Rattle.laws_order.specs.Moves.{Done}
use Rattle.laws_routes.specs.Points.{routes}
use Rattle.laws_routes.specs.Ties.{Around, Ghosts, Tied}
use Rattle.laws_routes.specs.Laws.{Follows}
use Rattle.laws_routes.proofs.NewReferences.{new_refs_begin}

tells_call : (w : Around) (d : Progress) (g : Ghosts) (m : routing.State routes) (us : List (Message routes)) (c : ℕ) (v : Value) (z : Option OwnCall) (new : Progress) → Tied w d g m → TellsCall d c v z new → Follows w new g m us us
tells_call w d g m us c v None new t h = rw h (g, m, Done, t, (refl, refl, refl, refl))
tells_call w d g m us c v (Some from) new t h = rw h (new_refs_begin w d g m us (caps_of v) t)

pub application_told : (w : Around) (d : Progress) (g : Ghosts) (m : routing.State routes) (us : List (Message routes)) (c : ℕ) (v : Value) (new : Progress) → Tied w d g m
    → Tells d (who.Application (record { 0 = c })) v new → Follows w new g m us us
application_told w d g m us c v new t h = tells_call w d g m us c v (map.get d.state.calls c) new t h

-- No outcome changes.
refs_alone : (s : State) (ns : List Node) → (with_refs s ns).outcomes ≡ s.outcomes
refs_alone s [] = refl
refs_alone s (n ∷ ns) = refs_alone (record s { refs = map.insert s.refs s.next_ref (record { head = n; embargo = None; made = 0 }); next_ref = s.next_ref + 1 }) ns

pub call_alone : (d : Progress) (c : ℕ) (v : Value) (z : Option OwnCall) (new : Progress) → TellsCall d c v z new → new.state.outcomes ≡ d.state.outcomes
call_alone d c v None new h = rw h refl
call_alone d c v (Some from) new h = rw h (refs_alone d.state (caps_of v))
