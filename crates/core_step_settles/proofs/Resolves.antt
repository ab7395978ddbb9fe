-- Resolves, one after the other.
use Rattle.std.proofs.Common.{◌≡◌, ◌≢◌, ℕ, Bool, List, [], ◌∷◌, ◌++◌, Option, refl, sym, subst, arith}
use Rattle.std.specs.FinMap as map
use Rattle.rpc_msg.specs.declared.exception.Exception.{Exception}
use Rattle.rpc_machine.specs.declared.node.Node.{Node}
use Rattle.rpc_machine.specs.declared.node.Node.TheVariants as node
use Rattle.rpc_machine.specs.declared.node.Reason.{Reason}
use Rattle.rpc_machine.specs.declared.calls.HeldCall.{HeldCall}
use Rattle.rpc_machine.specs.State.{State}
use Rattle.rpc_machine.specs.Lists.{how_many}
use Rattle.rpc_machine.specs.Nodes.{settle}
use Rattle.rpc_machine.specs.Places.{places, named_by_held}
use Rattle.rpc_machine.specs.Progress.{Progress}
use Rattle.rpc_machine.specs.Settling.{ResolvesTo, ResolvesBy, ResolvesEach, exports_where}
use Rattle.laws_acts.specs.Alike.{places_beside}
use Rattle.laws_acts.proofs.Parts.{how_many_append}
use Rattle.laws_acts.proofs.Resolves.{no_resolves}

-- They go on by one at the end.
pub resolves_more : (d : Progress) (told : Option Exception) (xs : List (ℕ × Node)) (mid : Progress) (x : ℕ × Node) (new : Progress)
    → ResolvesEach d told xs mid → ResolvesBy mid x.0 told (settle mid.state x.1) new → ResolvesEach d told (xs ++ x ∷ []) new
resolves_more d told [] mid x new all one = (new, subst (λ (p : Progress). ResolvesBy p x.0 told (settle p.state x.1) new) all one, refl)
resolves_more d told (y ∷ ys) mid x new all one = (all.0, all.1, resolves_more all.0 told ys mid x new all.2 one)

-- What no place names has no export.
pub none_exported : (taken : List HeldCall) (s : State) (test : Node → Bool) → how_many test (places_beside taken s) ≡ 0 → [] ≡ exports_where test (map.entries s.exports)
none_exported taken s test none =
    let e = how_many_append test (named_by_held taken) (places s) in
    sym (no_resolves s test (omega (arith, e, none)))

-- A node that is not broken is named.
pub names_where : (d : Progress) (e : ℕ) (told : Option Exception) (n : Node) (new : Progress) → ((reason : Reason) → n ≢ node.Broken reason) → ResolvesTo d e n new → ResolvesBy d e told n new
names_where d e told (node.Object o) new whole h = h
names_where d e told (node.Promise p) new whole h = h
names_where d e told (node.Field o path) new whole h = h
names_where d e told (node.Import i) new whole h = h
names_where d e told (node.Pipe q path) new whole h = h
names_where d e told (node.Broken reason) new whole h = absurd (whole reason refl)
