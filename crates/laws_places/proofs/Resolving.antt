-- A promise is fixed: what goes out for the calls that waited, and for its exports.
use Rattle.std.proofs.Common.{inl, ℕ, ◌+◌, ◌≤◌, List, [], ◌∷◌, Option, None, Some, refl, ap, arith}
use Rattle.std.specs.FinMap as map
use Rattle.rpc_msg.specs.declared.exception.Exception.{Exception}
use Rattle.rpc_machine.specs.declared.node.Node.{Node}
use Rattle.rpc_machine.specs.declared.node.Node.TheVariants as node
use Rattle.rpc_machine.specs.declared.calls.Promise.{Promise}
use Rattle.rpc_machine.specs.declared.calls.Promise.TheVariants as promise
use Rattle.rpc_machine.specs.declared.calls.WaitingCall.{WaitingCall}
use Rattle.rpc_machine.specs.State.{State}
use Rattle.rpc_machine.specs.Nodes.{settle, is_promise}
use Rattle.rpc_machine.specs.Progress.{Progress, with_state}
use Rattle.rpc_machine.specs.Routing.{RoutesAll}
use Rattle.rpc_machine.specs.Settling.{ResolvesEach, exports_where, FixesFrom, FixesPromise}
use Rattle.laws_nodes.proofs.Stopping.{is_it}
use Rattle.laws_places.specs.Wanted.{caps_of_calls, caps_at_promise}
use Rattle.laws_places.proofs.Covers.{within_first, within_len}
use Rattle.laws_places.proofs.Broken.{listed}
use Rattle.laws_places.proofs.Carrying.{all_within}
use Rattle.laws_places.proofs.Saying.{GoesTo, resolves_in}

regroup : (x a c : ℕ) → x ≤ a + 1 + c → x ≤ a + (1 + c)
regroup x a c h = omega arith

-- The exports are no more than with one for the promise, and one for each capability of the calls that waited.
pub promise_fixes : (d : Progress) (p : ℕ) (to : Node) (told : Option Exception) (new : Progress) → FixesPromise d p to told new → map.len new.state.exports ≤ map.len d.state.exports + (1 + caps_at_promise (map.get d.state.promises p))
promise_fixes d p to told new h = from (map.get d.state.promises p) h
  where
    fixed : State
    fixed = record (d.state) { promises = map.insert d.state.promises p (promise.Fixed to) }

    opened : (calls : List WaitingCall) (routed : Progress) → RoutesAll (with_state d fixed) calls (node.Promise p) routed → ResolvesEach routed told (exports_where (is_promise p) (map.entries routed.state.exports)) new → map.len new.state.exports ≤ map.len d.state.exports + (1 + caps_of_calls calls)
    opened calls routed f g =
        let ns : List Node = settle routed.state (settle routed.state (node.Promise p)) ∷ [] in
        let first = within_first d.state.exports ns (map.len d.state.exports) 1 refl refl in
        let then = all_within (with_state d fixed) calls (node.Promise p) routed ns (map.len d.state.exports + 1) f first in
        let all = listed (GoesTo routed.state ns) (is_promise p) (map.entries routed.state.exports) (λ n e i. inl (inl (ap (λ (m : Node). settle routed.state (settle routed.state m)) (is_it p n e)))) in
        let last = resolves_in routed.state ns (map.len d.state.exports + 1 + caps_of_calls calls) told routed routed.state.exports (exports_where (is_promise p) (map.entries routed.state.exports)) new refl all g then in
        regroup (map.len new.state.exports) (map.len d.state.exports) (caps_of_calls calls) (within_len new.state.exports ns (map.len d.state.exports + 1 + caps_of_calls calls) last)

    from : (o : Option Promise) → FixesFrom d p to told o new → map.len new.state.exports ≤ map.len d.state.exports + (1 + caps_at_promise o)
    from None g = absurd g
    from (Some (promise.Fixed before)) g = absurd g
    from (Some (promise.Open calls)) g = opened calls g.0 g.1 g.2
