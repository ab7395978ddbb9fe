-- The value of an outcome: a new promise takes the place of the first capability of each circle.
use Rattle.std.specs.FinMap as map
use Rattle.std.proofs.Common.{◌≡◌, inl, inr, ℕ, ◌+◌, false, List, [], ◌∷◌, None, Some, IsSome, refl, ◌∙◌}
use Rattle.rpc_msg.specs.Payloads.{Contents as Payload}
use Rattle.finite_maps.proofs.Tested.{at_put}
use Rattle.rpc_machine.specs.declared.node.Node.{Node}
use Rattle.rpc_machine.specs.declared.node.Node.TheVariants as node
use Rattle.rpc_machine.specs.declared.calls.Caller.{Caller}
use Rattle.rpc_machine.specs.declared.calls.HeldCall.{HeldCall}
use Rattle.rpc_machine.specs.declared.calls.Promise.TheVariants as promise
use Rattle.rpc_machine.specs.declared.calls.Value.{Value}
use Rattle.rpc_machine.specs.declared.calls.Value.TheVariants as value
use Rattle.rpc_machine.specs.State.{State}
use Rattle.rpc_machine.specs.Nodes.{link, is_promise, promise_link}
use Rattle.rpc_machine.specs.Progress.{Progress, with_state}
use Rattle.rpc_machine.specs.Settling.{Fits, PutsIn, Untangles}
use Rattle.laws_steps.specs.Settled.{IsThere}
use Rattle.laws_order.specs.Machine as routing
use Rattle.laws_routes.specs.Points.{routes}
use Rattle.laws_routes.specs.Ties.{Around, Ghosts, Tied}
use Rattle.laws_routes.specs.OutcomeLaws.{opening}
use Rattle.laws_routes.specs.Premises.{EachMayOpen}
use Rattle.laws_routes.specs.Ghosts.{holding}
use Rattle.laws_routes.proofs.PromiseOpened.{promise_opens}

-- A new promise leads nowhere, so the free keys that are left may be used as before.
still_open : (s : State) (p : ℕ) → EachMayOpen s → EachMayOpen (opening s p)
still_open s p h k free =
    let a = h k was_free in
    let u = a.unnamed in
    record { unnamed = record { links = links; heads = u.heads; embargoes = u.embargoes }; unsaid = a.unsaid; exports = a.exports }
  where
    was_free : map.get s.promises k ≡ None
    was_free = at_put (λ j z. z ≡ None → map.get s.promises j ≡ None) s.promises p (promise.Open []) (λ e. cc) (λ j n e. e) k free

    links : (n to : Node) → IsThere (opening s p) n → link (opening s p) n ≡ Some to → is_promise k to ≡ false
    links (node.Object o) to i e = cc
    links (node.Promise q) to i e =
        at_put (λ q z. IsSome z → promise_link z ≡ Some to → is_promise k to ≡ false) s.promises p (promise.Open []) (λ i e. cc)
        (λ q n i e. (let a = h k was_free in let u = a.unnamed in u.links (node.Promise q) to i e)) q i e
    links (node.Field o path) to i e = let a = h k was_free in let u = a.unnamed in u.links (node.Field o path) to i e
    links (node.Import j) to i e = cc
    links (node.Pipe q path) to i e = cc
    links (node.Broken reason) to i e = cc

module _ (w : Around) (d : Progress) (m : routing.State routes) where
  -- With some ghosts, and the outcomes as they were.
  abbrev Fitted : Ghosts → State → State → Type 0
  Fitted g s new = (f : Ghosts) × Tied w (with_state d new) f m × (f.own.outcome ≡ g.own.outcome) × (new.outcomes ≡ s.outcomes) × EachMayOpen new

  one_in : (g : Ghosts) (s : State) (o : ℕ) (from : Caller) (waiting : List HeldCall) (payload : Payload) (i : ℕ) (n : Node) (rest out : List Node) (new : State) → Tied w (with_state d s) g m → EachMayOpen s
      → PutsIn s o from waiting payload i n rest out new → Fitted g s new
  one_in g s o from waiting payload i n rest out new t may (inl h) = rw h.2 (g, t, refl, refl, may)
  one_in g s o from waiting payload i n rest out new t may (inr h) =
      let a = h.1 in
      rw a.3 (record { own = holding g.own a.0 g.next; theirs = g.theirs; next = g.next + 1 }, promise_opens w (with_state d s) g m a.0 t a.1 (may a.0 a.1), refl, refl, still_open s a.0 may)

  all_in : (g : Ghosts) (s : State) (o : ℕ) (from : Caller) (waiting : List HeldCall) (payload : Payload) (i : ℕ) (ns out : List Node) (new : State) → Tied w (with_state d s) g m → EachMayOpen s
      → Untangles s o from waiting payload i ns out new → Fitted g s new
  all_in g s o from waiting payload i [] out new t may h = rw h.1 (g, t, refl, refl, may)
  all_in g s o from waiting payload i (n ∷ ns) out new t may h =
      let a = all_in g s o from waiting payload (i + 1) ns h.0 h.1 t may h.2 in
      let b = one_in a.0 h.1 o from waiting payload i n h.0 out new a.1 a.4 h.3 in
      (b.0, b.1, b.2 ∙ a.2, b.3 ∙ a.3, b.4)

pub value_fits : (w : Around) (d : Progress) (g : Ghosts) (m : routing.State routes) (o : ℕ) (from : Caller) (waiting : List HeldCall) (v fit : Value) (mid : State) → Tied w d g m → EachMayOpen d.state
    → Fits d.state o from waiting v fit mid → (f : Ghosts) × Tied w (with_state d mid) f m × (f.own.outcome ≡ g.own.outcome) × (mid.outcomes ≡ d.state.outcomes)
value_fits w d g m o from waiting (value.Exception exception) fit mid t may h = rw h.1 (g, t, refl, refl)
value_fits w d g m o from waiting (value.Results payload caps) fit mid t may h =
    let a = all_in w d m g d.state o from waiting payload 0 caps h.0 mid t may h.2 in
    (a.0, a.1, a.2, a.3)
