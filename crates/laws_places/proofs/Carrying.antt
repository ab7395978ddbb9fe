-- Calls that waited are routed: what goes out for them, and that links stay.
use Rattle.std.proofs.Common.{◌≡◌, ◌⊎◌, inl, inr, ℕ, ◌+◌, List, [], ◌∷◌, ◌++◌, length, Option, None, Some, refl, sym, ap, subst, ◌∙◌, arith}
use Rattle.std.specs.FinMap as map
use Rattle.finite_maps.specs.Tally.{Map}
use Rattle.rpc_msg.specs.declared.parts.Descriptor.{Descriptor}
use Rattle.rpc_msg.specs.declared.parts.Target.{Target}
use Rattle.rpc_machine.specs.declared.node.Node.{Node}
use Rattle.rpc_machine.specs.declared.node.Node.TheVariants as node
use Rattle.rpc_machine.specs.declared.calls.HeldCall.{HeldCall}
use Rattle.rpc_machine.specs.declared.calls.KeptOutcome.{KeptOutcome}
use Rattle.rpc_machine.specs.declared.calls.Promise.{Promise}
use Rattle.rpc_machine.specs.declared.calls.Promise.TheVariants as promise
use Rattle.rpc_machine.specs.declared.calls.WaitingCall.{WaitingCall}
use Rattle.rpc_machine.specs.declared.entries.Export.{Export}
use Rattle.rpc_machine.specs.declared.entries.Role.{Role}
use Rattle.rpc_machine.specs.State.{State}
use Rattle.rpc_machine.specs.Nodes.{field_link, promise_link, value_of, link, settle}
use Rattle.rpc_machine.specs.Progress.{Progress}
use Rattle.rpc_machine.specs.Routing.{Asks, WaitsForPromise, WaitsForField, RoutedTo, Routes, RoutesAll, RoutesHeld}
use Rattle.laws_acts.specs.GoingOut.{GoOut}
use Rattle.laws_acts.proofs.Alone.{refs_alone, go_out}
use Rattle.laws_nodes.specs.Settling.{AllStop, SameLinks}
use Rattle.laws_nodes.proofs.Stopping.{ends, same, opens, begins}
use Rattle.laws_places.specs.Wanted.{caps_of_calls, caps_of_held}
use Rattle.laws_places.proofs.Covers.{IsOut, Within, no_more, all_any, all_add}
use Rattle.laws_places.proofs.Broken.{refs_exports}

-- ---- Links

pub plain_links : (s t : State) → t.promises ≡ s.promises → t.outcomes ≡ s.outcomes → SameLinks s t
plain_links s t e f (node.Object o) = refl
plain_links s t e f (node.Promise p) = ap (λ (m : Map Promise). promise_link (map.get m p)) e
plain_links s t e f (node.Field o path) = ap (λ (m : Map KeptOutcome). field_link path (value_of (map.get m o))) f
plain_links s t e f (node.Import i) = refl
plain_links s t e f (node.Pipe q path) = refl
plain_links s t e f (node.Broken reason) = refl

state_links : (s t u : State) → t ≡ u → SameLinks s u → SameLinks s t
state_links s t u e h = subst (SameLinks s) (sym e) h

asks_links : (d : Progress) (q : ℕ) (role : Role) (t : Target) (c : WaitingCall) (new : Progress) → Asks d q role t c.request new → SameLinks d.state new.state
asks_links d q role t c new h =
    let g = h.1 in
    let k = go_out d.state c.request.caps g.0 g.1 g.2 in
    plain_links d.state new.state
    (ap (λ (p : Progress). p.state.promises) g.3 ∙ ap (λ (u : State). u.promises) k.2)
    (ap (λ (p : Progress). p.state.outcomes) g.3 ∙ ap (λ (u : State). u.outcomes) k.2)

routed_links : (d : Progress) (c : WaitingCall) (n : Node) (new : Progress) → RoutedTo d c n new → SameLinks d.state new.state
routed_links d c (node.Object o) new h =
    plain_links d.state new.state
    (ap (λ (p : Progress). p.state.promises) h ∙ ap (λ (u : State). u.promises) (refs_alone d.state c.request.caps))
    (ap (λ (p : Progress). p.state.outcomes) h ∙ ap (λ (u : State). u.outcomes) (refs_alone d.state c.request.caps))
routed_links d c (node.Promise p) new h = waits (map.get d.state.promises p) refl h
  where
    waits : (o : Option Promise) → map.get d.state.promises p ≡ o → WaitsForPromise d c p o new → SameLinks d.state new.state
    waits None e g = absurd g
    waits (Some (promise.Fixed to)) e g = absurd g
    waits (Some (promise.Open calls)) e g = state_links d.state new.state _ (ap (λ (x : Progress). x.state) g) (opens d.state p (calls ++ c ∷ []) (ap promise_link e))
routed_links d c (node.Field o path) new h = waits (map.get d.state.outcomes o) refl h
  where
    waits : (x : Option KeptOutcome) → map.get d.state.outcomes o ≡ x → WaitsForField d c o path x new → SameLinks d.state new.state
    waits None e g = absurd g
    waits (Some x) e g = state_links d.state new.state _ (ap (λ (y : Progress). y.state) g) (begins d.state o (record x { waiting = x.waiting ++ record { path = path; call = c } ∷ [] }) (ap value_of e))
routed_links d c (node.Import i) new h = asks_links d h.0 _ _ c new h.1
routed_links d c (node.Pipe q path) new h = asks_links d h.0 _ _ c new h.1
routed_links d c (node.Broken reason) new h = state_links d.state new.state d.state (ap (λ (p : Progress). p.state) h) (λ n. refl)

pub routes_links : (d : Progress) (c : WaitingCall) (n : Node) (new : Progress) → Routes d c n new → SameLinks d.state new.state
routes_links d c n new h = routed_links d c (settle d.state n) new h

-- ---- Exports

-- They stay as they are, or the capabilities of the call go out.
abbrev GoesOn : Progress → WaitingCall → Progress → Type 0
GoesOn d c new = (new.state.exports ≡ d.state.exports) ⊎ ((ds : List Descriptor) × GoOut d.state d.state.exports c.request.caps ds new.state.exports)

asks_on : (d : Progress) (q : ℕ) (role : Role) (t : Target) (c : WaitingCall) (new : Progress) → Asks d q role t c.request new → GoesOn d c new
asks_on d q role t c new h =
    let g = h.1 in
    let k = go_out d.state c.request.caps g.0 g.1 g.2 in
    let f : new.state.exports ≡ k.0 = ap (λ (p : Progress). p.state.exports) g.3 ∙ ap (λ (u : State). u.exports) k.2 in
    inr (g.0, subst (λ (m : Map Export). GoOut d.state d.state.exports c.request.caps g.0 m) (sym f) k.1)

routed_on : (d : Progress) (c : WaitingCall) (n : Node) (new : Progress) → RoutedTo d c n new → GoesOn d c new
routed_on d c (node.Object o) new h = inl (ap (λ (p : Progress). p.state.exports) h ∙ refs_exports d.state c.request.caps)
routed_on d c (node.Promise p) new h = waits (map.get d.state.promises p) h
  where
    waits : (o : Option Promise) → WaitsForPromise d c p o new → GoesOn d c new
    waits None g = absurd g
    waits (Some (promise.Fixed to)) g = absurd g
    waits (Some (promise.Open calls)) g = inl (ap (λ (x : Progress). x.state.exports) g)
routed_on d c (node.Field o path) new h = waits (map.get d.state.outcomes o) h
  where
    waits : (x : Option KeptOutcome) → WaitsForField d c o path x new → GoesOn d c new
    waits None g = absurd g
    waits (Some x) g = inl (ap (λ (y : Progress). y.state.exports) g)
routed_on d c (node.Import i) new h = asks_on d h.0 _ _ c new h.1
routed_on d c (node.Pipe q path) new h = asks_on d h.0 _ _ c new h.1
routed_on d c (node.Broken reason) new h = inl (ap (λ (p : Progress). p.state.exports) h)

pub routes_within : (d : Progress) (c : WaitingCall) (n : Node) (new : Progress) (ns : List Node) (b : ℕ) → Routes d c n new → Within d.state.exports ns b → Within new.state.exports ns (b + length c.request.caps)
routes_within d c n new ns b h w = by (routed_on d c (settle d.state n) new h)
  where
    by : GoesOn d c new → Within new.state.exports ns (b + length c.request.caps)
    by (inl e) = no_more new.state.exports ns b (b + length c.request.caps) (omega arith) (subst (λ (m : Map Export). Within m ns b) (sym e) w)
    by (inr g) = all_any d.state ns b d.state.exports c.request.caps g.0 new.state.exports g.1 w

pub all_within : (d : Progress) (cs : List WaitingCall) (n : Node) (new : Progress) (ns : List Node) (b : ℕ) → RoutesAll d cs n new → Within d.state.exports ns b → Within new.state.exports ns (b + caps_of_calls cs)
all_within d [] n new ns b h w = no_more new.state.exports ns b (b + 0) (omega arith) (subst (λ (p : Progress). Within p.state.exports ns b) (sym h) w)
all_within d (c ∷ cs) n new ns b h w =
    let k = length c.request.caps in
    no_more new.state.exports ns (b + k + caps_of_calls cs) (b + (k + caps_of_calls cs)) (omega arith)
    (all_within h.0 cs n new ns (b + k) h.2 (routes_within d c n h.0 ns b h.1 w))

-- What is out at the end was out before, or no link leads on from it.
abbrev AddsEnds : State → Progress → Progress → Type 0
AddsEnds s d new = (k : Node) → IsOut new.state.exports k → IsOut d.state.exports k ⊎ (link s k ≡ None)

-- Calls that waited for an outcome are routed in a state with the links of s.
pub record Carried (s : State) (d new : Progress) (ns : List Node) (b : ℕ) : Type 0 where
  pub links : SameLinks s new.state
  pub within : Within new.state.exports ns b
  pub adds : AddsEnds s d new

carried : (s : State) (d : Progress) (c : WaitingCall) (n : Node) (new : Progress) (ns : List Node) (b : ℕ) → AllStop s → SameLinks s d.state → Routes d c n new → Within d.state.exports ns b → Carried s d new ns (b + length c.request.caps)
carried s d c n new ns b a f h w = record {
  links = λ k. routes_links d c n new h k ∙ f k;
  within = routes_within d c n new ns b h w;
  adds = adds_by (routed_on d c (settle d.state n) new h);
}
  where
    stops : AllStop d.state
    stops = (same s d.state f a).0

    adds_by : GoesOn d c new → (k : Node) → IsOut new.state.exports k → IsOut d.state.exports k ⊎ (link s k ≡ None)
    adds_by (inl e) k i = inl (subst (λ (m : Map Export). IsOut m k) e i)
    adds_by (inr g) k i = all_add d.state (λ (x : Node). link s x ≡ None) (λ x. sym (f (settle d.state x)) ∙ ends d.state stops x) d.state.exports c.request.caps g.0 new.state.exports g.1 k i

joined : (s : State) (d mid new : Progress) (ns : List Node) (b k j : ℕ) → Carried s d mid ns (b + k) → Carried s mid new ns (b + k + j) → Carried s d new ns (b + (k + j))
joined s d mid new ns b k j one rest = record {
  links = rest.links;
  within = no_more new.state.exports ns (b + k + j) (b + (k + j)) (omega arith) rest.within;
  adds = λ m i. back m (rest.adds m i);
}
  where
    back : (m : Node) → IsOut mid.state.exports m ⊎ (link s m ≡ None) → IsOut d.state.exports m ⊎ (link s m ≡ None)
    back m (inl i) = one.adds m i
    back m (inr e) = inr e

pub held_carried : (s : State) (d : Progress) (o : ℕ) (hs : List HeldCall) (new : Progress) (ns : List Node) (b : ℕ) → AllStop s → SameLinks s d.state → RoutesHeld d o hs new → Within d.state.exports ns b → Carried s d new ns (b + caps_of_held hs)
held_carried s d o [] new ns b a f h w = record {
  links = subst (λ (p : Progress). SameLinks s p.state) (sym h) f;
  within = no_more new.state.exports ns b (b + 0) (omega arith) (subst (λ (p : Progress). Within p.state.exports ns b) (sym h) w);
  adds = λ k i. inl (subst (λ (p : Progress). IsOut p.state.exports k) h i);
}
held_carried s d o (x ∷ xs) new ns b a f h w =
    let one = carried s d x.call (node.Field o x.path) h.0 ns b a f h.1 w in
    joined s d h.0 new ns b (length x.call.request.caps) (caps_of_held xs) one
    (held_carried s h.0 o xs new ns (b + length x.call.request.caps) a one.links h.2 one.within)
