-- The machine in smaller steps than its events: calls that are yet to be routed stand beside the state, and go on one at a
-- time, with other small steps in between. For a crate whose vats do so.
use Rattle.std.specs.Prelude.{◌≡◌, ℕ, Bool, true, false, List, [], ◌∷◌, None, Some}
use Rattle.laws_order.specs.Machine.{Names, Message, Call, Echo, Embargo, State, changed, same_vat, put_ref, new_reference}
use Rattle.laws_order.specs.Routing.{route, calls_to}
use Rattle.laws_order.specs.Events.{Event, Fate, happens, Allowed, Settle, settled, one_more}
use Rattle.laws_order.specs.Invariant.{InvariantWith}

-- The link to that vat holds these messages.
abbrev pub with_link : {W : Names} → State W → Bool → List (Message W) → State W
with_link s v ms = record s { net = record (s.net) { links = changed same_vat s.net.links v ms } }

-- From the state s, with these calls yet to be routed, to t with those.
pub data Move {W : Names} (s : State W) (unrouted : List (Message W)) (t : State W) (then : List (Message W)) : Type 0 where
  -- an event, while no call is to be routed
  Happens : (e : Event W) → Allowed s e → unrouted ≡ [] → t ≡ happens s e → then ≡ [] → Move s unrouted t then
  Begins : (r : W.Ref) (head : W.Node) → (s.refs r).known ≡ false → t ≡ put_ref s r (new_reference true head) → then ≡ unrouted → Move s unrouted t then
  -- a call is made to a node of the own vat
  Leaves : (r : W.Ref) → (s.refs r).known ≡ true → (s.refs r).embargo ≡ None → W.home (s.refs r).head ≡ W.vat r → unrouted ≡ []
      → t ≡ put_ref s r (one_more (s.refs r)) → then ≡ record { target = (s.refs r).head; ref = r; what = Call (s.refs r).made } ∷ [] → Move s unrouted t then
  -- the first of the calls is routed
  Routes : (m : Message W) → unrouted ≡ m ∷ then → t ≡ route s m → Move s unrouted t then
  -- a group settles
  Settles : (g : W.Group) (fate : W.Node → Fate W) → Allowed s (Settle g fate) → unrouted ≡ [] → t ≡ record s { net = settled s.net g fate } → then ≡ s.net.waiting g
      → Move s unrouted t then
  -- a call is received
  Comes : (v : Bool) (m : Message W) (ms : List (Message W)) (i : ℕ) → s.net.links v ≡ m ∷ ms → m.what ≡ Call i → unrouted ≡ [] → t ≡ with_link s v ms → then ≡ m ∷ []
      → Move s unrouted t then
  -- an echo is received
  Lifts : (v : Bool) (m : Message W) (ms : List (Message W)) (b : Embargo W) → s.net.links v ≡ m ∷ ms → m.what ≡ Echo → (s.refs m.ref).embargo ≡ Some b → unrouted ≡ []
      → t ≡ put_ref (with_link s v ms) m.ref (record (s.refs m.ref) { embargo = None }) → then ≡ calls_to (s.refs m.ref).head m.ref b.calls → Move s unrouted t then

-- Moves, one after the other.
pub data Moves {W : Names} (t : State W) (then : List (Message W)) : State W → List (Message W) → Type 0 where
  Done : Moves t then t then
  Next : {s mid : State W} {unrouted between : List (Message W)} → Move s unrouted mid between → Moves t then mid between → Moves t then s unrouted

-- Each keeps the invariant.
abbrev pub EachMoveKeepsIt : Names → Type 0
EachMoveKeepsIt W = (s t : State W) (unrouted then : List (Message W)) → Moves t then s unrouted → InvariantWith s unrouted → InvariantWith t then
