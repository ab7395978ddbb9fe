-- What one vat and the machine of routes have to do with one another: each field says it of one part of the vat, and speaks
-- of no other part.
use Rattle.std.specs.Prelude.{◌≡◌, ◌⊎◌, ℕ, ◌≤◌, ◌<◌, Bool, true, false, Option, None, Some, IsSome, List, [], ◌∷◌}
use Rattle.std.specs.FinMap as map
use Rattle.rpc_msg.specs.Op.{Op}
use Rattle.finite_maps.specs.Tally.{Map}
use Rattle.rpc_msg.specs.declared.ids.Vat.{Vat}
use Rattle.rpc_msg.specs.declared.ids.Stamp.{Stamp}
use Rattle.rpc_journal.specs.History.{Ref, caller}
use Rattle.rpc_machine.specs.declared.node.Node.{Node}
use Rattle.rpc_machine.specs.declared.node.Node.TheVariants as node
use Rattle.rpc_machine.specs.declared.calls.Promise.{Promise}
use Rattle.rpc_machine.specs.declared.calls.Promise.TheVariants as promise
use Rattle.rpc_machine.specs.declared.calls.KeptOutcome.{KeptOutcome}
use Rattle.rpc_machine.specs.declared.calls.WaitingCall.{WaitingCall}
use Rattle.rpc_machine.specs.declared.calls.HeldCall.{HeldCall}
use Rattle.rpc_machine.specs.declared.calls.Value.{Value}
use Rattle.rpc_machine.specs.declared.entries.Reference.{Reference}
use Rattle.rpc_machine.specs.declared.entries.Embargo.{Embargo}
use Rattle.rpc_machine.specs.State.{State}
use Rattle.rpc_machine.specs.Nodes.{link, is_wire}
use Rattle.laws_steps.specs.Settled.{IsThere}
use Rattle.laws_order.specs.Machine.{Kind, Net, Message, Call}
use Rattle.laws_order.specs.Machine as routing
use Rattle.laws_routes.specs.Points.{Point, AnObject, APromise, AField, Nowhere, Group, OfPromise, OfOutcome, routes}
use Rattle.laws_routes.specs.Ghosts.{Ghost, point, far, ref_at}

-- ---- 1. Stops

-- A stop of this kind stays as it is for good.
abbrev pub IsFinal : Kind routes → Type 0
IsFinal routing.Object = ⊥
IsFinal routing.Open = ⊥
IsFinal (routing.Exit to) = Unit {0}
IsFinal routing.Broken = Unit {0}

-- Both points stop at one stop, or at two that do the same for good: two promises of a vat that settle to one wire may stop
-- at different points.
abbrev pub SameEnd : Net routes → Point → Point → Type 0
SameEnd n x y = (n.stop x ≡ n.stop y) ⊎ ((n.kind (n.stop x) ≡ n.kind (n.stop y)) × IsFinal (n.kind (n.stop y)))

-- What an own node does that leads to no other.
abbrev pub own_kind : Node → Kind routes
own_kind (node.Object o) = routing.Object
own_kind (node.Promise p) = routing.Open
own_kind (node.Field o path) = routing.Open
own_kind (node.Import e) = routing.Broken
own_kind (node.Pipe q path) = routing.Broken
own_kind (node.Broken reason) = routing.Broken

-- Over a link to a wire the point becomes an exit to what the wire stands for; over another it ends where the node ends.
abbrev pub LinkedTo : Net routes → Point → Point → Option Point → Type 0
LinkedTo n x y None = SameEnd n x y
LinkedTo n x y (Some w) = n.kind (n.stop x) ≡ routing.Exit w

abbrev pub IsLinked : Vat → Ghost → Net routes → Node → Option Node → Type 0
IsLinked v g n m None = (n.stop (point v g m) ≡ point v g m) × (n.kind (point v g m) ≡ own_kind m)
IsLinked v g n m (Some to) = LinkedTo n (point v g m) (point v g to) (far v g to)

-- It is said link by link, so that what it says of a node rests on that node's own entry alone.
abbrev pub Stops : Vat → State → Ghost → Net routes → Type 0
Stops v s g n = (m : Node) → is_wire m ≡ false → IsThere s m → IsLinked v g n m (link s m)

-- Where a call goes that is routed to the point x, if its node settles to m.
abbrev pub EndsAs : Vat → Ghost → Net routes → Point → Node → Type 0
EndsAs v g n x (node.Object o) = (n.stop x ≡ AnObject v o.0) × (n.kind (n.stop x) ≡ routing.Object)
EndsAs v g n x (node.Promise p) = (n.stop x ≡ APromise v (g.promise p)) × (n.kind (n.stop x) ≡ routing.Open)
EndsAs v g n x (node.Field o path) = (n.stop x ≡ AField v (g.outcome o) path) × (n.kind (n.stop x) ≡ routing.Open)
EndsAs v g n x (node.Import e) = n.kind (n.stop x) ≡ routing.Exit (point v g (node.Import e))
EndsAs v g n x (node.Pipe q path) = n.kind (n.stop x) ≡ routing.Exit (point v g (node.Pipe q path))
EndsAs v g n x (node.Broken reason) = n.kind (n.stop x) ≡ routing.Broken

-- ---- 2. References

-- A reference with a broken head is dead, or its calls go where they end.
abbrev pub HasHead : Vat → Ghost → Node → (dead : Bool) (head : Point) → Type 0
HasHead v g (node.Object o) dead head = (dead ≡ false) × (head ≡ point v g (node.Object o))
HasHead v g (node.Promise p) dead head = (dead ≡ false) × (head ≡ point v g (node.Promise p))
HasHead v g (node.Field o path) dead head = (dead ≡ false) × (head ≡ point v g (node.Field o path))
HasHead v g (node.Import e) dead head = (dead ≡ false) × (head ≡ point v g (node.Import e))
HasHead v g (node.Pipe q path) dead head = (dead ≡ false) × (head ≡ point v g (node.Pipe q path))
HasHead v g (node.Broken reason) dead head = (dead ≡ true) ⊎ (head ≡ Nowhere v)

abbrev pub IsRef : Vat → Ghost → ℕ → ℕ → Option Reference → routing.Reference routes → Type 0
IsRef v g next r None y = next ≤ r → y ≡ routing.new_reference false y.head
IsRef v g next r (Some x) y =
    (r < next) × (y.known ≡ true) × (y.made ≡ x.made) × HasHead v g x.head y.dead y.head × (x.embargo ≡ None → y.embargo ≡ None)

abbrev pub Refs : Vat → State → Ghost → routing.State routes → Type 0
Refs v s g m = (r : ℕ) → IsRef v g s.next_ref r (map.get s.refs r) (m.refs (ref_at v r))

-- ---- 3. Embargoes

-- The calls are those numbers, all of that reference.
abbrev pub AreCalls : Ref → List WaitingCall → List ℕ → Type 0
AreCalls r [] [] = Unit {0}
AreCalls r [] (i ∷ is) = ⊥
AreCalls r (c ∷ cs) [] = ⊥
AreCalls r (c ∷ cs) (i ∷ is) = (caller c.request.stamp ≡ r) × (c.request.stamp.index ≡ i) × AreCalls r cs is

abbrev pub IsEmbargo : Vat → Ghost → Embargo → routing.Reference routes → Type 0
IsEmbargo v g b y =
    (k : routing.Embargo routes) × (y.embargo ≡ Some k) × AreCalls (ref_at v b.reference.0) b.waiting k.calls
    × (y.known ≡ true) × (y.dead ≡ false) × (y.head ≡ point v g b.node)

abbrev pub HasEmbargo : Vat → Ghost → routing.State routes → Option Embargo → Type 0
HasEmbargo v g m None = Unit {0}
HasEmbargo v g m (Some b) = IsEmbargo v g b (m.refs (ref_at v b.reference.0))

abbrev pub Embargoes : Vat → State → Ghost → routing.State routes → Type 0
Embargoes v s g m = (e : ℕ) → HasEmbargo v g m (map.get s.embargoes e)

abbrev pub IsEmbargoOf : ℕ → Option Embargo → Type 0
IsEmbargoOf r None = ⊥
IsEmbargoOf r (Some b) = b.reference.0 ≡ r

-- The machine has no other embargoes, also of references that were dropped.
abbrev pub NoOtherEmbargoes : Vat → State → routing.State routes → Type 0
NoOtherEmbargoes v s m = (r : ℕ) → ((m.refs (ref_at v r)).embargo ≡ None) ⊎ ((e : ℕ) × IsEmbargoOf r (map.get s.embargoes e))

-- ---- 4. Lists

abbrev pub Queue : Type 0
Queue = List (Message routes)

abbrev pub WaitsAt : (Point → Point) → Point → Stamp → Message routes → Type 0
WaitsAt stop x s m = (stop m.target ≡ x) × (m.ref ≡ caller s) × (m.what ≡ Call s.index)

-- These calls wait at that point.
abbrev pub AllWait : (Point → Point) → Point → List WaitingCall → Queue → Type 0
AllWait stop x [] [] = Unit {0}
AllWait stop x [] (m ∷ ms) = ⊥
AllWait stop x (c ∷ cs) [] = ⊥
AllWait stop x (c ∷ cs) (m ∷ ms) = WaitsAt stop x c.request.stamp m × AllWait stop x cs ms

-- These calls wait at the fields of the outcome with that identity.
abbrev pub AllHeld : (Point → Point) → Vat → ℕ → List HeldCall → Queue → Type 0
AllHeld stop v i [] [] = Unit {0}
AllHeld stop v i [] (m ∷ ms) = ⊥
AllHeld stop v i (h ∷ hs) [] = ⊥
AllHeld stop v i (h ∷ hs) (m ∷ ms) = WaitsAt stop (AField v i h.path) h.call.request.stamp m × AllHeld stop v i hs ms

abbrev pub PromiseWaits : (Point → Point) → Vat → ℕ → Queue → Option Promise → Type 0
PromiseWaits stop v i q None = Unit {0}
PromiseWaits stop v i q (Some (promise.Open calls)) = AllWait stop (APromise v i) calls q
PromiseWaits stop v i q (Some (promise.Fixed to)) = Unit {0}

abbrev pub HeldFor : (Point → Point) → Vat → ℕ → Queue → List HeldCall → Option Value → Type 0
HeldFor stop v i q hs None = AllHeld stop v i hs q
HeldFor stop v i q hs (Some known) = Unit {0}

abbrev pub OutcomeHolds : (Point → Point) → Vat → ℕ → Queue → Option KeptOutcome → Type 0
OutcomeHolds stop v i q None = Unit {0}
OutcomeHolds stop v i q (Some x) = HeldFor stop v i q x.waiting x.value

abbrev pub IsOpenPromise : Option Promise → Type 0
IsOpenPromise None = ⊥
IsOpenPromise (Some (promise.Open calls)) = Unit {0}
IsOpenPromise (Some (promise.Fixed to)) = ⊥

abbrev pub IsOpenOutcome : Option KeptOutcome → Type 0
IsOpenOutcome None = ⊥
IsOpenOutcome (Some x) = x.value ≡ None

-- What waits at a promise, and at an outcome, is the list of its group; and no call waits in any other group of the vat.
pub record Lists (v : Vat) (promises : Map Promise) (outcomes : Map KeptOutcome) (promise_id outcome_id : ℕ → ℕ) (stop : Point → Point) (waiting : Group → Queue) : Type 0 where
  pub at_promises : (p : ℕ) → PromiseWaits stop v (promise_id p) (waiting (OfPromise v (promise_id p))) (map.get promises p)
  pub at_outcomes : (o : ℕ) → OutcomeHolds stop v (outcome_id o) (waiting (OfOutcome v (outcome_id o))) (map.get outcomes o)
  pub no_other_promise : (i : ℕ) → (waiting (OfPromise v i) ≡ []) ⊎ ((p : ℕ) × IsOpenPromise (map.get promises p) × (promise_id p ≡ i))
  pub no_other_outcome : (i : ℕ) → (waiting (OfOutcome v i) ≡ []) ⊎ ((o : ℕ) × IsOpenOutcome (map.get outcomes o) × (outcome_id o ≡ i))

-- ---- Identities

-- A stop of that kind.
abbrev pub IsStop : (Point → Point) → (Point → Kind routes) → Point → Kind routes → Type 0
IsStop stop kind x k = (stop x ≡ x) × (kind x ≡ k)

-- No identity is used twice, and of one that is still to come nothing came yet.
pub record Ids (v : Vat) (promises : Map Promise) (outcomes : Map KeptOutcome) (promise_id outcome_id : ℕ → ℕ) (stop : Point → Point) (kind : Point → Kind routes) (next : ℕ) : Type 0 where
  pub of_promises : (p : ℕ) → IsSome (map.get promises p) → promise_id p < next
  pub of_outcomes : (o : ℕ) → IsSome (map.get outcomes o) → outcome_id o < next
  pub promises_differ : (p q : ℕ) → IsSome (map.get promises p) → IsSome (map.get promises q) → promise_id p ≡ promise_id q → p ≡ q
  pub outcomes_differ : (o q : ℕ) → IsSome (map.get outcomes o) → IsSome (map.get outcomes q) → outcome_id o ≡ outcome_id q → o ≡ q
  pub new_promises : (i : ℕ) → next ≤ i → IsStop stop kind (APromise v i) routing.Open
  pub new_outcomes : (i : ℕ) (path : List Op) → next ≤ i → IsStop stop kind (AField v i path) routing.Open

-- ---- All

pub record Side (v : Vat) (s : State) (g : Ghost) (next : ℕ) (m : routing.State routes) : Type 0 where
  pub stops : Stops v s g m.net
  pub refs : Refs v s g m
  pub embargoes : Embargoes v s g m
  pub no_other_embargoes : NoOtherEmbargoes v s m
  pub lists : Lists v s.promises s.outcomes g.promise g.outcome m.net.stop m.net.waiting
  pub ids : Ids v s.promises s.outcomes g.promise g.outcome m.net.stop m.net.kind next

-- Of an identity that was given to a session, while its Call or Bootstrap is on the way to v: no outcome of v has it, and
-- nothing came of it yet.
pub record IsUnborn (v : Vat) (outcomes : Map KeptOutcome) (outcome_id : ℕ → ℕ) (stop : Point → Point) (kind : Point → Kind routes) (waiting : Group → Queue) (next : ℕ) (i : ℕ) : Type 0 where
  pub below : i < next
  pub unused : (o : ℕ) → IsSome (map.get outcomes o) → outcome_id o ≡ i → ⊥
  pub new : (path : List Op) → IsStop stop kind (AField v i path) routing.Open
  pub empty : waiting (OfOutcome v i) ≡ []

abbrev pub IsIn : ℕ → List ℕ → Type 0
IsIn i [] = ⊥
IsIn i (x ∷ xs) = (i ≡ x) ⊎ IsIn i xs

abbrev pub AllDiffer : List ℕ → Type 0
AllDiffer [] = Unit {0}
AllDiffer (x ∷ xs) = (IsIn x xs → ⊥) × AllDiffer xs

-- Of the identities of the outcomes that the messages on the way to v will make.
pub record Unborn (v : Vat) (outcomes : Map KeptOutcome) (outcome_id : ℕ → ℕ) (stop : Point → Point) (kind : Point → Kind routes) (waiting : Group → Queue) (next : ℕ) (ids : List ℕ) : Type 0 where
  pub each : (i : ℕ) → IsIn i ids → IsUnborn v outcomes outcome_id stop kind waiting next i
  pub differ : AllDiffer ids
