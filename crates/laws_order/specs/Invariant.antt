-- What holds at every moment, from which the promise follows. The order of calls is claimed along good routes
-- alone: on a route that goes round, calls of one reference do overtake one another (and none is delivered).
use Rattle.std.specs.Prelude.{◌≡◌, ℕ, zero, suc, ◌+◌, Bool, true, false, List, [], ◌∷◌, ◌++◌, Option, None, Some}
use Rattle.std.specs.List.{AllByRecursion}
use Rattle.laws_order.specs.Machine.{Names, Open, Exit, Message, Content, Call, Disembargo, Echo, Net, Embargo, Reference, State, choose}
use Rattle.laws_order.specs.Routes.{next, Reach, Good}
use Rattle.laws_order.specs.Order.{below, indexes, EndsAt, IsCall}

-- What stands at a place, of one reference: a call, by its number, or a mark, which is a disembargo or an echo.
abbrev pub Item : Type 0
Item = Option ℕ

-- The item of a message.
abbrev pub item : Content → Item
item (Call i) = Some i
item Disembargo = None
item Echo = None

-- These calls, and no mark.
abbrev pub items : List ℕ → List Item
items [] = []
items (i ∷ is) = Some i ∷ items is

-- The items of r among these messages whose targets stop at q, in order.
abbrev pub pick : {W : Names} → (W.Node → W.Node) → W.Ref → W.Node → List (Message W) → List Item
pick stop r q [] = []
pick {W} stop r q (m ∷ ms) =
    choose (W.same_ref m.ref r) (choose (W.same_node (stop m.target) q) (item m.what ∷ pick stop r q ms) (pick stop r q ms)) (pick stop r q ms)

-- The items of r at the stop q, the one that goes on next first: those that wait, those that are being routed,
-- those on the link to its vat.
abbrev pub at : {W : Names} → Net W → W.Ref → List (Message W) → W.Node → List Item
at {W} n r unrouted q = pick n.stop r q (n.waiting (W.group q)) ++ (pick n.stop r q unrouted ++ pick n.stop r q (n.links (W.home q)))

-- What is along the route from the stop e over that many exits, the last stop first.
abbrev pub flow : {W : Names} → Net W → (W.Node → List Item) → ℕ → W.Node → List Item
flow n at zero e = at e
flow n at (suc k) e = flow n at k (next n e) ++ at e

-- The node from which the calls of a reference that are under way set out: the old head during an embargo.
abbrev pub tail_by : {W : Names} → W.Node → Option (Embargo W) → W.Node
tail_by h None = h
tail_by h (Some b) = b.old_head

-- That node of a reference.
abbrev pub tail : {W : Names} → Reference W → W.Node
tail x = tail_by x.head x.embargo

-- With no embargo, what was delivered and what is under way are the calls made. With one, they are the calls made
-- before it and a mark behind them, and those calls and the kept ones are the calls made.
abbrev pub Sum : {W : Names} → List ℕ → ℕ → Option (Embargo W) → List Item → Type 0
Sum D made None F = items D ++ F ≡ items (below made)
Sum D made (Some b) F = (c : ℕ) × (items D ++ F ≡ items (below c) ++ None ∷ []) × (below c ++ b.calls ≡ below made)

-- A message of r, which was made, is on the route from the stop a: if the route from where it is is good, so is
-- that from a, and if that is good, it leads over the place where the message is.
abbrev pub OnWay : {W : Names} → Net W → W.Node → W.Ref → Bool → Message W → Type 0
OnWay n a r known m = m.ref ≡ r → (known ≡ true) × (Good n (n.stop m.target) → Good n a) × (Good n a → Reach n a (n.stop m.target))

-- The old head stops at an exit to a node that stops where the head does.
abbrev pub Turned : {W : Names} → Net W → Reference W → Embargo W → Type 0
Turned {W} n x b = (to : W.Node) × (n.kind (n.stop b.old_head) ≡ Exit to) × (n.stop to ≡ n.stop x.head)

-- A mark is there during an embargo alone: a disembargo goes to the old head, an echo to where the head stops.
abbrev pub MarkBy : {W : Names} → Net W → Reference W → W.Node → Content → Type 0
MarkBy n x t (Call i) = Unit {0}
MarkBy {W} n x t Disembargo = (b : Embargo W) × (x.embargo ≡ Some b) × (t ≡ b.old_head)
MarkBy {W} n x t Echo = (b : Embargo W) × (x.embargo ≡ Some b) × (n.stop t ≡ n.stop x.head)

-- If this is a mark of r, it belongs to the embargo of r, which is x.
abbrev pub IsMark : {W : Names} → Net W → W.Ref → Reference W → Message W → Type 0
IsMark n r x m = m.ref ≡ r → MarkBy n x m.target m.what

-- 1 for a mark, else 0.
abbrev pub mark : Content → ℕ
mark (Call i) = 0
mark Disembargo = 1
mark Echo = 1

-- 1 for a mark of r, else 0.
abbrev pub one : {W : Names} → W.Ref → Message W → ℕ
one {W} r m = choose (W.same_ref m.ref r) (mark m.what) 0

-- How many of these messages are marks of r.
abbrev pub count : {W : Names} → W.Ref → List (Message W) → ℕ
count r [] = 0
count r (m ∷ ms) = one r m + count r ms

-- How many marks of r are under way.
abbrev pub marks_of : {W : Names} → W.Ref → Net W → List (Message W) → ℕ
marks_of r n unrouted = count r (n.links true) + count r (n.links false) + count r unrouted

-- How many there should be.
abbrev pub owed : {W : Names} → Option (Embargo W) → ℕ
owed None = 0
owed (Some b) = 1

-- P is true of each message: of those that wait, those on the links, those that are being routed.
abbrev pub Everywhere : {W : Names} → Net W → List (Message W) → (Message W → Type 0) → Type 0
Everywhere {W} n unrouted P =
    ((g : W.Group) → AllByRecursion P (n.waiting g)) × ((v : Bool) → AllByRecursion P (n.links v)) × AllByRecursion P unrouted

-- What holds of a reference r that is x, while these messages are yet to be routed.
pub record InvariantOf {W : Names} (n : Net W) (r : W.Ref) (x : Reference W) (unrouted : List (Message W)) : Type 0 where
  -- the sum of what was delivered and what is under way is the calls made
  pub sum : (g : Good n (n.stop (tail x))) → Sum (indexes x.delivered) x.made x.embargo (flow n (at n r unrouted) g.0 (n.stop (tail x)))
  -- each message of r is on its route
  pub on_the_way : Everywhere n unrouted (OnWay n (n.stop (tail x)) r x.known)
  -- no message of r is on the link for where an own head stops: so a call that is routed there at once overtakes none
  pub own_head_clear : Good n (n.stop (tail x)) → x.embargo ≡ None → W.home x.head ≡ W.vat r → pick n.stop r (n.stop x.head) (n.links (W.home x.head)) ≡ []
  -- during an embargo, the route from the old head leads over the head
  pub turned : (b : Embargo W) → x.embargo ≡ Some b → Turned n x b
  -- each disembargo or echo of r belongs to its embargo
  pub marks : Everywhere n unrouted (IsMark n r x)
  -- and there is one during an embargo, else none
  pub one_mark : marks_of r n unrouted ≡ owed x.embargo
  -- the route of a dead reference is not good
  pub dead : x.dead ≡ true → Good n (n.stop (tail x)) → ⊥
  -- each delivery was at the object where the route ends
  pub delivered : AllByRecursion (EndsAt n (n.stop (tail x))) x.delivered

-- What waits in the group g is a call at an open stop of that group.
abbrev pub WaitsIn : {W : Names} → Net W → W.Group → Message W → Type 0
WaitsIn {W} n g m = (n.kind (n.stop m.target) ≡ Open) × (W.group (n.stop m.target) ≡ g) × IsCall m.what

-- What is on the link to the vat v goes to a node of v.
abbrev pub GoesTo : {W : Names} → Net W → Bool → Message W → Type 0
GoesTo {W} n v m = W.home (n.stop m.target) ≡ v

-- What holds of all references together: nodes and messages are where they belong.
pub record InPlace {W : Names} (n : Net W) : Type 0 where
  pub homes : (m : W.Node) → W.home (n.stop m) ≡ W.home m
  pub waiting : (g : W.Group) → AllByRecursion (WaitsIn n g) (n.waiting g)
  pub links : (v : Bool) → AllByRecursion (GoesTo n v) (n.links v)

-- What holds of a state in the middle of a step, in which these calls are yet to be routed.
pub record InvariantWith {W : Names} (s : State W) (unrouted : List (Message W)) : Type 0 where
  pub in_place : InPlace s.net
  pub only_calls : AllByRecursion (λ m. IsCall m.what) unrouted
  pub of_each : (r : W.Ref) → InvariantOf s.net r (s.refs r) unrouted

-- What holds of a state between two steps.
abbrev pub Invariant : {W : Names} → State W → Type 0
Invariant s = InvariantWith s []
