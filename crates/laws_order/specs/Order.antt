-- What is promised of the calls of a reference.
use Rattle.std.specs.Prelude.{◌≡◌, ℕ, zero, suc, Bool, List, [], ◌∷◌, ◌++◌, Option, None, Some}
use Rattle.std.specs.List.{AllByRecursion}
use Rattle.laws_order.specs.Machine.{Names, Object, Message, Content, Call, Disembargo, Echo, Net, Embargo, Delivery, State}
use Rattle.laws_order.specs.Routes.{Path, Good}

-- The numbers below n, in order. The calls made through a reference are numbered so.
abbrev pub below : ℕ → List ℕ
below zero = []
below (suc n) = below n ++ n ∷ []

-- The numbers of the calls delivered, in order.
abbrev pub indexes : {W : Names} → List (Delivery W) → List ℕ
indexes [] = []
indexes (d ∷ ds) = d.index ∷ indexes ds

-- The first list is a beginning of the second.
abbrev pub IsBeginningOf : List ℕ → List ℕ → Type 0
IsBeginningOf xs ys = (rest : List ℕ) × (xs ++ rest ≡ ys)

-- The delivery was at the object at which the route from the stop e ends.
abbrev pub EndsAt : {W : Names} → Net W → W.Node → Delivery W → Type 0
EndsAt n e d = (k : ℕ) × Path n k e d.object × (n.kind d.object ≡ Object)

-- The delivery was at the object o.
abbrev pub IsAt : {W : Names} → W.Node → Delivery W → Type 0
IsAt o d = d.object ≡ o

-- All were delivered at one object.
abbrev pub AtOne : {W : Names} → List (Delivery W) → Type 0
AtOne [] = Unit {0}
AtOne (d ∷ ds) = AllByRecursion (IsAt d.object) ds

-- This is a call, and no disembargo or echo.
abbrev pub IsCall : Content → Type 0
IsCall (Call i) = Unit {0}
IsCall Disembargo = ⊥
IsCall Echo = ⊥

-- The calls that an embargo keeps.
abbrev pub kept_calls : {W : Names} → Option (Embargo W) → List ℕ
kept_calls None = []
kept_calls (Some b) = b.calls

-- This message is no call of r.
abbrev pub NoCallOf : {W : Names} → W.Ref → Message W → Type 0
NoCallOf r m = m.ref ≡ r → IsCall m.what → ⊥

-- No call of r waits or is on its way.
pub record NonePending {W : Names} (s : State W) (r : W.Ref) : Type 0 where
  pub waiting : (g : W.Group) → AllByRecursion (NoCallOf r) (s.net.waiting g)
  pub links : (v : Bool) → AllByRecursion (NoCallOf r) (s.net.links v)
  pub embargo : kept_calls (s.refs r).embargo ≡ []

-- The route of r is good.
abbrev pub GoodRoute : {W : Names} → State W → W.Ref → Type 0
GoodRoute s r = Good s.net (s.net.stop (s.refs r).head)

-- The promise.
pub record InOrder {W : Names} (s : State W) (r : W.Ref) : Type 0 where
  -- the calls delivered are a beginning of the calls made, in order, each once
  pub beginning : IsBeginningOf (indexes (s.refs r).delivered) (below (s.refs r).made)
  -- all at one object
  pub one_object : AtOne (s.refs r).delivered
  -- which is the one at which the route of r ends
  pub at_end : AllByRecursion (EndsAt s.net (s.net.stop (s.refs r).head)) (s.refs r).delivered
  -- and all of them where that route is good and none is pending
  pub all : GoodRoute s r → NonePending s r → indexes (s.refs r).delivered ≡ below (s.refs r).made
