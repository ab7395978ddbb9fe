-- What the contracts of this crate say, each of every machine.
use Rattle.std.specs.Prelude.{◌≡◌, Bool, List, ◌∷◌, Some}
use Rattle.laws_order.specs.Machine.{Names, Kind, Exit, Message, Disembargo, Echo, Embargo, State, start}
use Rattle.laws_order.specs.Events.{Event, happens, Allowed, run, AllAllowed}
use Rattle.laws_order.specs.Order.{InOrder}
use Rattle.laws_order.specs.Invariant.{Invariant}

-- The law of every machine whose nodes, groups and references are of these types.
abbrev pub OfEveryMachine : Type 0 → Type 0 → Type 0 → (Names → Type 0) → Type 0
OfEveryMachine N G R Law =
    (same_node : (x y : N) → Dec (x ≡ y)) (same_group : (x y : G) → Dec (x ≡ y)) (same_ref : (x y : R) → Dec (x ≡ y)) (home : N → Bool) (group : N → G) (vat : R → Bool)
    → Law (record { Node = N; Group = G; Ref = R; same_node = same_node; same_group = same_group; same_ref = same_ref; home = home; group = group; vat = vat })

-- Whatever happens, the calls of each reference are in order.
abbrev pub AlwaysInOrder : Names → Type 0
AlwaysInOrder W =
    (kind : W.Node → Kind W) (heads : W.Ref → W.Node) (events : List (Event W)) → AllAllowed (start kind heads) events
    → (r : W.Ref) → InOrder (run (start kind heads) events) r

-- The invariant holds at the start.
abbrev pub HoldsAtStart : Names → Type 0
HoldsAtStart W = (kind : W.Node → Kind W) (heads : W.Ref → W.Node) → Invariant (start kind heads)

-- Each allowed event keeps it.
abbrev pub EachEventKeepsIt : Names → Type 0
EachEventKeepsIt W = (s : State W) (e : Event W) → Invariant s → Allowed s e → Invariant (happens s e)

-- It gives the promise.
abbrev pub GivesOrder : Names → Type 0
GivesOrder W = (s : State W) → Invariant s → (r : W.Ref) → InOrder s r

-- A disembargo that is received belongs to the embargo of its reference, was sent to the old head, and meets there an
-- exit to a node that stops where the head does.
abbrev pub DisembargoMeetsExit : Names → Type 0
DisembargoMeetsExit W =
    (s : State W) (v : Bool) (m : Message W) (ms : List (Message W)) → Invariant s → s.net.links v ≡ m ∷ ms → m.what ≡ Disembargo
    → (b : Embargo W) × ((s.refs m.ref).embargo ≡ Some b) × (m.target ≡ b.old_head)
    × (to : W.Node) × (s.net.kind (s.net.stop m.target) ≡ Exit to) × (s.net.stop to ≡ s.net.stop (s.refs m.ref).head)

-- An echo that is received meets the embargo of its reference, and was sent to where the head stops.
abbrev pub EchoMeetsEmbargo : Names → Type 0
EchoMeetsEmbargo W =
    (s : State W) (v : Bool) (m : Message W) (ms : List (Message W)) → Invariant s → s.net.links v ≡ m ∷ ms → m.what ≡ Echo
    → (b : Embargo W) × ((s.refs m.ref).embargo ≡ Some b) × (s.net.stop m.target ≡ s.net.stop (s.refs m.ref).head)
