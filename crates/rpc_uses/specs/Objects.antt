-- The objects of the application that a place of the vat names (docs/protocol.md, "Places" and "Questions to a core").
use Rattle.std.specs.Prelude.{◌≡◌, ◌↔◌, ℕ, Bool, false, nat_eq, nat_lt, IsSome, IsTrue, List, [], ◌∷◌}
use Rattle.std.specs.FinMap as map
use Rattle.finite_maps.specs.Tally.{Map}
use Rattle.rpc_msg.specs.declared.ids.ObjectId.{ObjectId}
use Rattle.rpc_machine.specs.declared.node.Node.{Node}
use Rattle.rpc_machine.specs.declared.node.Node.TheVariants as node
use Rattle.rpc_machine.specs.State.{State}
use Rattle.rpc_machine.specs.Places.{places, names}

-- The node is the object of that number.
abbrev pub is_the_object : ℕ → Node → Bool
is_the_object k (node.Object o) = nat_eq o.0 k
is_the_object k (node.Promise p) = false
is_the_object k (node.Field o path) = false
is_the_object k (node.Import e) = false
is_the_object k (node.Pipe q path) = false
is_the_object k (node.Broken reason) = false

-- A place of the vat names the object.
abbrev pub names_object : State → ObjectId → Bool
names_object s o = nat_lt 0 (names s (is_the_object o.0))

abbrev pub with_object : Node → Map (Unit {0}) → Map (Unit {0})
with_object (node.Object o) m = map.insert m o.0 tt
with_object (node.Promise p) m = m
with_object (node.Field o path) m = m
with_object (node.Import e) m = m
with_object (node.Pipe q path) m = m
with_object (node.Broken reason) m = m

-- The objects among these nodes, each once.
abbrev pub objects_among : List Node → Map (Unit {0})
objects_among [] = map.empty
objects_among (n ∷ ns) = with_object n (objects_among ns)

-- How many objects of the application are named.
abbrev pub named_objects : State → ℕ
named_objects s = map.len (objects_among (places s))

-- ---- The law

-- The objects that are counted are those that a place names.
abbrev pub CountsThoseNamed : Type 0
CountsThoseNamed = (s : State) (o : ObjectId) → IsSome (map.get (objects_among (places s)) o.0) ↔ IsTrue (names_object s o)

-- Where each object that is named is among those that are known, and these are as many as are named, each of them is named.
abbrev pub AllAreNamed : Type 0 → Type 0
AllAreNamed X =
    (s : State) (known : Map X) → ((o : ObjectId) → IsTrue (names_object s o) → IsSome (map.get known o.0)) → map.len known ≡ named_objects s
    → (o : ObjectId) → IsSome (map.get known o.0) → IsTrue (names_object s o)
