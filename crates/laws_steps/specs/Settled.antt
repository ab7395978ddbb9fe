-- What is settled stays settled, and leads to the same place (docs/protocol.md, "Where a node leads").
use Rattle.std.specs.Prelude.{◌≡◌, ◌⊎◌, ℕ, false, None, Some, IsSome, List, [], ◌∷◌}
use Rattle.std.specs.FinMap as map
use Rattle.laws_acts.specs.rpc_machine.specs.declared.node.Node.{Node}
use Rattle.laws_acts.specs.rpc_machine.specs.declared.node.Node.TheVariants as node
use Rattle.laws_acts.specs.rpc_machine.specs.declared.calls.Promise.TheVariants as promise
use Rattle.laws_acts.specs.rpc_machine.specs.declared.calls.Value.{Value}
use Rattle.laws_acts.specs.rpc_machine.specs.declared.command.Effects.{Effects}
use Rattle.laws_acts.specs.rpc_machine.specs.State.{State}
use Rattle.laws_acts.specs.rpc_machine.specs.Nodes.{value_of, settle, is_open}
use Rattle.laws_acts.specs.rpc_machine.specs.Places.{places}
use Rattle.laws_acts.specs.rpc_machine.specs.Laws.{Stops}

-- A settled promise, and a known outcome, says the same in every state in which it still stands.
pub record SaysTheSame (s : State) (effects : Effects) (t : State) : Type 0 where
  pub promises : (p : ℕ) (to : Node) → map.get s.promises p ≡ Some (promise.Fixed to) → (map.get t.promises p ≡ None) ⊎ (map.get t.promises p ≡ Some (promise.Fixed to))
  pub outcomes : (o : ℕ) (v : Value) → value_of (map.get s.outcomes o) ≡ Some v → (map.get t.outcomes o ≡ None) ⊎ (value_of (map.get t.outcomes o) ≡ Some v)

-- The vat has the promise or the outcome that the node is of.
abbrev pub IsThere : State → Node → Type 0
IsThere s (node.Object o) = Unit {0}
IsThere s (node.Promise p) = IsSome (map.get s.promises p)
IsThere s (node.Field o path) = IsSome (map.get s.outcomes o)
IsThere s (node.Import e) = Unit {0}
IsThere s (node.Pipe q path) = Unit {0}
IsThere s (node.Broken reason) = Unit {0}

abbrev pub IsAmong : Node → List Node → Type 0
IsAmong n [] = ⊥
IsAmong n (m ∷ ms) = (n ≡ m) ⊎ IsAmong n ms

-- The promise or the outcome of every node that a place names is there.
abbrev pub AreThere : State → Type 0
AreThere s = (n : Node) → IsAmong n (places s) → IsThere s n

-- A node that is there afterwards leads where the place leads at which it stopped before.
abbrev pub LeadsOn : State → Effects → State → Type 0
LeadsOn s effects t = AreThere t → (n : Node) (d e : ℕ) → IsThere t n → Stops s d n → Stops t e (settle s n) → settle t n ≡ settle t (settle s n)

-- So one that is settled stays so, at the same place.
abbrev pub StaysSettled : State → Effects → State → Type 0
StaysSettled s effects t = AreThere t → (n : Node) → IsThere t n → is_open (settle s n) ≡ false → settle t n ≡ settle s n
