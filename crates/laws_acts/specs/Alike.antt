-- Places that name alike: how often a vat's places name each kind of node, whatever their order.
use Rattle.std.specs.Prelude.{◌≡◌, ℕ, Bool, cond, nat_le, Option, None, Some, List, [], ◌∷◌, ◌++◌}
use Rattle.finite_maps.specs.Tally.{Map}
use Rattle.rpc_machine.specs.declared.node.Node.{Node}
use Rattle.rpc_machine.specs.declared.calls.HeldCall.{HeldCall}
use Rattle.rpc_machine.specs.declared.entries.Import.{Import}
use Rattle.rpc_machine.specs.declared.entries.Export.{Export}
use Rattle.rpc_machine.specs.State.{State}
use Rattle.rpc_machine.specs.Lists.{how_many, of_map}
use Rattle.rpc_machine.specs.Places.{places, named_by_held, named_by_import}

-- Both name each kind of node as often. So where a state s becomes t, and these places come and those go, it is
-- Alike (come ++ places s) (gone ++ places t).
abbrev pub Alike : List Node → List Node → Type 0
Alike xs ys = (test : Node → Bool) → how_many test xs ≡ how_many test ys

-- How many of the nodes that are tested one table names.
abbrev pub part : {X : Type 0} → (Node → Bool) → (ℕ → X → List Node) → Map X → ℕ
part test named_by m = how_many test (of_map named_by m)

-- The places of a vat some of whose calls were taken out of the list where they waited, and are not routed yet.
abbrev pub places_beside : List HeldCall → State → List Node
places_beside taken s = named_by_held taken ++ places s

-- What comes where a node is named by an export: with its first name the node.
abbrev pub come_by_naming : Node → Option Export → List Node
come_by_naming n None = n ∷ []
come_by_naming n (Some x) = []

-- What goes where an export's count falls by n: at zero its node.
abbrev pub gone_by_lowering : ℕ → Option Export → List Node
gone_by_lowering n None = []
gone_by_lowering n (Some x) = cond (nat_le x.count n) (x.node ∷ []) []

-- What goes where one of an import's count is given back: at zero what it names.
abbrev pub gone_by_giving : ℕ → Option Import → List Node
gone_by_giving e None = []
gone_by_giving e (Some x) = cond (nat_le x.count 1) (named_by_import e x) []
