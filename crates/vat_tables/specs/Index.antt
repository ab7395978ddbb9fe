-- How the ids of nodes are found, each kind of node apart.
use Rattle.std.specs.Prelude.{◌≡◌, ℕ, ◌+◌, ◌-◌, nat_eq, if◌then◌else◌, false, min, Option, None, Some}
use Rattle.std.specs.Ordering.{nat_cmp}
use Rattle.std.specs.FinMap as map
use Rattle.std.specs.HashMap as hash
use Rattle.std.specs.HashMap.{spare}
use Rattle.rpc_machine.specs.declared.node.Node.{Node}
use Rattle.rpc_machine.specs.declared.node.Node.TheVariants as node
use Rattle.vat_tables.specs.Exports.{node_eq, field_of}
use Rattle.vat_tables.specs.declared.index.NodeIndex.{NodeIndex}

-- the id of a node, if it has one
abbrev pub found : NodeIndex → Node → Option ℕ
found index (node.Object object) = map.get index.objects.entries object.0
found index (node.Promise key) = map.get index.promises.entries key
found index (node.Import id) = map.get index.imports.entries id.0
found index (node.Field key path) = hash.get node_eq index.hashed (node.Field key path)
found index (node.Pipe id path) = hash.get node_eq index.hashed (node.Pipe id path)
found index (node.Broken reason) = hash.get node_eq index.hashed (node.Broken reason)

-- so many more nodes need no more memory, of whatever kind
abbrev pub index_room : NodeIndex → ℕ
index_room index = min (min index.objects.room index.promises.room) (min index.imports.room (min (spare index.hashed) index.fields.room))

-- no node is found
abbrev pub FindsNone : (Node → Option ℕ) → Type 0
FindsNone index = (node : Node) → index node ≡ None

-- each node is found as before
abbrev pub FindsSame : (Node → Option ℕ) → (Node → Option ℕ) → Type 0
FindsSame old new = (node : Node) → new node ≡ old node

-- this is found of the node, and of each other node what was found of it
abbrev pub Refinds : (Node → Option ℕ) → (Node → Option ℕ) → Node → Option ℕ → Type 0
Refinds old new node id = (new node ≡ id) × ((other : Node) → node_eq node other ≡ false → new other ≡ old other)

-- ---- How many fields are found

abbrev pub Numbers : Type 0
Numbers = map.FinMap nat_cmp ℕ

-- the number that is there, or none at all
abbrev pub number_of : Option ℕ → ℕ
number_of None = 0
number_of (Some n) = n

-- one more under this key, and under each other what stood there
abbrev pub OneMore : Numbers → Numbers → ℕ → Type 0
OneMore old new key = (q : ℕ) → number_of (map.get new q) ≡ number_of (map.get old q) + (if nat_eq key q then 1 else 0)

-- one fewer under this key, if it had one, and under each other what stood there
abbrev pub OneFewer : Numbers → Numbers → ℕ → Type 0
OneFewer old new key = (q : ℕ) → number_of (map.get new q) ≡ number_of (map.get old q) - (if nat_eq key q then 1 else 0)

-- how many fields of the outcome are found
abbrev pub fields_found : NodeIndex → ℕ → ℕ
fields_found index outcome = number_of (map.get index.fields.entries outcome)

-- as many fields of each outcome are found as before
abbrev pub FieldsSame : (ℕ → ℕ) → (ℕ → ℕ) → Type 0
FieldsSame old new = (outcome : ℕ) → new outcome ≡ old outcome

-- the node is one more of them, if it is a field
abbrev pub FieldsMore : (ℕ → ℕ) → (ℕ → ℕ) → Node → Type 0
FieldsMore old new node = (outcome : ℕ) → new outcome ≡ old outcome + field_of outcome node

-- the node was one of them, if it is a field
abbrev pub FieldsFewer : (ℕ → ℕ) → (ℕ → ℕ) → Node → Type 0
FieldsFewer old new node = (outcome : ℕ) → new outcome ≡ old outcome - field_of outcome node
