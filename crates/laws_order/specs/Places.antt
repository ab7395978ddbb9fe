-- The names of the machine of routes for a vat pair.
use Rattle.std.specs.Prelude.{◌≡◌, ℕ, zero, suc, Bool, true, false, List, [], ◌∷◌, refl}
use Rattle.std.proofs.Common.{ap}
use Rattle.laws_order.specs.Machine.{Names, Kind}
use Rattle.laws_order.specs.Machine as machine
use Rattle.laws_order.specs.declared.places.Node.{Node}
use Rattle.laws_order.specs.declared.places.Node.TheVariants.{Object, Promise, Field}
use Rattle.laws_order.specs.declared.places.Group.{Group}
use Rattle.laws_order.specs.declared.places.Group.TheVariants.{Alone, Outcome}
use Rattle.laws_order.specs.declared.places.Reference.{Reference}
use Rattle.laws_order.specs.Decisions.{same_by_code}

abbrev of_bool : Bool → ℕ
of_bool true = 1
of_bool false = 0

abbrev to_bool : ℕ → Bool
to_bool zero = false
to_bool (suc n) = true

abbrev read_bool : (v : Bool) → to_bool (of_bool v) ≡ v
read_bool true = refl
read_bool false = refl

abbrev node_code : Node → List ℕ
node_code (Object v k) = of_bool v ∷ k ∷ []
node_code (Promise v k) = of_bool v ∷ k ∷ 0 ∷ []
node_code (Field v o p) = of_bool v ∷ o ∷ suc p ∷ []

abbrev read_node : List ℕ → Node
read_node (v ∷ k ∷ []) = Object (to_bool v) k
read_node (v ∷ k ∷ zero ∷ rest) = Promise (to_bool v) k
read_node (v ∷ o ∷ suc p ∷ rest) = Field (to_bool v) o p
read_node [] = Object false 0
read_node (v ∷ []) = Object false 0

abbrev node_back : (n : Node) → read_node (node_code n) ≡ n
node_back (Object v k) = ap (λ w. Object w k) (read_bool v)
node_back (Promise v k) = ap (λ w. Promise w k) (read_bool v)
node_back (Field v o p) = ap (λ w. Field w o p) (read_bool v)

abbrev group_code : Group → List ℕ
group_code (Alone n) = 0 ∷ node_code n
group_code (Outcome v o) = 1 ∷ of_bool v ∷ o ∷ []

abbrev read_group : List ℕ → Group
read_group (zero ∷ rest) = Alone (read_node rest)
read_group (suc k ∷ v ∷ o ∷ rest) = Outcome (to_bool v) o
read_group [] = Outcome false 0
read_group (suc k ∷ []) = Outcome false 0
read_group (suc k ∷ v ∷ []) = Outcome false 0

abbrev group_back : (g : Group) → read_group (group_code g) ≡ g
group_back (Alone n) = ap (λ w. Alone w) (node_back n)
group_back (Outcome v o) = ap (λ w. Outcome w o) (read_bool v)

abbrev reference_code : Reference → List ℕ
reference_code r = of_bool r.vat ∷ r.number ∷ []

abbrev read_reference : List ℕ → Reference
read_reference (v ∷ k ∷ rest) = record { vat = to_bool v; number = k }
read_reference [] = record { vat = false; number = 0 }
read_reference (v ∷ []) = record { vat = false; number = 0 }

abbrev reference_back : (r : Reference) → read_reference (reference_code r) ≡ r
reference_back r = ap (λ w. record { vat = w; number = r.number }) (read_bool r.vat)

-- the vat of a node
abbrev pub home : Node → Bool
home (Object v k) = v
home (Promise v k) = v
home (Field v o p) = v

-- the fields of one outcome settle together
abbrev pub group : Node → Group
group (Object v k) = Alone (Object v k)
group (Promise v k) = Alone (Promise v k)
group (Field v o p) = Outcome v o

-- The machine of routes over these nodes, groups and references.
abbrev pub places : Names
places = record {
  Node = Node;
  Group = Group;
  Ref = Reference;
  same_node = same_by_code node_code read_node node_back;
  same_group = same_by_code group_code read_group group_back;
  same_ref = same_by_code reference_code read_reference reference_back;
  home = home;
  group = group;
  vat = λ r. r.vat;
}

-- What each node does at the start: an object is one, and a promise or a field is open.
abbrev pub at_start : Node → Kind places
at_start (Object v k) = machine.Object
at_start (Promise v k) = machine.Open
at_start (Field v o p) = machine.Open
