-- What stands at a place of a message, by its tree.
use Rattle.std.specs.Prelude.{◌≡◌, ◌⊎◌, ℕ, zero, suc, ◌==◌, nat_lt, ◌&&◌, if◌then◌else◌, List, [], ◌∷◌, ◌++◌, length, get_or, Option, Some, None, Ok}
use Rattle.std.specs.Str.{IsUtf8}
use Rattle.capn_reading.specs.declared.referent.Referent.{Referent}
use Rattle.capn_trees.specs.Trees as tree
use Rattle.capn_trees.specs.Trees.{Tree, null, struct, list, capability, Elements, Structs, no_structs, struct_of, trees_count, structs_count, pointer_at}
use Rattle.capn_reading.specs.Following.{followed}
use Rattle.capn_reading.specs.Reading.{Reading, shallow, deep, reading, root_up_to}
use Rattle.capn_trees.specs.Limits.{most_levels}
use Rattle.capn_reading.specs.declared.place.Kind.{Kind}
use Rattle.capn_reading.specs.declared.place.Kind.TheVariants as kind

-- a message of these segments, with so many capabilities
pub record Viewed : Type 0 where
  pub message : List (List ℕ)
  pub caps : ℕ

-- a message of these segments, with so many capabilities, of which so many words may be visited
pub record Limited : Type 0 where
  pub message : List (List ℕ)
  pub caps : ℕ
  pub words : ℕ

-- what it says
abbrev pub said_within : Limited → Reading Tree
said_within d = root_up_to d.words d.message d.caps most_levels

-- a place in one
pub record Spot : Type 0 where
  pub message : List (List ℕ)
  pub caps : ℕ
  pub referent : Referent

-- the tree of what a pointer leads to, with contents nested at most so deep
abbrev pub meaning : List (List ℕ) → ℕ → ℕ → Referent → ℕ → Reading Tree
meaning m caps zero r visited = shallow r visited
meaning m caps (suc levels) r visited = deep m (reading m caps levels) r visited

-- what a pointer leads to is the place of this tree
pub record StandsFor (m : List (List ℕ)) (caps : ℕ) (r : Referent) (t : Tree) : Type 0 where
  pub levels : ℕ
  pub before : ℕ
  pub after : ℕ
  pub reads : meaning m caps levels r before ≡ Ok (t, after)

-- the pointer at word i of segment s leads to the place of this tree
pub record LeadsTo (m : List (List ℕ)) (caps s i : ℕ) (t : Tree) : Type 0 where
  pub next : Referent
  pub visited : ℕ
  pub is_followed : followed m caps s i 0 ≡ Ok (next, visited)
  pub stands : StandsFor m caps next t

-- this tree stands at a place
abbrev pub At : Spot → Tree → Type 0
At p t = StandsFor p.message p.caps p.referent t

abbrev pub kind_of : Tree → Kind
kind_of null = kind.Null
kind_of (capability index) = kind.Capability index
kind_of (struct data_words pointers) = kind.Struct
kind_of (list elements) = kind.List

-- a pointer of a struct; every pointer of null is null; a list and a capability have none
abbrev pub field : Tree → ℕ → Option Tree
field null n = Some null
field (struct data_words pointers) n = Some (pointer_at pointers n)
field (list elements) n = None
field (capability index) n = None

-- the data words of a struct; null has none, a list and a capability no data
abbrev pub data_of : Tree → Option (List ℕ)
data_of null = Some []
data_of (struct data_words pointers) = Some data_words
data_of (list elements) = None
data_of (capability index) = None

-- how many elements a list has; null is an empty list
abbrev pub elements_count : Elements → ℕ
elements_count (tree.packed bits xs) = length xs
elements_count (tree.pointers ts) = trees_count ts
elements_count (tree.structs data_words pointer_words ss) = structs_count ss

abbrev pub length_of : Tree → Option ℕ
length_of null = Some 0
length_of (list elements) = Some (elements_count elements)
length_of (struct data_words pointers) = None
length_of (capability index) = None

-- element k of a list of elements of so many bits, if it has one
abbrev pub packed_at : ℕ → Elements → ℕ → Option ℕ
packed_at bits (tree.packed b xs) k = if b == bits && nat_lt k (length xs) then Some (get_or xs k 0) else None
packed_at bits (tree.pointers ts) k = None
packed_at bits (tree.structs data_words pointer_words ss) k = None

abbrev pub element_of : ℕ → Tree → ℕ → Option ℕ
element_of bits (list elements) k = packed_at bits elements k
element_of bits null k = None
element_of bits (struct data_words pointers) k = None
element_of bits (capability index) k = None

-- struct k of a list of structs, which is null past the end
abbrev pub struct_at : Structs → ℕ → Tree
struct_at no_structs k = null
struct_at (struct_of data_words ts ss) zero = struct data_words ts
struct_at (struct_of data_words ts ss) (suc k) = struct_at ss k

-- element k of a list of pointers or structs, which is null past the end
abbrev pub held_at : Elements → ℕ → Option Tree
held_at (tree.packed bits xs) k = None
held_at (tree.pointers ts) k = Some (pointer_at ts k)
held_at (tree.structs data_words pointer_words ss) k = Some (struct_at ss k)

abbrev pub item_of : Tree → ℕ → Option Tree
item_of null k = Some null
item_of (list elements) k = held_at elements k
item_of (struct data_words pointers) k = None
item_of (capability index) k = None

-- the bytes of a list of bytes; null is an empty one
abbrev pub packed_bytes : Elements → Option (List ℕ)
packed_bytes (tree.packed bits xs) = if bits == 8 then Some xs else None
packed_bytes (tree.pointers ts) = None
packed_bytes (tree.structs data_words pointer_words ss) = None

abbrev pub bytes_of : Tree → Option (List ℕ)
bytes_of null = Some []
bytes_of (list elements) = packed_bytes elements
bytes_of (struct data_words pointers) = None
bytes_of (capability index) = None

-- the text in bytes: what is before the zero at their end, which is UTF-8
abbrev pub IsTextIn : List ℕ → List ℕ → Type 0
IsTextIn bytes s = (bytes ≡ s ++ 0 ∷ []) × IsUtf8 s

-- the text of a list of bytes; null is the empty text
abbrev pub IsTextOf : Tree → List ℕ → Type 0
IsTextOf t s = ((t ≡ null) × (s ≡ [])) ⊎ ((bytes : List ℕ) × (bytes_of t ≡ Some bytes) × IsTextIn bytes s)
