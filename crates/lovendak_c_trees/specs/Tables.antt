-- The contents under their numbers: what each call makes of them, and when it is refused.
use Rattle.std.specs.Prelude.{◌≡◌, ◌<◌, ◌≤◌, ◌^◌, ◌⊎◌, ℕ, true, false, ◌==◌, ◌&&◌, if◌then◌else◌, List, [], ◌∷◌, ◌++◌, length, replicate, slice_set, Option, Some, None, option_map, Result, Ok, Err}
use Rattle.std.specs.List.{slice_get}
use Rattle.std.specs.Option.{option_and_then}
use Rattle.capn_trees.specs.Trees.{Tree, null}
use Rattle.capn_trees.specs.Writable.{refusal}
use Rattle.capn_writing.specs.Placing.{written}
use Rattle.lovendak_c_trees.specs.Contents.{Content, Fields, struct, pointers, structs, moved, payload, tree_of, is_too_deep, set_number, set_pointer}
use Rattle.lovendak_c_trees.specs.Copies.{CopiesOut}
use Rattle.lovendak_c_trees.specs.Faults.{not_written}
use Rattle.lovendak_c_trees.specs.Numbers.{is_sized}
use Rattle.lovendak_c_trees.specs.declared.fault.TreeFault.{TreeFault}
use Rattle.lovendak_c_trees.specs.declared.fault.TreeFault.TheVariants.{Memory, Full, Nothing, NoSuchNumber}

-- ---- made

-- It stands under the next number; or memory is wanting, or there are as many as there are numbers.
abbrev pub Adds : Content → Result ℕ TreeFault → List Content → List Content → Type 0
Adds made (Ok n) old new = (n ≡ length old) × (new ≡ old ++ made ∷ [])
Adds made (Err e) old new = ((e ≡ Memory) ⊎ ((e ≡ Full) × (2 ^ 32 ≤ length old))) × (new ≡ old)

-- the same of a list of so many null pointers, of which there are too many above 65,535
abbrev pub AddsList : ℕ → Result ℕ TreeFault → List Content → List Content → Type 0
AddsList count (Ok n) old new = (count ≤ 65535) × Adds (pointers (replicate count null)) (Ok n) old new
AddsList count (Err e) old new = ((e ≡ Full) × (65535 < count) × (new ≡ old)) ⊎ Adds (pointers (replicate count null)) (Err e) old new

-- ---- set

-- what stands under a number is changed, where there is something that can be
abbrev pub changed : List Content → ℕ → (Content → Option Content) → Option (List Content)
changed contents at change = option_map (slice_set contents at) (option_and_then change (slice_get contents at))

-- That is done, where it can be.
abbrev pub Does : {A : Type 0} → Option A → Result (Unit {0}) TreeFault → A → A → Type 0
Does wanted (Ok u) old new = wanted ≡ Some new
Does wanted (Err e) old new = (e ≡ Nothing) × (wanted ≡ None) × (new ≡ old)

-- A number is put in its place; or it has more bits than its width, or there is no such width.
abbrev pub SetsNumber : ℕ → ℕ → ℕ → ℕ → Result (Unit {0}) TreeFault → List Content → List Content → Type 0
SetsNumber at bits index n (Ok u) old new = (is_sized bits n ≡ true) × (changed old at (set_number bits index n) ≡ Some new)
SetsNumber at bits index n (Err e) old new =
    (((e ≡ NoSuchNumber) × (is_sized bits n ≡ false)) ⊎ ((e ≡ Nothing) × (changed old at (set_number bits index n) ≡ None))) × (new ≡ old)

-- A pointer leads to a tree; or that is not made, or there is no such pointer.
abbrev pub Sets : (TreeFault → Type 0) → ℕ → ℕ → Tree → Result (Unit {0}) TreeFault → List Content → List Content → Type 0
Sets IsNotMade at k t (Ok u) old new = changed old at (set_pointer k t) ≡ Some new
Sets IsNotMade at k t (Err e) old new = (IsNotMade e ⊎ ((e ≡ Nothing) × (changed old at (set_pointer k t) ≡ None))) × (new ≡ old)

-- ---- put together

-- the tree under a number
abbrev pub tree_at : List Content → ℕ → Option Tree
tree_at contents at = option_and_then tree_of (slice_get contents at)

-- the tree under a number can't be taken: memory is wanting, it is none, or it nests too deep
abbrev pub IsNotTaken : List Content → ℕ → TreeFault → Type 0
IsNotTaken contents from e =
    (e ≡ Memory) ⊎ ((e ≡ Nothing) × (tree_at contents from ≡ None))
    ⊎ ((e ≡ Full) × (option_map is_too_deep (slice_get contents from) ≡ Some true))

-- what is made of one, and nothing stands under another any more
abbrev pub joined : List Content → ℕ → ℕ → (Content → Option Content) → Option (List Content)
joined contents at from change = option_map (λ cs. slice_set cs from moved) (changed contents at change)

-- A pointer leads to the tree under another number, which then stands for nothing.
abbrev pub Puts : ℕ → ℕ → ℕ → Result (Unit {0}) TreeFault → List Content → List Content → Type 0
Puts at k from (Ok u) old new = (¬ (at ≡ from)) × ((t : Tree) × (tree_at old from ≡ Some t) × (joined old at from (set_pointer k t) ≡ Some new))
Puts at k from (Err e) old new =
    (((e ≡ Nothing) × (at ≡ from)) ⊎ (IsNotTaken old from e ⊎ ((e ≡ Nothing) × ((t : Tree) × (tree_at old from ≡ Some t) × (joined old at from (set_pointer k t) ≡ None))))) × (new ≡ old)

-- a list of structs with one more at its end, where that has their lengths
abbrev pub pushed : Fields → Content → Option Content
pushed f (structs data_words pointer_words fs) =
    if length f.words == data_words && length f.pointers == pointer_words then Some (structs data_words pointer_words (fs ++ f ∷ [])) else None
pushed f (struct g) = None
pushed f (pointers ts) = None
pushed f (payload p) = None
pushed f moved = None

abbrev pub as_struct : Content → Option Fields
as_struct (struct f) = Some f
as_struct (pointers ts) = None
as_struct (structs data_words pointer_words fs) = None
as_struct (payload p) = None
as_struct moved = None

-- the struct under a number
abbrev pub struct_at : List Content → ℕ → Option Fields
struct_at contents at = option_and_then as_struct (slice_get contents at)

-- That is done, where it can be; or memory is wanting.
abbrev pub Appends : {A : Type 0} → Option A → Result (Unit {0}) TreeFault → A → A → Type 0
Appends wanted (Ok u) old new = wanted ≡ Some new
Appends wanted (Err e) old new = ((e ≡ Memory) ⊎ ((e ≡ Nothing) × (wanted ≡ None))) × (new ≡ old)

-- A list of structs has the struct under another number at its end, which then stands for nothing.
abbrev pub Pushes : ℕ → ℕ → Result (Unit {0}) TreeFault → List Content → List Content → Type 0
Pushes list from (Ok u) old new = (¬ (list ≡ from)) × ((f : Fields) × (struct_at old from ≡ Some f) × (joined old list from (pushed f) ≡ Some new))
Pushes list from (Err e) old new =
    (((e ≡ Nothing) × (list ≡ from)) ⊎ ((e ≡ Memory) ⊎ (((e ≡ Nothing) × (struct_at old from ≡ None)) ⊎ ((e ≡ Nothing) × ((f : Fields) × (struct_at old from ≡ Some f) × (joined old list from (pushed f) ≡ None)))))) × (new ≡ old)

-- ---- written

-- The tree under a number can't be written.
abbrev pub IsNotWritten : List Content → ℕ → ℕ → TreeFault → Type 0
IsNotWritten contents at caps e = IsNotTaken contents at e ⊎ ((t : Tree) × (tree_at contents at ≡ Some t) × (option_map not_written (refusal t caps) ≡ Some e))

-- The bytes of the tree under a number are copied out where there is room for them.
abbrev pub Writes : List Content → ℕ → ℕ → List ℕ → ℕ → Result (Unit {0}) TreeFault → List ℕ → ℕ → Type 0
Writes contents at caps room before answer out len =
    ((t : Tree) × (tree_at contents at ≡ Some t) × (refusal t caps ≡ None) × CopiesOut (written t) room answer out len)
    ⊎ ((e : TreeFault) × (answer ≡ Err e) × IsNotWritten contents at caps e × (out ≡ room) × (len ≡ before))
