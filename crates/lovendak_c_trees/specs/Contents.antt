-- What stands under a number, the tree that it is, and what setting a number or a pointer makes of it.
use Rattle.std.specs.Prelude.{ℕ, nat_lt, if◌then◌else◌, Bool, false, ◌||◌, List, [], ◌∷◌, map, length, slice_set, Option, Some, None, option_map}
use Rattle.capn_trees.specs.Trees as tree
use Rattle.capn_trees.specs.Trees.{Tree}
use Rattle.capn_trees.specs.Views.{view, trees_of, structs_of}
use Rattle.capn_trees.specs.Writable.{are_deeper}
use Rattle.capn_wire.specs.Payloads as payloads
use Rattle.capn_wire.specs.Payloads.{Contents}
use Rattle.lovendak_c_trees.specs.declared.content.Draft.{Draft}
use Rattle.lovendak_c_trees.specs.declared.content.Content as program
use Rattle.lovendak_c_trees.specs.declared.content.Content.TheVariants as form
use Rattle.lovendak_c_trees.specs.Numbers.{put_number}

-- a struct that is being built: its data words, and what its pointers lead to
pub record Fields : Type 0 where
  pub words : List ℕ
  pub pointers : List Tree

-- a struct, a list of pointers by what they lead to, a list of structs of these lengths, a payload, or what is a part of another
pub data Content : Type 0 where
  struct : Fields → Content
  pointers : List Tree → Content
  structs : (data_words pointer_words : ℕ) → List Fields → Content
  payload : Contents → Content
  moved : Content

abbrev pub fields : Draft → Fields
fields d = record { words = d.words.items; pointers = map view d.pointers.items }

abbrev pub shown : program.Content → Content
shown (form.Struct d) = struct (fields d)
shown (form.Pointers v) = pointers (map view v.items)
shown (form.Structs data_words pointer_words v) = structs data_words pointer_words (map fields v.items)
shown (form.Payload p) = payload p
shown form.Moved = moved

abbrev pub shown_all : List program.Content → List Content
shown_all contents = map shown contents

-- ---- the tree that it is

-- a struct in a list
abbrev pub in_list : Fields → List ℕ × tree.Trees
in_list f = (f.words, trees_of f.pointers)

abbrev pub tree_of : Content → Option Tree
tree_of (struct f) = Some (tree.struct f.words (trees_of f.pointers))
tree_of (pointers ts) = Some (tree.list (tree.pointers (trees_of ts)))
tree_of (structs data_words pointer_words fs) = Some (tree.list (tree.structs data_words pointer_words (structs_of (map in_list fs))))
tree_of (payload p) = Some (payloads.tree_of p)
tree_of moved = None

-- one of these trees nests more than 127 levels deep
abbrev pub are_too_deep : List Tree → Bool
are_too_deep ts = are_deeper (trees_of ts) 127

abbrev pub some_too_deep : List Fields → Bool
some_too_deep [] = false
some_too_deep (f ∷ fs) = are_too_deep f.pointers || some_too_deep fs

-- what a pointer of it leads to nests more than 127 levels deep
abbrev pub is_too_deep : Content → Bool
is_too_deep (struct f) = are_too_deep f.pointers
is_too_deep (pointers ts) = are_too_deep ts
is_too_deep (structs data_words pointer_words fs) = some_too_deep fs
is_too_deep (payload p) = false
is_too_deep moved = false

-- ---- what is set

-- a number of so many bits, at so many times its width in the data of a struct
abbrev pub set_number : ℕ → ℕ → ℕ → Content → Option Content
set_number bits index n (struct f) = option_map (λ words. struct (record f { words = words })) (put_number f.words bits index n)
set_number bits index n (pointers ts) = None
set_number bits index n (structs data_words pointer_words fs) = None
set_number bits index n (payload p) = None
set_number bits index n moved = None

abbrev pub put_tree : List Tree → ℕ → Tree → Option (List Tree)
put_tree ts k t = if nat_lt k (length ts) then Some (slice_set ts k t) else None

-- what a pointer of a struct or of a list leads to
abbrev pub set_pointer : ℕ → Tree → Content → Option Content
set_pointer k t (struct f) = option_map (λ ts. struct (record f { pointers = ts })) (put_tree f.pointers k t)
set_pointer k t (pointers ts) = option_map pointers (put_tree ts k t)
set_pointer k t (structs data_words pointer_words fs) = None
set_pointer k t (payload p) = None
set_pointer k t moved = None
