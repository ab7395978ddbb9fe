-- The tree that a `Tree` of the program stands for.
use Rattle.std.specs.Prelude.{ℕ, Bool, List, [], ◌∷◌, map, replicate, if◌then◌else◌}
use Rattle.capn_trees.specs.declared.tree.Tree as program
use Rattle.capn_trees.specs.declared.tree.Fields.{Fields, fold-Fields}
use Rattle.capn_trees.specs.declared.tree.Items.{Items, fold-Items}
use Rattle.capn_trees.specs.declared.tree.Pointers.{Pointers, fold-Pointers}
use Rattle.capn_trees.specs.declared.tree.Items.TheOpen.{Tree-F, Items-F, Fields-F, Pointers-F}
use Rattle.capn_trees.specs.Trees.{Tree, null, struct, list, capability, Trees, no_trees, tree, Elements, packed, pointers, structs, Structs, no_structs, struct_of}

abbrev pub trees_of : List Tree → Trees
trees_of [] = no_trees
trees_of (t ∷ ts) = tree t (trees_of ts)

abbrev pub structs_of : List (List ℕ × Trees) → Structs
structs_of [] = no_structs
structs_of (s ∷ ss) = struct_of s.0 s.1 (structs_of ss)

abbrev pub bit : Bool → ℕ
bit b = if b then 1 else 0

-- one level, with what stands below already seen
abbrev pub items_step : Items-F Elements Tree (List ℕ × Trees) Trees → Elements
items_step (Items-F.Void n) = packed 0 (replicate n 0)
items_step (Items-F.Bits v) = packed 1 (map bit v.items)
items_step (Items-F.Bytes v) = packed 8 v.items
items_step (Items-F.Twos v) = packed 16 v.items
items_step (Items-F.Fours v) = packed 32 v.items
items_step (Items-F.Eights v) = packed 64 v.items
items_step (Items-F.Pointers ts) = pointers ts
items_step (Items-F.Structs data_words pointer_words v) = structs data_words pointer_words (structs_of v.items)

abbrev pub tree_step : Tree-F Elements Tree (List ℕ × Trees) Trees → Tree
tree_step Tree-F.Null = null
tree_step (Tree-F.Struct words ts) = struct words.items ts
tree_step (Tree-F.List items) = list items
tree_step (Tree-F.Cap index) = capability index

abbrev pub fields_step : Fields-F Elements Tree (List ℕ × Trees) Trees → List ℕ × Trees
fields_step f = (f.words.items, f.pointers)

abbrev pub pointers_step : Pointers-F Elements Tree (List ℕ × Trees) Trees → Trees
pointers_step p = trees_of p.trees.items

abbrev pub view : program.Tree → Tree
view = program.fold-Tree Elements Tree (List ℕ × Trees) Trees items_step tree_step fields_step pointers_step

abbrev pub items_view : Items → Elements
items_view = fold-Items Elements Tree (List ℕ × Trees) Trees items_step tree_step fields_step pointers_step

abbrev pub fields_view : Fields → List ℕ × Trees
fields_view = fold-Fields Elements Tree (List ℕ × Trees) Trees items_step tree_step fields_step pointers_step

abbrev pub pointers_view : Pointers → Trees
pointers_view = fold-Pointers Elements Tree (List ℕ × Trees) Trees items_step tree_step fields_step pointers_step

-- what pointers lead to, in their order
abbrev pub held : Pointers → List program.Tree
held p = p.trees.items

abbrev pub trees_view : List program.Tree → Trees
trees_view ts = trees_of (map view ts)

abbrev pub structs_view : List Fields → Structs
structs_view ss = structs_of (map fields_view ss)
