-- What trees of the program are as JSON, by their form; and lists, element by element.
use Rattle.std.proofs.Common.{◌≡◌, Bool, true, false, ℕ, ◌+◌, ◌<◌, ◌≤◌, ◌==◌, List, [], ◌∷◌, ◌++◌, length, map, take, get_or, refl, sym, ap, ◌∙◌}
use Rattle.std.specs.Prelude.{codes}
use Rattle.std.specs.Global.{Vec}
use Rattle.std.specs.Str.{IsUtf8, is_utf8}
use Rattle.std.proofs.lemmas.Str.{IsUtf8-from_is_utf8}
use Rattle.std.proofs.lemmas.List.{map_push, map-id, take_all, take_more, length-replicate}
use Rattle.serde_json.specs.Data.{Data, null, boolean, array, Items, item}
use Rattle.serde_json.specs.View.{items_of}
use Rattle.capn_trees.specs.declared.tree.Tree as program
use Rattle.capn_trees.specs.declared.tree.Tree.TheVariants as tree_form
use Rattle.capn_trees.specs.declared.tree.Items as program_items
use Rattle.capn_trees.specs.declared.tree.Items.TheVariants as form
use Rattle.capn_trees.specs.declared.tree.Fields.{Fields}
use Rattle.capn_trees.specs.declared.tree.Pointers.{Pointers}
use Rattle.capn_trees.specs.Trees.{Trees}
use Rattle.capn_trees.specs.Views.{bit, view, items_view, fields_view, trees_view, structs_view}
use Rattle.capn_trees.proofs.Viewed.{view_null, view_capability, view_struct, view_list, view_void, view_bits, view_bytes, view_twos, view_fours, view_eights, view_pointers, view_structs, view_fields}
use Rattle.trace_write.specs.Parts.{nat, list, only}
use Rattle.rpc_dump_lib.specs.Trees.{bytes_data, words_and_pointers, tree_data, trees_data, elements_data, structs_data}

-- ---- Lists, made element by element

pub made_more : {X Y Z : Type 0} (f : X → Z) (g : Y → Z) (more done : List X) (xs : List Y) (i : ℕ) (x : Y) (y : X)
    → more ≡ done ++ y ∷ [] → i < length xs → x ≡ get_or xs i x → f y ≡ g x
    → map f done ≡ map g (take i xs) → map f more ≡ map g (take (i + 1) xs)
made_more f g more done xs i x y is_more lt is_x same so_far =
    ap (map f) is_more ∙ map_push f done y ∙ ap (λ l. l ++ f y ∷ []) so_far ∙ ap (λ z. map g (take i xs) ++ z ∷ []) (same ∙ ap g is_x)
    ∙ sym (ap (map g) (take_more xs i x lt) ∙ map_push g (take i xs) (get_or xs i x))

pub made_all : {X Y Z : Type 0} (f : X → Z) (g : Y → Z) (done : List X) (xs : List Y) (i : ℕ) → length xs ≤ i
    → map f done ≡ map g (take i xs) → map f done ≡ map g xs
made_all f g done xs i le so_far = so_far ∙ ap (map g) (take_all i xs le)

-- ---- Trees by their form

unfoldable pub shown_tree : program.Tree → Data
shown_tree t = tree_data (view t)

unfoldable pub shown_fields : Fields → Data
shown_fields s = words_and_pointers (fields_view s).0 (trees_data (fields_view s).1)

pub all_trees : (ts : List program.Tree) → items_of (map shown_tree ts) ≡ trees_data (trees_view ts)
unfolding shown_tree
all_trees [] = refl
all_trees (t ∷ ts) = ap (item (tree_data (view t))) (all_trees ts)

pub all_structs : (ss : List Fields) → items_of (map shown_fields ss) ≡ structs_data (structs_view ss)
unfolding shown_fields
all_structs [] = refl
all_structs (s ∷ ss) = ap (item (words_and_pointers (fields_view s).0 (trees_data (fields_view s).1))) (all_structs ss)

pub all_bits : (bs : List Bool) → items_of (map (λ b. boolean (b == 1)) (map bit bs)) ≡ items_of (map boolean bs)
all_bits [] = refl
all_bits (true ∷ bs) = ap (item (boolean true)) (all_bits bs)
all_bits (false ∷ bs) = ap (item (boolean false)) (all_bits bs)

pub show_null : tree_data (view tree_form.Null) ≡ null
show_null = ap tree_data view_null

pub show_capability : (index : ℕ) → tree_data (view (tree_form.Cap index)) ≡ only (codes "cap") (nat index)
show_capability index = ap tree_data (view_capability index)

pub show_struct : (words : Vec ℕ) (ps : Pointers) → tree_data (view (tree_form.Struct words ps)) ≡ only (codes "struct") (words_and_pointers words.items (trees_data (trees_view ps.trees.items)))
show_struct words ps = ap tree_data (view_struct words ps)

pub show_list : (items : program_items.Items) → tree_data (view (tree_form.List items)) ≡ elements_data (items_view items)
show_list items = ap tree_data (view_list items)

pub show_void : (n : ℕ) → elements_data (items_view (form.Void n)) ≡ only (codes "voids") (nat n)
show_void n = ap elements_data (view_void n) ∙ ap (λ (k : ℕ). only (codes "voids") (nat k)) (length-replicate n 0)

pub show_bits : (v : Vec Bool) → elements_data (items_view (form.Bits v)) ≡ only (codes "bits") (list boolean v.items)
show_bits v = ap elements_data (view_bits v) ∙ ap (λ (ds : Items). only (codes "bits") (array ds)) (all_bits v.items)

pub show_bytes : (v : Vec ℕ) → elements_data (items_view (form.Bytes v)) ≡ bytes_data v.items
show_bytes v = ap elements_data (view_bytes v)

pub show_twos : (v : Vec ℕ) → elements_data (items_view (form.Twos v)) ≡ only (codes "twos") (list nat v.items)
show_twos v = ap elements_data (view_twos v)

pub show_fours : (v : Vec ℕ) → elements_data (items_view (form.Fours v)) ≡ only (codes "fours") (list nat v.items)
show_fours v = ap elements_data (view_fours v)

pub show_eights : (v : Vec ℕ) → elements_data (items_view (form.Eights v)) ≡ only (codes "eights") (list nat v.items)
show_eights v = ap elements_data (view_eights v)

pub show_pointers : (ps : Pointers) → elements_data (items_view (form.Pointers ps)) ≡ only (codes "pointers") (array (trees_data (trees_view ps.trees.items)))
show_pointers ps = ap elements_data (view_pointers ps)

pub show_structs : (d p : ℕ) (v : Vec Fields) → elements_data (items_view (form.Structs d p v)) ≡ only (codes "structs") (array (structs_data (structs_view v.items)))
show_structs d p v = ap elements_data (view_structs d p v)

pub show_fields : (s : Fields) → shown_fields s ≡ words_and_pointers s.words.items (trees_data (trees_view s.pointers.trees.items))
unfolding shown_fields
show_fields s = ap (λ (both : List ℕ × Trees). words_and_pointers both.0 (trees_data both.1)) (view_fields s)

pub same_numbers : (ns : List ℕ) → list nat (map (λ x. x) ns) ≡ list nat ns
same_numbers ns = ap (list nat) (map-id ns)

-- ---- Texts

pub not_utf8 : (bytes : List ℕ) → ¬ (IsUtf8 bytes) → is_utf8 bytes ≡ false
not_utf8 bytes bad = go (is_utf8 bytes) refl
  where
    go : (b : Bool) → is_utf8 bytes ≡ b → is_utf8 bytes ≡ false
    go true e = absurd (bad (IsUtf8-from_is_utf8 bytes e))
    go false e = e
