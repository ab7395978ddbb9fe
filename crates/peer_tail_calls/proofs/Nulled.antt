-- Trees again, with null in place of some pointers.
use Rattle.std.proofs.Common.{◌≡◌, ℕ, ◌+◌, ◌<◌, ◌≤◌, List, [], ◌∷◌, ◌++◌, length, map, take, get_or, refl, sym, ap, ◌∙◌}
use Rattle.std.proofs.lemmas.List.{map_push, take_all, take_more}
use Rattle.capn_trees.specs.declared.tree.Tree as program
use Rattle.capn_trees.specs.declared.tree.Fields.{Fields}
use Rattle.capn_trees.specs.Trees.{Trees, tree, struct_of}
use Rattle.capn_trees.proofs.Viewed.{view_fields}
use Rattle.capn_trees.specs.Views.{view, fields_view, structs_of, structs_view, trees_of, trees_view}
use Rattle.rpc_msg.specs.declared.parts.Descriptor.{Descriptor}
use Rattle.peer_tail_calls.specs.Nulling.{nulled, nulled_each, nulled_structs}

abbrev pub nulled_fields : List Descriptor → List ℕ × Trees → List ℕ × Trees
nulled_fields ds f = (f.0, nulled_each ds f.1)

-- one more that was made, and all
pub made_more : {X Y : Type 0} (f g : X → Y) (more done xs : List X) (i : ℕ) (x y : X) → more ≡ done ++ y ∷ [] → i < length xs → x ≡ get_or xs i x → f y ≡ g x
    → map f done ≡ map g (take i xs) → map f more ≡ map g (take (i + 1) xs)
made_more f g more done xs i x y is_more lt is_x same so_far =
    ap (map f) is_more ∙ map_push f done y ∙ ap (λ l. l ++ f y ∷ []) so_far ∙ ap (λ z. map g (take i xs) ++ z ∷ []) (same ∙ ap g is_x)
    ∙ sym (ap (map g) (take_more xs i x lt) ∙ map_push g (take i xs) (get_or xs i x))

pub made_all : {X Y : Type 0} (f g : X → Y) (done xs : List X) (i : ℕ) → length xs ≤ i → map f done ≡ map g (take i xs) → map f done ≡ map g xs
made_all f g done xs i le so_far = so_far ∙ ap (map g) (take_all i xs le)

pub trees_nulled : (ds : List Descriptor) (ts : List program.Tree) → trees_of (map (λ t. nulled ds (view t)) ts) ≡ nulled_each ds (trees_view ts)
trees_nulled ds [] = refl
trees_nulled ds (t ∷ ts) = ap (tree (nulled ds (view t))) (trees_nulled ds ts)

pub structs_nulled : (ds : List Descriptor) (fs : List Fields) → structs_of (map (λ f. nulled_fields ds (fields_view f)) fs) ≡ nulled_structs ds (structs_view fs)
structs_nulled ds [] = refl
structs_nulled ds (f ∷ fs) = ap (struct_of (fields_view f).0 (nulled_each ds (fields_view f).1)) (structs_nulled ds fs)

pub fields_same : (ds : List Descriptor) (x y : Fields) (words : List ℕ) (ps : List program.Tree) → fields_view y ≡ (words, trees_view ps) → words ≡ x.words.items → trees_view ps ≡ nulled_each ds (trees_view x.pointers.trees.items)
    → fields_view y ≡ nulled_fields ds (fields_view x)
fields_same ds x y words ps is same trees =
    is ∙ ap (λ (ws : List ℕ). (ws, trees_view ps)) same ∙ ap (λ (ts : Trees). (x.words.items, ts)) trees ∙ sym (ap (nulled_fields ds) (view_fields x))
