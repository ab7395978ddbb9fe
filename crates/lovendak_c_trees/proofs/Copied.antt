-- Copies of trees, one after the other.
use Rattle.std.proofs.Common.{◌≡◌, ℕ, zero, suc, ◌+◌, ◌<◌, ◌≤◌, Bool, true, false, ◌||◌, List, [], ◌∷◌, ◌++◌, map, length, take, get_or, refl, sym, ap, ◌∙◌, ◌⊎◌, inl, inr, Option, Some, None, Result, Err, arith}
use Rattle.std.specs.Prelude.{if◌then◌else◌, option_map, MatchOption}
use Rattle.std.proofs.lemmas.List.{map_push, take_all, take_more}
use Rattle.capn_trees.specs.declared.faults.WriteFault.{WriteFault}
use Rattle.capn_trees.specs.declared.faults.WriteFault.TheVariants as fault
use Rattle.capn_trees.specs.declared.tree.Tree as program
use Rattle.capn_trees.specs.Trees.{Tree, Trees, list}
use Rattle.capn_trees.specs.Views.{view, fields_view, structs_of, trees_of}
use Rattle.lovendak_c_trees.specs.declared.content.Draft.{Draft}
use Rattle.lovendak_c_trees.specs.Contents.{are_too_deep, fields, in_list, some_too_deep, structs, tree_of}
use Rattle.std.specs.Global.{Vec}
use Rattle.capn_trees.specs.declared.tree.Fields as program_fields
use Rattle.capn_trees.specs.declared.tree.Tree.TheVariants as form
use Rattle.capn_trees.specs.declared.tree.Items.TheVariants as items
use Rattle.capn_trees.specs.Trees as tree
use Rattle.capn_trees.proofs.Viewed.{view_list, view_structs}
use Rattle.capn_trees.specs.Writable.{Part, some_part, is_too_deep, is_deeper, are_deeper, parts, parts_of_all, refusal}
use Rattle.lovendak_c_trees.specs.Contents.{Content}
use Rattle.lovendak_c_trees.specs.Faults.{not_written}
use Rattle.lovendak_c_trees.specs.Tables.{IsNotWritten, tree_at}
use Rattle.lovendak_c_trees.specs.declared.fault.TreeFault.{TreeFault}
use Rattle.lovendak_c_trees.specs.declared.fault.TreeFault.TheVariants as tree_fault

-- one more copy that says what it is a copy of, and the copies of all
pub copied_more : {X Y Z : Type 0} (f : X → Z) (g : Y → Z) (more done : List X) (ys : List Y) (i : ℕ) (x : X) (y : Y) → more ≡ done ++ x ∷ [] → i < length ys → y ≡ get_or ys i y → f x ≡ g y
    → map f done ≡ map g (take i ys) → map f more ≡ map g (take (i + 1) ys)
copied_more f g more done ys i x y is_more lt is_y same so_far =
    ap (map f) is_more ∙ map_push f done x ∙ ap (λ l. l ++ f x ∷ []) so_far ∙ ap (λ z. map g (take i ys) ++ z ∷ []) (same ∙ ap g is_y)
    ∙ sym (ap (map g) (take_more ys i y lt) ∙ map_push g (take i ys) (get_or ys i y))

pub copied_all : {X Y Z : Type 0} (f : X → Z) (g : Y → Z) (done : List X) (ys : List Y) (i : ℕ) → length ys ≤ i → map f done ≡ map g (take i ys) → map f done ≡ map g ys
copied_all f g done ys i le so_far = so_far ∙ ap (map g) (take_all i ys le)

some_append : (p : Part → Bool) (xs ys : List Part) → some_part p (xs ++ ys) ≡ (some_part p xs || some_part p ys)
some_append p [] ys = refl
some_append p (x ∷ xs) ys = ap (λ b. p x || b) (some_append p xs ys) ∙ sym (or_assoc (p x) (some_part p xs) (some_part p ys)) where
  or_assoc : (a b c : Bool) → ((a || b) || c) ≡ (a || (b || c))
  or_assoc true b c = refl
  or_assoc false b c = refl

or_true : (a b : Bool) → b ≡ true → (a || b) ≡ true
or_true true b e = refl
or_true false b e = e

true_or : (a b : Bool) → a ≡ true → (a || b) ≡ true
true_or a b e = rw e refl

-- one of the trees is too deep
pub deeper_found : (xs : List program.Tree) (i : ℕ) (x : program.Tree) (levels : ℕ) → i < length xs → x ≡ get_or xs i x → is_deeper (view x) levels ≡ true → are_deeper (trees_of (map view xs)) levels ≡ true
deeper_found [] i x levels lt is deep = absurd (omega arith)
deeper_found (y ∷ xs) zero x levels lt is deep =
    some_append is_too_deep (parts (view y) levels) (parts_of_all (trees_of (map view xs)) levels)
    ∙ true_or _ _ (ap (λ (t : program.Tree). is_deeper (view t) levels) (sym is) ∙ deep)
deeper_found (y ∷ xs) (suc i) x levels lt is deep =
    some_append is_too_deep (parts (view y) levels) (parts_of_all (trees_of (map view xs)) levels)
    ∙ or_true _ _ (deeper_found xs i x levels (omega arith) is deep)

-- why a copy can't be put behind the pointers before it
pub push_failed : (e : WriteFault) (t x : program.Tree) (xs : List program.Tree) (i : ℕ) → e ≡ (if is_deeper (view t) 127 then fault.Depth else fault.Memory) → view t ≡ view x → i < length xs → x ≡ get_or xs i x
    → (e ≡ fault.Memory) ⊎ ((e ≡ fault.Depth) × (are_too_deep (map view xs) ≡ true))
push_failed e t x xs i is same lt at = go (is_deeper (view t) 127) refl where
  go : (b : Bool) → is_deeper (view t) 127 ≡ b → (e ≡ fault.Memory) ⊎ ((e ≡ fault.Depth) × (are_too_deep (map view xs) ≡ true))
  go true d = inr (is ∙ ap (λ b. if b then fault.Depth else fault.Memory) d, deeper_found xs i x 127 lt at (sym (ap (λ u. is_deeper u 127) same) ∙ d))
  go false d = inl (is ∙ ap (λ b. if b then fault.Depth else fault.Memory) d)

some_found : (xs : List Draft) (i : ℕ) (x : Draft) → i < length xs → x ≡ get_or xs i x → are_too_deep (map view x.pointers.items) ≡ true → some_too_deep (map fields xs) ≡ true
some_found [] i x lt is deep = absurd (omega arith)
some_found (y ∷ xs) zero x lt is deep = true_or _ _ (ap (λ (d : Draft). are_too_deep (map view d.pointers.items)) (sym is) ∙ deep)
some_found (y ∷ xs) (suc i) x lt is deep = or_true _ _ (some_found xs i x (omega arith) is deep)

-- why a struct of a list is not copied
pub item_failed : (e f : WriteFault) (x : Draft) (xs : List Draft) (i : ℕ) → e ≡ f → (f ≡ fault.Memory) ⊎ ((f ≡ fault.Depth) × (are_too_deep (map view x.pointers.items) ≡ true)) → i < length xs → x ≡ get_or xs i x
    → (e ≡ fault.Memory) ⊎ ((e ≡ fault.Depth) × (some_too_deep (map fields xs) ≡ true))
item_failed e f x xs i is (inl memory) lt at = inl (is ∙ memory)
item_failed e f x xs i is (inr deep) lt at = inr (is ∙ deep.0, some_found xs i x lt at deep.1)

-- a list of structs, copied
pub list_copied : (data_words pointer_words : ℕ) (v : Vec program_fields.Fields) (xs : List Draft) → map fields_view v.items ≡ map (λ d. in_list (fields d)) xs
    → tree_of (structs data_words pointer_words (map fields xs)) ≡ Some (view (form.List (items.Structs data_words pointer_words v)))
list_copied data_words pointer_words v xs same =
    ap (λ (ss : List (List ℕ × Trees)). Some (list (tree.structs data_words pointer_words (structs_of ss)))) (twice xs ∙ sym same)
    ∙ ap Some (sym (view_list (items.Structs data_words pointer_words v) ∙ ap list (view_structs data_words pointer_words v))) where
      twice : (ds : List Draft) → map in_list (map fields ds) ≡ map (λ d. in_list (fields d)) ds
      twice [] = refl
      twice (d ∷ ds) = ap (λ (ss : List (List ℕ × Trees)). in_list (fields d) ∷ ss) (twice ds)

-- why a tree is not written
pub unwritten : (X : Type 0) (cs : List Content) (at caps : ℕ) (t : Tree) (f : WriteFault) (e : TreeFault) → e ≡ not_written f → tree_at cs at ≡ Some t
    → MatchOption (refusal t caps) (f ≡ fault.Memory) (λ g. ◌≡◌ {A = Result X WriteFault} (Err f) (Err g)) → IsNotWritten cs at caps e
unwritten X cs at caps t f e is stands m = go (refusal t caps) refl m where
  go : (o : Option WriteFault) → refusal t caps ≡ o → MatchOption o (f ≡ fault.Memory) (λ g. ◌≡◌ {A = Result X WriteFault} (Err f) (Err g)) → IsNotWritten cs at caps e
  go None r memory = let lacks : e ≡ tree_fault.Memory = is ∙ ap not_written memory in inl (inl lacks)
  go (Some g) r same = let both : f ≡ g = cc in inr (t, stands, ap (option_map not_written) r ∙ ap Some (sym (is ∙ ap not_written both)))
