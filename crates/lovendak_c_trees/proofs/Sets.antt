-- An element of a list is replaced: a pointer's tree, or what stands under a number.
use Rattle.std.proofs.Common.{◌≡◌, ℕ, ◌<◌, ◌≤◌, ltb, true, false, List, map, length, get_or, Option, Some, None, Result, Ok, Err, inl, inr, refl, sym, ap, subst, ◌∙◌}
use Rattle.std.specs.Prelude.{slice_set, option_map}
use Rattle.std.specs.List.{slice_get}
use Rattle.std.specs.Option.{option_and_then}
use Rattle.std.proofs.Math.Seq.{map-set_same}
use Rattle.std.proofs.lemmas.Bool.{lt-ltb, le-ltb}
use Rattle.std.proofs.lemmas.List.{map-set, length-map}
use Rattle.std.proofs.lemmas.Option.{slice_get-map, slice_get-get_or, slice_get_past}
use Rattle.capn_trees.specs.declared.tree.Tree as program_tree
use Rattle.capn_trees.specs.Views.{view}
use Rattle.lovendak_c_trees.specs.declared.content.Content as program
use Rattle.lovendak_c_trees.specs.declared.fault.TreeFault.{TreeFault}
use Rattle.lovendak_c_trees.specs.Contents.{Content, put_tree, set_number, shown, shown_all}
use Rattle.lovendak_c_trees.specs.Numbers.{is_sized}
use Rattle.lovendak_c_trees.specs.Tables.{Appends, Does, SetsNumber, changed}

pub put_seen : (xs ys : List program_tree.Tree) (k : ℕ) (x : program_tree.Tree) → k < length xs → ys ≡ slice_set xs k x → put_tree (map view xs) k (view x) ≡ Some (map view ys)
put_seen xs ys k x lt is =
    let e : ltb k (length (map view xs)) ≡ true = lt-ltb _ _ (subst (λ n. k < n) (sym (length-map xs view)) lt) in
    rw e (ap Some (sym (ap (map view) is ∙ map-set view xs k x)))

pub put_past : (xs : List program_tree.Tree) (k : ℕ) (x : program_tree.Tree) → length xs ≤ k → put_tree (map view xs) k (view x) ≡ None
put_past xs k x le =
    let e : ltb k (length (map view xs)) ≡ false = le-ltb _ _ (subst (λ n. n ≤ k) (sym (length-map xs view)) le) in
    rw e refl

-- what stands under a number that is there
there : (xs : List program.Content) (k : ℕ) (x : program.Content) → k < length xs → x ≡ get_or xs k x → slice_get (shown_all xs) k ≡ Some (shown x)
there xs k x lt is = slice_get-map shown xs k ∙ ap (option_map shown) (slice_get-get_or xs k x lt ∙ ap Some (sym is))

pub changed_past : (f : Content → Option Content) (xs : List program.Content) (k : ℕ) → length xs ≤ k → changed (shown_all xs) k f ≡ None
changed_past f xs k le =
    ap (λ (o : Option Content). option_map (slice_set (shown_all xs) k) (option_and_then f o)) (slice_get-map shown xs k ∙ ap (option_map shown) (slice_get_past xs k le))

-- what is done to what stands under a number is done to all
pub does_at : (f : Content → Option Content) (xs ys : List program.Content) (k : ℕ) (x y : program.Content) (r : Result (Unit {0}) TreeFault)
    → k < length xs → x ≡ get_or xs k x → ys ≡ slice_set xs k y → Does (f (shown x)) r (shown x) (shown y) → Does (changed (shown_all xs) k f) r (shown_all xs) (shown_all ys)
does_at f xs ys k x y (Ok u) lt is now d =
    ap (λ (o : Option Content). option_map (slice_set (shown_all xs) k) (option_and_then f o)) (there xs k x lt is)
    ∙ ap (option_map (slice_set (shown_all xs) k)) d
    ∙ ap Some (sym (ap (map shown) now ∙ map-set shown xs k y))
does_at f xs ys k x y (Err e) lt is now d = (
  d.0,
  ap (λ (o : Option Content). option_map (slice_set (shown_all xs) k) (option_and_then f o)) (there xs k x lt is) ∙ ap (option_map (slice_set (shown_all xs) k)) d.1,
  ap (map shown) now ∙ map-set_same shown xs k y x (d.2 ∙ ap shown is),
)

pub sets_number : (at bits index n : ℕ) (r : Result (Unit {0}) TreeFault) (old new : List Content) → is_sized bits n ≡ true → Does (changed old at (set_number bits index n)) r old new → SetsNumber at bits index n r old new
sets_number at bits index n (Ok u) old new sized d = (sized, d)
sets_number at bits index n (Err e) old new sized d = (inr (d.0, d.1), d.2)

-- the same of what may lack memory
pub appends_at : (f : Content → Option Content) (xs ys : List program.Content) (k : ℕ) (x y : program.Content) (r : Result (Unit {0}) TreeFault)
    → k < length xs → x ≡ get_or xs k x → ys ≡ slice_set xs k y → Appends (f (shown x)) r (shown x) (shown y) → Appends (changed (shown_all xs) k f) r (shown_all xs) (shown_all ys)
appends_at f xs ys k x y (Ok u) lt is now d =
    ap (λ (o : Option Content). option_map (slice_set (shown_all xs) k) (option_and_then f o)) (there xs k x lt is)
    ∙ ap (option_map (slice_set (shown_all xs) k)) d
    ∙ ap Some (sym (ap (map shown) now ∙ map-set shown xs k y))
appends_at f xs ys k x y (Err e) lt is now d = (
  elim d.0 [
    | inl memory ↦ inl memory
    | inr none ↦ inr (none.0, ap (λ (o : Option Content). option_map (slice_set (shown_all xs) k) (option_and_then f o)) (there xs k x lt is) ∙ ap (option_map (slice_set (shown_all xs) k)) none.1)
  ],
  ap (map shown) now ∙ map-set_same shown xs k y x (d.1 ∙ ap shown is),
)
