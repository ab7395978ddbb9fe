-- The finite map that an ordered map under names is.
use Rattle.std.proofs.Common.{◌≡◌, List, [], ◌∷◌, ℕ, Some, cond, refl, sym, ap, ◌∙◌}
use Rattle.std.specs.Prelude.{Option}
use Rattle.std.specs.declared.cmp.Ordering.{Ordering}
use Rattle.std.specs.Ordering.{nat_cmp, eq_by_cmp}
use Rattle.std.specs.Cmp.Lexicographic.{slice_cmp}
use Rattle.std.specs.Map.{lookup}
use Rattle.std.specs.BTreeMap as tree
use Rattle.std.specs.BTreeMap.{BTreeMap, is_at}
use Rattle.std.specs.FinMap as map
use Rattle.std.specs.FinMap.{FinMap, find, nat_cmp-IsAntisymmetric, slice_cmp-IsAntisymmetric}
use Rattle.std.proofs.lemmas.Cmp.{nat_list_cmp_total, eq_by_cmp_equiv}

-- the order of names
abbrev by_letters : List ℕ → List ℕ → Ordering
by_letters = slice_cmp nat_cmp

either_way : (k q : List ℕ) → eq_by_cmp by_letters k q ≡ eq_by_cmp by_letters q k
either_way = (eq_by_cmp_equiv nat_list_cmp_total).symm

module _ {X : Type 0} where
  find-lookup : (q : List ℕ) (es : List (List ℕ × X)) → find by_letters q es ≡ lookup (is_at (by_letters q)) es
  find-lookup q [] = refl
  find-lookup q (e ∷ es) = ap (λ (o : Option X). cond (eq_by_cmp by_letters q e.0) (Some e.1) o) (find-lookup q es)

  get-from_tree : (m : BTreeMap (List ℕ) X) (q : List ℕ) → map.get (map.from_entries {R = by_letters} m.entries) q ≡ tree.get by_letters m q
  get-from_tree m q = map.get-from_entries nat_list_cmp_total m.entries q ∙ find-lookup q m.entries

  pub seen-get : (m : BTreeMap (List ℕ) X) (t : FinMap by_letters X) → map.from_entries m.entries ≡ t → (q : List ℕ) → tree.get by_letters m q ≡ map.get t q
  seen-get m t seen q = sym (get-from_tree m q) ∙ ap (λ (u : FinMap by_letters X). map.get u q) seen

  pub seen-insert : (old new : BTreeMap (List ℕ) X) (t : FinMap by_letters X) (k : List ℕ) (v : X) → map.from_entries old.entries ≡ t → tree.Updates by_letters old new k (Some v) → map.from_entries {R = by_letters} new.entries ≡ map.insert t k v
  seen-insert old new t k v seen updates =
      map.same_map nat_list_cmp_total (slice_cmp-IsAntisymmetric nat_cmp-IsAntisymmetric) _ _
      (λ q. get-from_tree new q
      ∙ updates.0 q
      ∙ ap (λ b. cond b (Some v) (tree.get by_letters old q)) (either_way k q)
      ∙ ap (λ o. cond (eq_by_cmp by_letters q k) (Some v) o) (seen-get old t seen q)
      ∙ sym (map.get-insert nat_list_cmp_total t k v q))
