-- The finite map that a `BTreeMap` of the program with ids as its keys is, and how many entries it has.
use Rattle.std.proofs.Common.{◌≡◌, ℕ, List, [], ◌∷◌, ◌&&◌, length, Some, None, T, cond, refl, sym, ap, subst, ◌∙◌}
use Rattle.std.specs.Prelude.{Option, Bool, true, false}
use Rattle.std.proofs.Common.{eqb}
use Rattle.std.proofs.lemmas.Bool.{eqb-true, eqb-false, eq-eqb, ne_eqb}
use Rattle.std.specs.declared.cmp.Ordering.{Ordering}
use Rattle.std.specs.declared.cmp.Ordering.TheVariants.{Less}
use Rattle.std.specs.Ordering.{nat_cmp, eq_by_cmp, is_lt}
use Rattle.std.specs.List.{AllByRecursion}
use Rattle.std.specs.List.Sorted.{IsStrictlySortedBy}
use Rattle.std.specs.Cmp.{nat_cmp_total, unsigned_tied}
use Rattle.std.specs.Map.{lookup, keys_of}
use Rattle.std.specs.BTreeMap as ordered
use Rattle.std.specs.BTreeMap.{BTreeMap, is_at}
use Rattle.std.specs.FinMap as map
use Rattle.std.specs.FinMap.{find, is_sorted, nat_cmp-IsAntisymmetric}
use Rattle.std.specs.FinMap.Entries.{below_all, same_entries}
use Rattle.finite_maps.specs.Tally.{Map}
use Rattle.finite_maps.proofs.Gets.{alike}

swapped : (k q : ℕ) (b : Bool) → eqb k q ≡ b → b ≡ eqb q k
swapped k q true e = sym (eq-eqb q k (sym (eqb-true k q e)))
swapped k q false e = sym (ne_eqb q k (λ j. eqb-false k q e (sym j)))

either_way : (k q : ℕ) → eq_by_cmp nat_cmp k q ≡ eq_by_cmp nat_cmp q k
either_way k q = unsigned_tied k q ∙ swapped k q _ refl ∙ sym (unsigned_tied q k)

module _ {X : Type 0} where
  find-lookup : (q : ℕ) (es : List (ℕ × X)) → find nat_cmp q es ≡ lookup (is_at (nat_cmp q)) es
  find-lookup q [] = refl
  find-lookup q (e ∷ es) = ap (λ (o : Option X). cond (eq_by_cmp nat_cmp q e.0) (Some e.1) o) (find-lookup q es)

  get-from_tree : (m : BTreeMap ℕ X) (q : ℕ) → map.get (map.from_entries {R = nat_cmp} m.entries) q ≡ ordered.get nat_cmp m q
  get-from_tree m q = map.get-from_entries nat_cmp_total m.entries q ∙ find-lookup q m.entries

  pub seen-get : (m : BTreeMap ℕ X) (t : Map X) → map.from_entries m.entries ≡ t → (q : ℕ) → ordered.get nat_cmp m q ≡ map.get t q
  seen-get m t seen q = sym (get-from_tree m q) ∙ ap (λ (u : Map X). map.get u q) seen

  pub seen-insert : (old new : BTreeMap ℕ X) (t : Map X) (k : ℕ) (v : X) → map.from_entries old.entries ≡ t → ordered.Updates nat_cmp old new k (Some v) → map.from_entries {R = nat_cmp} new.entries ≡ map.insert t k v
  seen-insert old new t k v seen updates =
      alike _ _ (λ q. get-from_tree new q ∙ updates.0 q
      ∙ ap (λ b. cond b (Some v) (ordered.get nat_cmp old q)) (either_way k q)
      ∙ ap (λ o. cond (eq_by_cmp nat_cmp q k) (Some v) o) (seen-get old t seen q)
      ∙ sym (map.get-insert nat_cmp_total t k v q))

  pub seen-remove : (old new : BTreeMap ℕ X) (t : Map X) (k : ℕ) → map.from_entries old.entries ≡ t → ordered.Updates nat_cmp old new k None → map.from_entries {R = nat_cmp} new.entries ≡ map.remove t k
  seen-remove old new t k seen updates =
      alike _ _ (λ q. get-from_tree new q ∙ updates.0 q
      ∙ ap (λ b. cond b None (ordered.get nat_cmp old q)) (either_way k q)
      ∙ ap (λ o. cond (eq_by_cmp nat_cmp q k) None o) (seen-get old t seen q)
      ∙ sym (map.get-remove nat_cmp_total t k q))

is_less : (o : Ordering) → o ≡ Less → T (is_lt o)
is_less o e = subst (λ (p : Ordering). T (is_lt p)) (sym e) tt

both : (a b : Bool) → T a → T b → T (a && b)
both true b h k = k
both false b h k = absurd h

module _ {X : Type 0} where
  all_above : (k : ℕ) (es : List (ℕ × X)) → AllByRecursion (λ y. nat_cmp k y ≡ Less) (keys_of es) → T (below_all nat_cmp k es)
  all_above k [] h = tt
  all_above k (e ∷ es) h = both _ _ (is_less (nat_cmp k e.0) h.0) (all_above k es h.1)

  sorted : (es : List (ℕ × X)) → IsStrictlySortedBy nat_cmp (keys_of es) → T (is_sorted nat_cmp es)
  unfolding IsStrictlySortedBy
  sorted [] h = tt
  sorted (e ∷ es) h = both _ _ (all_above e.0 es h.0) (sorted es h.1)

  abbrev of : List (ℕ × X) → Map X
  of es = map.from_entries es

  same_entries_of : (es : List (ℕ × X)) → T (is_sorted nat_cmp es) → map.entries (of es) ≡ es
  same_entries_of es h = same_entries nat_cmp nat_cmp_total nat_cmp-IsAntisymmetric (map.entries (of es)) es (map.entries_sorted (of es)) h (λ q. sym (map.get-entries (of es) q) ∙ map.get-from_entries nat_cmp_total es q)

  pub seen-len : (m : BTreeMap ℕ X) (t : Map X) → map.from_entries m.entries ≡ t → ordered.IsOrdered nat_cmp m → length m.entries ≡ map.len t
  seen-len m t seen h = ap length (sym (same_entries_of m.entries (sorted m.entries h))) ∙ sym (map.len-entries (of m.entries)) ∙ ap map.len seen
