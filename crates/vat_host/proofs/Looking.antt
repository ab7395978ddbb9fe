-- A search for an object that no place names.
use Rattle.std.proofs.Common.{◌≡◌, ◌≢◌, ◌⊎◌, inl, inr, ℕ, false, List, [], ◌∷◌, Option, Some, IsSome, IsTrue, refl, sym, ap, subst}
use Rattle.std.specs.Cmp.{nat_cmp_total}
use Rattle.std.specs.Ordering.{nat_cmp}
use Rattle.std.specs.FinMap as map
use Rattle.std.specs.FinMap.Entries.{find}
use Rattle.finite_maps.proofs.Gets.{at_each, tied_other}
use Rattle.finite_maps.proofs.Sorted.{first_entry, later_entry}
use Rattle.rpc_msg.specs.declared.ids.ObjectId.{ObjectId}
use Rattle.rpc_machine.specs.State.{State}
use Rattle.rpc_uses.specs.Objects.{names_object}
use Rattle.vat_host.specs.Hosting.{AreNamedBut, IsUnnamedAmong}
use Rattle.vat_host.specs.Objects.{Objects}

abbrev pub Entries : Type 0
Entries = List (ℕ × Unit {0})

abbrev pub IsKeyIn : ℕ → Entries → Type 0
IsKeyIn k [] = ⊥
IsKeyIn k (e ∷ es) = (e.0 ≡ k) ⊎ IsKeyIn k es

some_of : {X : Type 0} (x y : Option X) → x ≡ y → IsSome x → IsSome y
some_of {X} x y e h = subst (λ (o : Option X). IsSome o) e h

found_in : (es : Entries) (k : ℕ) → IsSome (find nat_cmp k es) → IsKeyIn k es
found_in [] k h = absurd cc
found_in (e ∷ es) k h =
    at_each (λ q. IsSome (find nat_cmp q (e ∷ es)) → IsKeyIn q (e ∷ es)) e.0 (λ _. inl refl)
    (λ q apart there. inr (found_in es q (some_of (find nat_cmp q (e ∷ es)) (find nat_cmp q es) (later_entry e es q (tied_other q e.0 apart)) there)))
    k h

not_first : (e : ℕ × Unit {0}) (es : Entries) (q : ℕ) → q ≢ e.0 → IsKeyIn q (e ∷ es) → IsKeyIn q es
not_first e es q apart (inl same) = absurd (apart (sym same))
not_first e es q apart (inr i) = i

in_found : (es : Entries) (k : ℕ) → IsKeyIn k es → IsSome (find nat_cmp k es)
in_found [] k i = absurd i
in_found (e ∷ es) k i =
    at_each (λ q. IsKeyIn q (e ∷ es) → IsSome (find nat_cmp q (e ∷ es))) e.0
    (λ _. some_of (Some e.1) (find nat_cmp e.0 (e ∷ es)) (sym (first_entry e es)) refl)
    (λ q apart there. some_of (find nat_cmp q es) (find nat_cmp q (e ∷ es)) (sym (later_entry e es q (tied_other q e.0 apart))) (in_found es q (not_first e es q apart there)))
    k i

abbrev numbered : ℕ → ObjectId
numbered k = record { 0 = k }

-- Those that were looked at are named, and these are still to be looked at.
pub record IsLeft (s : State) (objects : Objects) (root : Option ObjectId) (rest : Entries) : Type 0 where
  pub there : (o : ObjectId) → IsKeyIn o.0 rest → IsSome (map.get objects o.0)
  pub others : (o : ObjectId) → IsSome (map.get objects o.0) → root ≢ Some o → IsTrue (names_object s o) ⊎ IsKeyIn o.0 rest

pub all_left : (s : State) (root : Option ObjectId) (es rest : Entries) → rest ≡ es → IsLeft s (map.from_entries es) root rest
all_left s root es rest same =
    subst (λ (l : Entries). IsLeft s (map.from_entries es) root l) (sym same)
    (record {
      there = λ o i. some_of (find nat_cmp o.0 es) (map.get (map.from_entries es) o.0) (sym (map.get-from_entries nat_cmp_total es o.0)) (in_found es o.0 i);
      others = λ o h other. inr (found_in es o.0 (some_of (map.get (map.from_entries es) o.0) (find nat_cmp o.0 es) (map.get-from_entries nat_cmp_total es o.0) h));
    })

module _ (s : State) (objects : Objects) (root : Option ObjectId) where
  -- The next one is named, or the root.
  pub one_less : (e : ℕ × Unit {0}) (rest all : Entries) → all ≡ e ∷ rest → IsLeft s objects root all → (root ≢ Some (numbered e.0) → IsTrue (names_object s (numbered e.0))) → IsLeft s objects root rest
  one_less e rest all is before named =
      let l : IsLeft s objects root (e ∷ rest) = subst (λ (k : Entries). IsLeft s objects root k) is before in
      record {
        there = λ o i. l.there o (inr i);
        others = λ o h other. by o other (l.others o h other);
      }
    where
      by : (o : ObjectId) → root ≢ Some o → IsTrue (names_object s o) ⊎ IsKeyIn o.0 (e ∷ rest) → IsTrue (names_object s o) ⊎ IsKeyIn o.0 rest
      by o other (inl t) = inl t
      by o other (inr (inl same)) =
          let is_it : numbered e.0 ≡ o = ap numbered same in
          inl (subst (λ (x : ObjectId). IsTrue (names_object s x)) is_it (named (λ r. other (subst (λ (x : ObjectId). root ≡ Some x) is_it r))))
      by o other (inr (inr i)) = inr i

  pub none_left : (rest : Entries) → rest ≡ [] → IsLeft s objects root rest → AreNamedBut s objects root
  none_left rest none before o h other = by ((subst (λ (k : Entries). IsLeft s objects root k) none before).others o h other)
    where
      by : IsTrue (names_object s o) ⊎ IsKeyIn o.0 [] → IsTrue (names_object s o)
      by (inl t) = t
      by (inr i) = absurd i

  pub this_one : (e : ℕ × Unit {0}) (rest all : Entries) → all ≡ e ∷ rest → IsLeft s objects root all → names_object s (numbered e.0) ≡ false → root ≢ Some (numbered e.0) → IsUnnamedAmong s objects root (numbered e.0)
  this_one e rest all is before unnamed other =
      let l : IsLeft s objects root (e ∷ rest) = subst (λ (k : Entries). IsLeft s objects root k) is before in
      record { there = l.there (numbered e.0) (inl refl); unnamed = unnamed; other = other }
