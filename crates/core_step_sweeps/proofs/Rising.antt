-- Questions in order of their ids.
use Rattle.std.proofs.Common.{◌≡◌, ◌≢◌, ◌⊎◌, inl, inr, ℕ, zero, suc, ◌≤◌, ◌<◌, ◌&&◌, T, Bool, true, false, cond, nat_eq, List, [], ◌∷◌, Option, None, Some, refl, sym, ap, ◌∙◌, arith}
use Rattle.std.specs.Ordering.{nat_cmp, eq_by_cmp, is_lt}
use Rattle.std.proofs.lemmas.Bool.Decides.{eqb_tells}
use Rattle.std.specs.FinMap as map
use Rattle.std.specs.FinMap.{find, is_sorted, from_sorted, get-entries, entries-from_sorted}
use Rattle.std.specs.FinMap.Entries.{below_all}
use Rattle.finite_maps.specs.Tally.{Map}
use Rattle.finite_maps.proofs.Gets.{alike, tied_same, tied_other}
use Rattle.rpc_msg.specs.declared.ids.QuestionId.{QuestionId}
use Rattle.rpc_machine.specs.declared.entries.Question.{Question}
use Rattle.rpc_machine.specs.State.{State}
use Rattle.rpc_machine.specs.Lists.{how_many}
use Rattle.core_step_sweeps.specs.Over.{IsAboveAll, AreRising, beside, standing}
use Rattle.core_step_sweeps.specs.Thinking.{is_id, picked}
use Rattle.finite_maps.proofs.Tested.{itself}
use Rattle.core_refcounts.proofs.Counting.{other_key}

-- ---- In order

less_is : (j k : ℕ) → j < k → is_lt (nat_cmp j k) ≡ true
less_is j k h = grind (arith, h)

both : (a b : Bool) → a ≡ true → T b → T (a && b)
both true b e h = h
both false b e h = absurd (let g : false ≡ true = e in cc)

module _ (s : State) where
  above : (b c : ℕ) (qs : List QuestionId) → b ≤ c → IsAboveAll c qs → T (below_all nat_cmp b (standing s qs))
  above b c [] le h = tt
  above b c (q ∷ qs) le h = by (map.get s.questions q.0) (above b q.0 qs (let g = h.0 in omega (arith, g, le)) h.1)
    where
      by : (o : Option Question) → T (below_all nat_cmp b (standing s qs)) → T (below_all nat_cmp b (beside q.0 o (standing s qs)))
      by None rest = rest
      by (Some x) rest = both (is_lt (nat_cmp b q.0)) (below_all nat_cmp b (standing s qs)) (less_is b q.0 (let g = h.0 in omega (arith, g, le))) rest

  first : (q : ℕ) (o : Option Question) (es : List (ℕ × Question)) → T (below_all nat_cmp q es) → T (is_sorted nat_cmp es) → T (is_sorted nat_cmp (beside q o es))
  first q None es below rest = rest
  first q (Some x) es below rest = by (below_all nat_cmp q es) below
    where
      by : (b : Bool) → T b → T (b && is_sorted nat_cmp es)
      by true h = rest
      by false h = absurd h

  in_order : (b : ℕ) (qs : List QuestionId) → IsAboveAll b qs → T (is_sorted nat_cmp (standing s qs))
  in_order b [] h = tt
  in_order b (q ∷ qs) h = first q.0 (map.get s.questions q.0) (standing s qs) (above q.0 q.0 qs (omega arith) h.1) (in_order q.0 qs h.1)

  sorted_standing : (qs : List QuestionId) → AreRising qs → T (is_sorted nat_cmp (standing s qs))
  sorted_standing [] h = tt
  sorted_standing (q ∷ qs) h = first q.0 (map.get s.questions q.0) (standing s qs) (above q.0 q.0 qs (omega arith) h) (in_order q.0 qs h)

  -- ---- As they stand

  picked_none : (n : ℕ) → picked n None None ≡ None
  picked_none zero = refl
  picked_none (suc n) = refl

  find_beside : (k q n : ℕ) (o : Option Question) (es : List (ℕ × Question)) → map.get s.questions q ≡ o → find nat_cmp k es ≡ picked n (map.get s.questions k) None
      → find nat_cmp k (beside q o es) ≡ picked (cond (nat_eq q k) (suc n) n) (map.get s.questions k) None
  find_beside k q n o es at rest = go (eqb_tells k q) o at
    where
      go : ((nat_eq k q ≡ true) × (k ≡ q)) ⊎ ((nat_eq k q ≡ false) × (k ≢ q)) → (o : Option Question) → map.get s.questions q ≡ o → find nat_cmp k (beside q o es) ≡ picked (cond (nat_eq q k) (suc n) n) (map.get s.questions k) None
      go (inl t) None at =
          let here : map.get s.questions k ≡ None = ap (λ j. map.get s.questions j) t.1 ∙ at in
          rest ∙ ap (λ o. picked n o None) here ∙ picked_none n ∙ sym (picked_none (cond (nat_eq q k) (suc n) n)) ∙ ap (λ o. picked (cond (nat_eq q k) (suc n) n) o None) (sym here)
      go (inl t) (Some x) at =
          let here : map.get s.questions k ≡ Some x = ap (λ j. map.get s.questions j) t.1 ∙ at in
          let one : nat_eq q k ≡ true = ap (λ j. nat_eq q j) t.1 ∙ itself q in
          let tied : eq_by_cmp nat_cmp k q ≡ true = ap (λ j. eq_by_cmp nat_cmp j q) t.1 ∙ tied_same q in
          ap (λ b. cond b (Some x) (find nat_cmp k es)) tied ∙ sym here ∙ ap (λ b. picked (cond b (suc n) n) (map.get s.questions k) None) (sym one)
      go (inr t) None at = rest ∙ ap (λ b. picked (cond b (suc n) n) (map.get s.questions k) None) (sym (other_key k q t.1))
      go (inr t) (Some x) at =
          ap (λ b. cond b (Some x) (find nat_cmp k es)) (tied_other k q t.1) ∙ rest ∙ ap (λ b. picked (cond b (suc n) n) (map.get s.questions k) None) (sym (other_key k q t.1))

  find_standing : (k : ℕ) (qs : List QuestionId) → find nat_cmp k (standing s qs) ≡ picked (how_many (is_id k) qs) (map.get s.questions k) None
  find_standing k [] = refl
  find_standing k (q ∷ qs) = find_beside k q.0 (how_many (is_id k) qs) (map.get s.questions q.0) (standing s qs) refl (find_standing k qs)

  -- The entries of the map of them.
  pub entries_standing : (over : Map Question) (qs : List QuestionId) → AreRising qs → ((k : ℕ) → map.get over k ≡ picked (how_many (is_id k) qs) (map.get s.questions k) None) → map.entries over ≡ standing s qs
  entries_standing over qs rising are =
      let es = standing s qs in
      let m : Map Question = from_sorted es in
      let out : map.entries m ≡ es = entries-from_sorted nat_cmp es (sorted_standing qs rising) in
      let one : over ≡ m = alike over m (λ k. are k ∙ sym (find_standing k qs) ∙ ap (λ (xs : List (ℕ × Question)). find nat_cmp k xs) (sym out) ∙ sym (get-entries m k)) in
      ap (λ (n : Map Question). map.entries n) one ∙ out
