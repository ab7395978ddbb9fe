-- Numbers that rise: one more, and one less.
use Rattle.std.proofs.Common.{◌≡◌, ◌≢◌, ℕ, zero, suc, ◌<◌, ◌≤◌, ◌==◌, Bool, true, false, cond, not, List, [], ◌∷◌, ◌++◌, length, remove, slice_index_or, Ok, Err, ⊎_elim, refl, sym, ap, ◌∙◌, arith}
use Rattle.std.specs.Ordering.{nat_cmp, ordering_index}
use Rattle.std.specs.List.Sorted.{IsSearchInRange, IsBinarySearchResult, IsNonDecreasingBy}
use Rattle.std.proofs.lemmas.Cmp.{ranked}
use Rattle.std.proofs.lemmas.Bool.{cases_lt}
use Rattle.std.proofs.lemmas.Bool.Decides.{nat_tests}
use Rattle.std.proofs.lemmas.List.Kept.{AllPairs-cons}
use Rattle.rpc_msg.specs.declared.ids.CallId.{CallId}
use Rattle.vat_connection.specs.OwnCalls.{Rise, without}

abbrev at : List CallId → ℕ → CallId → ℕ
at cs i d = let c = slice_index_or cs i d in c.0

-- ---- one more

pub one_rises : (c : CallId) → Rise (c ∷ [])
one_rises c i j d lt within = absurd (omega (arith, lt, within))

more_above : (c last : CallId) (cs : List CallId) → ((k : ℕ) (d : CallId) → k < length cs → c.0 < at cs k d) → c.0 < last.0 → (k : ℕ) (d : CallId) → k < length (cs ++ last ∷ []) → c.0 < at (cs ++ last ∷ []) k d
more_above c last [] all lt zero d within = lt
more_above c last [] all lt (suc k) d within = absurd (omega (arith, within))
more_above c last (x ∷ cs) all lt zero d within = all 0 d (omega arith)
more_above c last (x ∷ cs) all lt (suc k) d within = more_above c last cs (λ i e in_range. all (suc i) e (omega (arith, in_range))) lt k d (omega (arith, within))

pub rises_more : (cs : List CallId) (id : CallId) → Rise cs → ((i : ℕ) (d : CallId) → suc i ≡ length cs → at cs i d < id.0) → Rise (cs ++ id ∷ [])
rises_more [] id h last = one_rises id
rises_more (c ∷ cs) id h last =
    AllPairs-cons (λ (x y : CallId). x.0 < y.0) c (cs ++ id ∷ [])
    (more_above c id cs (λ k d within. h zero (suc k) d (omega arith) (omega (arith, within))) (below_end cs h last))
    (rises_more cs id (λ i j d lt within. h (suc i) (suc j) d (omega (arith, lt)) (omega (arith, within))) (λ i d is. last (suc i) d (ap suc is)))
  where
    below_end : (cs : List CallId) → Rise (c ∷ cs) → ((i : ℕ) (d : CallId) → suc i ≡ length (c ∷ cs) → at (c ∷ cs) i d < id.0) → c.0 < id.0
    below_end [] h last = last 0 c refl
    below_end (x ∷ cs) h last =
        let far : c.0 < at (x ∷ cs) (length cs) c = h zero (suc (length cs)) c (omega arith) (omega arith) in
        let end : at (x ∷ cs) (length cs) c < id.0 = last (suc (length cs)) c refl in
        omega (arith, far, end)

-- ---- one less

is_same : (c id : CallId) → c.0 ≡ id.0 → not (c.0 == id.0) ≡ false
is_same c id same = grind (arith, nat_tests, same)

is_other : (c id : CallId) → c.0 ≢ id.0 → not (c.0 == id.0) ≡ true
is_other c id apart = grind (arith, nat_tests, apart)

keeps_first : (c id : CallId) (cs : List CallId) → c.0 ≢ id.0 → without id (c ∷ cs) ≡ c ∷ without id cs
keeps_first c id cs apart = ap (λ (b : Bool). cond b (c ∷ without id cs) (without id cs)) (is_other c id apart)

drops_first : (c id : CallId) (cs : List CallId) → c.0 ≡ id.0 → without id (c ∷ cs) ≡ without id cs
drops_first c id cs same = ap (λ (b : Bool). cond b (c ∷ without id cs) (without id cs)) (is_same c id same)

-- None of them is the call.
none_is : (id : CallId) (cs : List CallId) → ((k : ℕ) (d : CallId) → k < length cs → at cs k d ≢ id.0) → without id cs ≡ cs
none_is id [] apart = refl
none_is id (c ∷ cs) apart = keeps_first c id cs (apart 0 c (omega arith)) ∙ ap (λ (t : List CallId). c ∷ t) (none_is id cs (λ k d within. apart (suc k) d (omega (arith, within))))

one_is : (id : CallId) (cs : List CallId) (i : ℕ) → Rise cs → i < length cs → ((d : CallId) → at cs i d ≡ id.0) → without id cs ≡ remove cs i
one_is id [] i h within is = absurd (omega (arith, within))
one_is id (c ∷ cs) zero h within is =
    drops_first c id cs (is c)
    ∙ none_is id cs (λ k d in_range same. let above : c.0 < at cs k d = h zero (suc k) d (omega arith) (omega (arith, in_range)) in let here = is c in absurd (omega (arith, above, here, same)))
one_is id (c ∷ cs) (suc i) h within is =
    keeps_first c id cs (λ same. let above : c.0 < at cs i c = h zero (suc i) c (omega arith) within in let there = is c in absurd (omega (arith, above, there, same)))
    ∙ ap (λ (t : List CallId). c ∷ t) (one_is id cs i (λ i j d lt in_range. h (suc i) (suc j) d (omega (arith, lt)) (omega (arith, in_range))) (omega (arith, within)) is)

comparisons_rise : (cs : List CallId) (k : ℕ) → Rise cs → IsNonDecreasingBy (λ (c : CallId). ordering_index (nat_cmp c.0 k)) cs
comparisons_rise cs k h i j d le within =
    let rise : at cs i d ≤ at cs j d = grind (arith, h i j d, λ (same : i ≡ j). ap (λ (i : ℕ). at cs i d) same) in
    grind (arith, nat_tests, rise)

-- What a binary search finds is the one place of the call, and it has none where nothing is found.
pub found : (id : CallId) (cs : List CallId) (i : ℕ) → Rise cs → IsSearchInRange (Ok i) (length cs) → IsBinarySearchResult (λ (c : CallId). nat_cmp c.0 id.0) cs (Ok i) → without id cs ≡ remove cs i
found id cs i h within equal = one_is id cs i h within (λ d. ranked _ id.0 _ (sym (equal d)))

pub not_found : (id : CallId) (cs : List CallId) (i : ℕ) → Rise cs → IsBinarySearchResult (λ (c : CallId). nat_cmp c.0 id.0) cs (Err i) → without id cs ≡ cs
not_found id cs i h parted =
    let parts = parted (comparisons_rise cs id.0 h) in
    none_is id cs (λ k d within same.
    ⊎_elim
    (λ (lt : k < i). let e : at cs k d < id.0 = ranked _ id.0 _ (sym (parts.0 k d (omega arith) lt)) in absurd (omega (arith, e, same)))
    (λ (le : i ≤ k). let e : id.0 < at cs k d = ranked _ id.0 _ (sym (parts.1 k d le within)) in absurd (omega (arith, e, same)))
    (cases_lt k i))
