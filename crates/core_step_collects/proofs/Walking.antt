-- Ids in order, of which each run is looked at once.
use Rattle.std.proofs.Common.{◌≡◌, ℕ, ◌+◌, ◌-◌, ◌≤◌, ◌<◌, ◌≢◌, ◌⊎◌, ⊎_elim, inl, inr, Bool, true, false, not, ◌&&◌, ◌||◌, cond, zero, suc, List, [], ◌∷◌, length, get_or, refl, sym, ap, ◌∙◌, arith, IsPermutation, nat_eq}
use Rattle.std.specs.Prelude.{nat_lt}
use Rattle.std.specs.Bool.{◌==◌}
use Rattle.std.specs.List.{list_all, list_any, sum_by}
use Rattle.std.specs.List.Sorted.{IsSorted}
use Rattle.std.specs.Ordering.{nat_cmp}
use Rattle.std.proofs.lemmas.List.Folds.{list_all_at}
use Rattle.std.proofs.lemmas.List.Sums.{sum_by-cons}
use Rattle.std.proofs.lemmas.List.Sorted.{sum_by-IsPermutation, list_any-IsPermutation, IsNonDecreasingBy-from_sort}
use Rattle.std.specs.FinMap as map
use Rattle.rpc_machine.specs.State.{State}
use Rattle.rpc_machine.specs.Flags.{may_lose}
use Rattle.rpc_machine.specs.Lists.{how_many}

-- Whether so many descriptors of the import of that id may be given back.
abbrev pub may_go : State → ℕ → ℕ → Bool
may_go s e n = may_lose s e n (map.get s.imports e)

-- Whether as many of an id may go as stand in the list.
abbrev pub passes : (ℕ → ℕ → Bool) → List ℕ → ℕ → Bool
passes lose xs e = lose e (how_many (nat_eq e) xs)

-- ---- The order does not matter

many_is : (test : ℕ → Bool) (xs : List ℕ) → how_many test xs ≡ sum_by (λ x. cond (test x) 1 0) xs
many_is test [] = refl
many_is test (x ∷ xs) = go (test x) (how_many test xs) (sum_by (λ y. cond (test y) 1 0) xs) (many_is test xs) ∙ sym (sum_by-cons (λ y. cond (test y) 1 0) x xs) where
  go : (b : Bool) (n m : ℕ) → n ≡ m → cond b (suc n) n ≡ cond b 1 0 + m
  go true n m e = omega (arith, e)
  go false n m e = omega (arith, e)

same_many : (test : ℕ → Bool) (xs ys : List ℕ) → IsPermutation xs ys → how_many test xs ≡ how_many test ys
same_many test xs ys moved = many_is test xs ∙ sym (sum_by-IsPermutation (λ x. cond (test x) 1 0) xs ys moved) ∙ sym (many_is test ys)

all_is : (test : ℕ → Bool) (xs : List ℕ) → list_all test xs ≡ not (list_any (λ x. not (test x)) xs)
all_is test [] = refl
all_is test (x ∷ xs) = go (test x) (list_all test xs) (list_any (λ y. not (test y)) xs) (all_is test xs) where
  go : (b c d : Bool) → c ≡ not d → (b && c) ≡ not (not b || d)
  go true c d e = e
  go false c d e = refl

all_alike : (test other : ℕ → Bool) → ((e : ℕ) → test e ≡ other e) → (xs : List ℕ) → list_all test xs ≡ list_all other xs
all_alike test other same [] = refl
all_alike test other same (x ∷ xs) = ap (λ (b : Bool). b && list_all test xs) (same x) ∙ ap (λ (b : Bool). other x && b) (all_alike test other same xs)

pub in_any_order : (lose : ℕ → ℕ → Bool) (xs ys : List ℕ) → IsPermutation xs ys → list_all (passes lose ys) ys ≡ list_all (passes lose xs) xs
in_any_order lose xs ys moved =
    all_is (passes lose ys) ys ∙ ap not (sym (list_any-IsPermutation (λ e. not (passes lose ys e)) xs ys moved)) ∙ sym (all_is (passes lose ys) xs)
    ∙ all_alike (passes lose ys) (passes lose xs) (λ e. ap (lose e) (sym (same_many (nat_eq e) xs ys moved))) xs

-- ---- A run has all of its id

one_more : (e x n k : ℕ) → e ≡ x → n ≡ k → cond (nat_eq e x) (suc n) n ≡ suc k
one_more e x n k same is = let yes : nat_eq e x ≡ true = grind (arith, same) in ap (λ (b : Bool). cond b (suc n) n) yes ∙ ap suc is

none_more : (e x n k : ℕ) → nat_eq e x ≡ false → n ≡ k → cond (nat_eq e x) (suc n) n ≡ k
none_more e x n k other is = ap (λ (b : Bool). cond b (suc n) n) other ∙ is

run_many : (xs : List ℕ) (e low high : ℕ) → low ≤ high → high ≤ length xs
    → ((i : ℕ) → i < low → get_or xs i 0 < e) → ((i : ℕ) → low ≤ i → i < high → get_or xs i 0 ≡ e) → ((i : ℕ) → high ≤ i → i < length xs → e < get_or xs i 0)
    → how_many (nat_eq e) xs ≡ high - low
run_many [] e low high rises within before run after = omega (arith, rises, within)
run_many (x ∷ xs) e zero zero rises within before run after =
    let more : e < x = after zero (omega arith) (omega arith) in
    none_more e x (how_many (nat_eq e) xs) 0 (grind (arith, more))
    (run_many xs e zero zero (omega arith) (omega arith) (λ i lt. absurd (omega (arith, lt))) (λ i from to. absurd (omega (arith, to))) (λ i from to. after (suc i) (omega arith) (omega (arith, to))))
run_many (x ∷ xs) e zero (suc high) rises within before run after =
    one_more e x (how_many (nat_eq e) xs) high (sym (run zero (omega arith) (omega arith)))
    (run_many xs e zero high (omega arith) (omega (arith, within)) (λ i lt. absurd (omega (arith, lt))) (λ i from to. run (suc i) (omega arith) (omega (arith, to)))
    (λ i from to. after (suc i) (omega (arith, from)) (omega (arith, to))) ∙ omega arith)
    ∙ (let all : suc high ≡ suc high - zero = omega arith in all)
run_many (x ∷ xs) e (suc low) zero rises within before run after = absurd (omega (arith, rises))
run_many (x ∷ xs) e (suc low) (suc high) rises within before run after =
    let less : x < e = before zero (omega arith) in
    none_more e x (how_many (nat_eq e) xs) (suc high - suc low) (grind (arith, less))
    (run_many xs e low high (omega (arith, rises)) (omega (arith, within)) (λ i lt. before (suc i) (omega (arith, lt))) (λ i from to. run (suc i) (omega (arith, from)) (omega (arith, to)))
    (λ i from to. after (suc i) (omega (arith, from)) (omega (arith, to))) ∙ omega arith)

-- ---- A walk over the runs

last_or : (i n : ℕ) → i ≤ n → (i ≡ n) ⊎ (i + 1 ≤ n)
last_or i n le = go (i == n) refl where
  go : (b : Bool) → (i == n) ≡ b → (i ≡ n) ⊎ (i + 1 ≤ n)
  go true e = inl (grind (arith, e))
  go false e = inr (grind (arith, e, le))

all_pass : (test : ℕ → Bool) (xs : List ℕ) → ((i : ℕ) → i < length xs → test (get_or xs i 0) ≡ true) → list_all test xs ≡ true
all_pass test [] passed = refl
all_pass test (x ∷ xs) passed = ap (λ (b : Bool). b && list_all test xs) (passed zero (omega arith)) ∙ all_pass test xs (λ i lt. passed (suc i) (omega (arith, lt)))

-- At that place, in a run that begins there.
pub record Walked (lose : ℕ → ℕ → Bool) (xs : List ℕ) (start place : ℕ) : Type 0 where
  pub within : start ≤ place
  pub below : start < length xs → (i : ℕ) → i < start → get_or xs i 0 < get_or xs start 0
  pub run : place < length xs → (i : ℕ) → start ≤ i → i ≤ place → get_or xs i 0 ≡ get_or xs place 0
  pub passed : (i : ℕ) → i < start → passes lose xs (get_or xs i 0) ≡ true
  pub ended : place ≡ length xs → start ≡ place

abbrev pub same_next : List ℕ → ℕ → Bool
same_next xs place = nat_lt (place + 1) (length xs) && (get_or xs (place + 1) 0 == get_or xs place 0)

module _ (lose : ℕ → ℕ → Bool) (xs : List ℕ) (sorted : IsSorted nat_cmp xs) where
  rises : (i j : ℕ) → i ≤ j → j < length xs → get_or xs i 0 ≤ get_or xs j 0
  rises i j le lt = IsNonDecreasingBy-from_sort (λ x. x) xs sorted i j 0 le lt

  pub walked_start : Walked lose xs 0 0
  walked_start = record {
    within = omega arith;
    below = λ some i lt. absurd (omega (arith, lt));
    run = λ some i from to. ap (λ (k : ℕ). get_or xs k 0) (let e : i ≡ 0 = omega (arith, to) in e);
    passed = λ i lt. absurd (omega (arith, lt));
    ended = λ e. refl;
  }

  pub walked_on : (start place : ℕ) → same_next xs place ≡ true → Walked lose xs start place → Walked lose xs start (place + 1)
  walked_on start place next w =
      let more : place + 1 < length xs = grind (arith, next) in
      let same : get_or xs (place + 1) 0 ≡ get_or xs place 0 = grind (arith, next) in record {
        within = omega (arith, w.within);
        below = w.below;
        run = λ some i from to. by i from to same more;
        passed = w.passed;
        ended = λ e. absurd (omega (arith, e, more));
      } where
        by : (i : ℕ) → start ≤ i → i ≤ place + 1 → get_or xs (place + 1) 0 ≡ get_or xs place 0 → place + 1 < length xs → get_or xs i 0 ≡ get_or xs (place + 1) 0
        by i from to same more = ⊎_elim (λ e. ap (λ (k : ℕ). get_or xs k 0) e) (λ le. w.run (omega (arith, more)) i from (omega (arith, le)) ∙ sym same) (last_or i (place + 1) to)

  -- the number of an id that ends its run here
  many_here : (start place : ℕ) → place < length xs → same_next xs place ≡ false → Walked lose xs start place → how_many (nat_eq (get_or xs place 0)) xs ≡ place + 1 - start
  many_here start place lt next w =
      run_many xs (get_or xs place 0) start (place + 1) (omega (arith, w.within)) (omega (arith, lt))
      (λ i before. let less = w.below (omega (arith, w.within, lt)) i before in let same = w.run lt start (omega arith) w.within in omega (arith, less, same))
      (λ i from to. w.run lt i from (omega (arith, to))) (λ i from to. after i from to (rises (place + 1) i from to) (rises place (place + 1) (omega arith) (omega (arith, from, to)))) where
        differs : place + 1 < length xs → get_or xs place 0 ≢ get_or xs (place + 1) 0
        differs more same = let yes : same_next xs place ≡ true = grind (arith, more, same) in let no : true ≡ false = sym yes ∙ next in cc

        after : (i : ℕ) → place + 1 ≤ i → i < length xs → get_or xs (place + 1) 0 ≤ get_or xs i 0 → get_or xs place 0 ≤ get_or xs (place + 1) 0 → get_or xs place 0 < get_or xs i 0
        after i from to above next_above = let more : place + 1 < length xs = omega (arith, from, to) in let other = differs more in omega (arith, above, next_above, other)

  pub walked_run : (start place : ℕ) → place < length xs → same_next xs place ≡ false → lose (get_or xs place 0) (place + 1 - start) ≡ true → Walked lose xs start place → Walked lose xs (place + 1) (place + 1)
  walked_run start place lt next may w = record {
    within = omega arith;
    below = λ some i to. let step = differs some in let before = rises i place (omega (arith, to)) lt in let more = rises place (place + 1) (omega arith) some in omega (arith, step, before, more);
    run = λ some i from to. ap (λ (k : ℕ). get_or xs k 0) (let e : i ≡ place + 1 = omega (arith, from, to) in e);
    passed = λ i to. passed i to (nat_lt i start) refl;
    ended = λ e. refl;
  } where
    differs : place + 1 < length xs → get_or xs place 0 ≢ get_or xs (place + 1) 0
    differs more same = let yes : same_next xs place ≡ true = grind (arith, more, same) in let no : true ≡ false = sym yes ∙ next in cc

    here : passes lose xs (get_or xs place 0) ≡ true
    here = ap (lose (get_or xs place 0)) (many_here start place lt next w) ∙ may

    passed : (i : ℕ) → i < place + 1 → (b : Bool) → nat_lt i start ≡ b → passes lose xs (get_or xs i 0) ≡ true
    passed i to true e = w.passed i (grind (arith, e))
    passed i to false e = ap (passes lose xs) (w.run lt i (grind (arith, e)) (omega (arith, to))) ∙ here

  pub walked_fails : (start place : ℕ) → place < length xs → same_next xs place ≡ false → lose (get_or xs place 0) (place + 1 - start) ≡ false → Walked lose xs start place → list_all (passes lose xs) xs ≡ false
  walked_fails start place lt next fails w = list_all_at (passes lose xs) xs place 0 lt (ap (lose (get_or xs place 0)) (many_here start place lt next w) ∙ fails)

pub walked_all : (lose : ℕ → ℕ → Bool) (xs : List ℕ) (start : ℕ) → Walked lose xs start (length xs) → list_all (passes lose xs) xs ≡ true
walked_all lose xs start w = all_pass (passes lose xs) xs (λ i lt. w.passed i (omega (arith, w.ended refl, lt)))
