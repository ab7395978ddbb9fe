-- Maps in which no number from some number on has an entry.
use Rattle.std.specs.Prelude.{◌≡◌, ◌≤◌, ℕ, ◌+◌, Option, None, Some}
use Rattle.std.specs.FinMap.{empty, get, insert, remove, get-empty}
use Rattle.std.specs.Ordering.{nat_cmp}
use Rattle.std.proofs.Common.{sym, ◌∙◌, arith}
use Rattle.finite_maps.specs.Tally.{Map}
use Rattle.finite_maps.proofs.Gets.{at_each, get-insert_other, get-remove_same, get-remove_other}

module _ {X : Type 0} where
  pub none_yet : (k : ℕ) → get (empty {X = X} {R = nat_cmp}) k ≡ None
  none_yet k = get-empty nat_cmp k

  -- the next number is given
  pub next_given : (m : Map X) (n : ℕ) (v : X) → ((k : ℕ) → n ≤ k → get m k ≡ None) → (k : ℕ) → n + 1 ≤ k → get (insert m n v) k ≡ None
  next_given m n v none k above = get-insert_other m n v k (λ e. absurd (omega arith)) ∙ none k (omega arith)

  both_ways : (v : X) → ◌≡◌ {A = Option X} (Some v) None → ⊥
  both_ways v e = cc

  -- an entry that is there changes
  pub still_none : (m : Map X) (n j : ℕ) (x v : X) → get m j ≡ Some x → ((k : ℕ) → n ≤ k → get m k ≡ None) → (k : ℕ) → n ≤ k → get (insert m j v) k ≡ None
  still_none m n j x v there none =
      at_each (λ k. n ≤ k → get (insert m j v) k ≡ None) j
      (λ above. absurd (both_ways x (sym there ∙ none j above)))
      (λ k apart above. get-insert_other m j v k apart ∙ none k above)

  -- an entry goes
  pub none_without : (m : Map X) (n j : ℕ) → ((k : ℕ) → n ≤ k → get m k ≡ None) → (k : ℕ) → n ≤ k → get (remove m j) k ≡ None
  none_without m n j none =
      at_each (λ k. n ≤ k → get (remove m j) k ≡ None) j
      (λ above. get-remove_same m j)
      (λ k apart above. get-remove_other m j k apart ∙ none k above)
