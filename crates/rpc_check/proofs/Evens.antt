-- Two sides of a count that agree at each id that they name agree at every id.
use Rattle.std.specs.Prelude.{◌≡◌, ◌≢◌, ◌⊎◌, ℕ, ◌+◌, Bool, true, false, cond, ◌||◌, nat_eq, Option, None, Some, List, [], ◌∷◌, ◌++◌, is_some}
use Rattle.std.specs.List.{list_all}
use Rattle.std.specs.Option.{unwrap_or}
use Rattle.std.specs.Set.{is_member}
use Rattle.std.specs.Ordering.{nat_cmp, eq_by_cmp}
use Rattle.std.proofs.Common.{refl, sym, ◌∙◌, ap, arith, inl, inr}
use Rattle.std.proofs.lemmas.Bool.{and_parts, and_from, eq-eqb, eqb-true}
use Rattle.std.proofs.lemmas.Bool.Decides.{eqb_tells}
use Rattle.finite_maps.proofs.Gets.{tied_other}
use Rattle.rpc_msg.specs.declared.ids.ExportId.{ExportId}
use Rattle.rpc_check.specs.declared.amounts.Amounts.{Amounts}
use Rattle.rpc_check.specs.Counts.{CountsById, count_of, same_counts}
use Rattle.rpc_check.specs.Kept.{amount, AllAgree}
use Rattle.rpc_check.proofs.Counting.{count_of-append}

-- ---- The ids of a map

passes : (test : ℕ → Bool) (k e : ℕ) (ks : List ℕ) → test k ≡ true → (is_member (eq_by_cmp nat_cmp) ks e ≡ true → test e ≡ true) → ((nat_eq e k ≡ true) × (e ≡ k)) ⊎ ((nat_eq e k ≡ false) × (e ≢ k)) → is_member (eq_by_cmp nat_cmp) (k ∷ ks) e ≡ true → test e ≡ true
passes test k e ks here others (inl t) member = ap test t.1 ∙ here
passes test k e ks here others (inr t) member = others (sym (ap (λ b. b || is_member (eq_by_cmp nat_cmp) ks e) (tied_other e k t.1)) ∙ member)

pub member_passes : (test : ℕ → Bool) (ks : List ℕ) (e : ℕ) → list_all test ks ≡ true → is_member (eq_by_cmp nat_cmp) ks e ≡ true → test e ≡ true
member_passes test [] e all member = absurd (let f : false ≡ true = member in cc)
member_passes test (k ∷ ks) e all member =
    let parts = and_parts (test k) (list_all test ks) all in
    passes test k e ks parts.0 (member_passes test ks e parts.1) (eqb_tells e k) member

there : (o : Option ℕ) → unwrap_or o 0 ≢ 0 → is_some o ≡ true
there None more = absurd (more refl)
there (Some n) more = refl

pub has_id : (o : Option ℕ) (b : Bool) → is_some o ≡ b → unwrap_or o 0 ≢ 0 → b ≡ true
has_id o b is more = sym is ∙ there o more

-- ---- The ids of a list

named : (test : ℕ → Bool) (e : ℕ) (x : ExportId × ℕ) (xs : CountsById) → test x.0.0 ≡ true → (count_of e xs ≢ 0 → test e ≡ true) → ((nat_eq e x.0.0 ≡ true) × (e ≡ x.0.0)) ⊎ ((nat_eq e x.0.0 ≡ false) × (e ≢ x.0.0)) → count_of e (x ∷ xs) ≢ 0 → test e ≡ true
named test e x xs here others (inl t) more = ap test t.1 ∙ here
named test e x xs here others (inr t) more = others (λ none. more (ap (λ b. cond b x.1 0 + count_of e xs) t.0 ∙ omega (arith, none)))

pub named_passes : (test : ℕ → Bool) (xs : CountsById) (e : ℕ) → list_all (λ (x : ExportId × ℕ). test x.0.0) xs ≡ true → count_of e xs ≢ 0 → test e ≡ true
named_passes test [] e all more = absurd (more refl)
named_passes test (x ∷ xs) e all more =
    let parts = and_parts (test x.0.0) (list_all (λ (y : ExportId × ℕ). test y.0.0) xs) all in
    named test e x xs parts.0 (named_passes test xs e parts.1) (eqb_tells e x.0.0) more

all_pass : (test : ℕ → Bool) (xs : CountsById) → ((e : ℕ) → test e ≡ true) → list_all (λ (x : ExportId × ℕ). test x.0.0) xs ≡ true
all_pass test [] every = refl
all_pass test (x ∷ xs) every = and_from (test x.0.0) (list_all (λ (y : ExportId × ℕ). test y.0.0) xs) (every x.0.0) (all_pass test xs every)

equal_or_none : (a b : ℕ) → ((nat_eq (a + b) 0 ≡ true) × (a + b ≡ 0)) ⊎ ((nat_eq (a + b) 0 ≡ false) × (a + b ≢ 0)) → (a + b ≢ 0 → nat_eq a b ≡ true) → a ≡ b
equal_or_none a b (inl t) equal = omega (arith, t.1)
equal_or_none a b (inr t) equal = eqb-true a b (equal t.1)

-- Lists that say the same of the ids that they name say the same of every id.
pub same_everywhere : (xs ys : CountsById) → same_counts xs ys ≡ true → (e : ℕ) → count_of e xs ≡ count_of e ys
same_everywhere xs ys same e =
    equal_or_none (count_of e xs) (count_of e ys) (eqb_tells (count_of e xs + count_of e ys) 0)
    (λ more. named_passes (λ k. nat_eq (count_of k xs) (count_of k ys)) (xs ++ ys) e same (λ none. more (sym (count_of-append e xs ys) ∙ none)))

pub same_from_everywhere : (xs ys : CountsById) → ((e : ℕ) → count_of e xs ≡ count_of e ys) → same_counts xs ys ≡ true
same_from_everywhere xs ys every = all_pass (λ k. nat_eq (count_of k xs) (count_of k ys)) (xs ++ ys) (λ k. eq-eqb _ _ (every k))

both_ways : (b c : Bool) → (b ≡ true → c ≡ true) → (c ≡ true → b ≡ true) → b ≡ c
both_ways true c f g = sym (f refl)
both_ways false true f g = g refl
both_ways false false f g = refl

-- ---- The two sides

pub says_same : (b : Bool) (x y h r : Amounts) (exports imports way : CountsById)
    → ((e : ℕ) → amount x e ≡ count_of e exports) → ((e : ℕ) → amount y e ≡ count_of e imports) → ((e : ℕ) → amount h e + amount r e ≡ count_of e way)
    → (b ≡ true → AllAgree x y h r) → (AllAgree x y h r → b ≡ true) → b ≡ same_counts exports (imports ++ way)
says_same b x y h r exports imports way outward inward coming all none =
    both_ways b (same_counts exports (imports ++ way))
    (λ t. same_from_everywhere exports (imports ++ way) (λ e. omega (arith, eqb-true _ _ (all t e), outward e, inward e, coming e, count_of-append e imports way)))
    (λ s. none (λ e. eq-eqb _ _ (omega (arith, same_everywhere exports (imports ++ way) s e, outward e, inward e, coming e, count_of-append e imports way))))
