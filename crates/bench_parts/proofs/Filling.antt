-- A list of the pool is there once it is started, and after each push to any list.
use Rattle.std.proofs.Common.{◌≡◌, ℕ, true, false, List, [], ◌∷◌, ◌++◌, Option, None, Some, IsSome, IfSome, refl, sym, subst, ◌∙◌, ap, inl, inr}
use Rattle.std.specs.Ordering.{nat_cmp}
use Rattle.std.specs.FinMap as map
use Rattle.finite_maps.proofs.Gets.{get-insert_same, get-insert_other, at_each}
use Rattle.vat_tables.specs.declared.held_pool.ListKey.{ListKey}
use Rattle.bench_parts.specs.declared.pool.Lists.{Lists}
use Rattle.bench_parts.specs.Turns.{IsOneOf, IsThere, AreThere}

-- what was found is there
found : {X : Type 0} (o : Option X) (x : X) → o ≡ Some x → IsSome o
found o x e = subst IsSome (sym e) refl

pub inserted : {X : Type 0} (old new : map.FinMap nat_cmp X) (k : ℕ) (x : X) → new ≡ map.insert old k x → IsSome (map.get new k)
inserted old new k x e = found (map.get new k) x (ap (λ m. map.get m k) e ∙ get-insert_same old k x)

-- the other keys are there as before
pub others_stay : {X : Type 0} (old new : map.FinMap nat_cmp X) (k : ℕ) (x : X) → new ≡ map.insert old k x → (q : ℕ) → IsSome (map.get old q) → IsSome (map.get new q)
others_stay old new k x e =
    at_each (λ q. IsSome (map.get old q) → IsSome (map.get new q)) k
    (λ there. inserted old new k x e)
    (λ q apart there. subst IsSome (sym (ap (λ m. map.get m q) e ∙ get-insert_other old k x q apart)) there)

pushed_at : {X : Type 0} (old new : map.FinMap nat_cmp (List X)) (k : ℕ) (x : X) (o : Option (List X)) → IsSome o → IfSome o (λ xs. new ≡ map.insert old k (xs ++ x ∷ [])) → (q : ℕ) → IsSome (map.get old q) → IsSome (map.get new q)
pushed_at old new k x None there e = let h : false ≡ true = there in absurd (cc)
pushed_at old new k x (Some xs) there e = others_stay old new k (xs ++ x ∷ []) e

pub pushed : {X : Type 0} (old new : map.FinMap nat_cmp (List X)) (k : ℕ) (x : X) → IsSome (map.get old k) → IfSome (map.get old k) (λ xs. new ≡ map.insert old k (xs ++ x ∷ [])) → (q : ℕ) → IsSome (map.get old q) → IsSome (map.get new q)
pushed old new k x there e = pushed_at old new k x (map.get old k) there e

-- the list whose turn it is is there
pub turn_there : (l : Lists) (m : map.FinMap nat_cmp (List ℕ)) (key : ListKey) → AreThere l m → IsOneOf l key → IsSome (map.get m key.0)
turn_there l m key there (inl e) = subst (λ (k : ListKey). IsThere m k) (sym e) there.0
turn_there l m key there (inr (inl e)) = subst (λ (k : ListKey). IsThere m k) (sym e) there.1
turn_there l m key there (inr (inr e)) = subst (λ (k : ListKey). IsThere m k) (sym e) there.2
