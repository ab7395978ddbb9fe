-- Which vats, groups and references are others, and ghosts after a change.
use Rattle.std.proofs.Common.{◌≡◌, ℕ, nat_eq, true, false, cond, refl, sym, ap, subst, arith}
use Rattle.rpc_msg.specs.declared.ids.Vat.{Vat}
use Rattle.rpc_msg.specs.declared.ids.Vat.TheVariants.{A, B}
use Rattle.rpc_msg.specs.Vats.{other_vat}
use Rattle.laws_routes.specs.Points.{Point, AnObject, APromise, AField, Nowhere, Group, Apart, OfPromise, OfOutcome, group_of, vat_of, end}
use Rattle.laws_routes.specs.Ghosts.{ref_at, with_at}

pub vats_differ : (v : Vat) → other_vat v ≡ v → ⊥
vats_differ A e = cc
vats_differ B e = cc

pub ends_differ : (v : Vat) → end (other_vat v) ≡ end v → ⊥
ends_differ A e = let f : false ≡ true = e in cc
ends_differ B e = let f : true ≡ false = e in cc

pub end_alike : (u v : Vat) → end u ≡ end v → u ≡ v
end_alike A A e = refl
end_alike A B e = let f : true ≡ false = e in cc
end_alike B A e = let f : false ≡ true = e in cc
end_alike B B e = refl

pub other_number : (v : Vat) (q r : ℕ) → (q ≡ r → ⊥) → ref_at v q ≡ ref_at v r → ⊥
other_number v q r h e = h (ap (λ x. x.number) e)

pub other_ref : (v : Vat) (q r : ℕ) → ref_at (other_vat v) q ≡ ref_at v r → ⊥
other_ref v q r e = vats_differ v (ap (λ x. x.vat) e)

pub with_other : {X : Type 0} (f : ℕ → X) (k : ℕ) (x : X) (j : ℕ) → nat_eq j k ≡ false → with_at f k x j ≡ f j
with_other f k x j e = ap (λ b. cond b x (f j)) e

pub with_here : {X : Type 0} (f : ℕ → X) (k : ℕ) (x : X) → with_at f k x k ≡ x
with_here f k x = let e : nat_eq k k ≡ true = grind (arith) in ap (λ b. cond b x (f k)) e

abbrev vat_in : Group → Vat → Vat
vat_in Apart v = v
vat_in (OfPromise u i) v = u
vat_in (OfOutcome u i) v = u

abbrev IsOf : Group → Type 0
IsOf Apart = ⊥
IsOf (OfPromise v i) = Unit {0}
IsOf (OfOutcome v i) = Unit {0}

pub not_apart : (g : Group) → IsOf g → Apart ≡ g → ⊥
not_apart g i e = subst IsOf (sym e) i

pub group_vat : (x : Point) (v : Vat) (g : Group) → IsOf g → group_of x ≡ g → vat_of x ≡ vat_in g v
group_vat (AnObject u n) v g i e = absurd (not_apart g i e)
group_vat (APromise u j) v g i e = ap (λ z. vat_in z v) e
group_vat (AField u j path) v g i e = ap (λ z. vat_in z v) e
group_vat (Nowhere u) v g i e = absurd (not_apart g i e)

abbrev id_in : Group → ℕ
id_in Apart = 0
id_in (OfPromise u i) = i
id_in (OfOutcome u i) = i

abbrev IsOutcome : Group → Type 0
IsOutcome Apart = ⊥
IsOutcome (OfPromise u i) = ⊥
IsOutcome (OfOutcome u i) = Unit {0}

pub promise_elsewhere : (v : Vat) (i j : ℕ) → OfPromise (other_vat v) i ≡ OfPromise v j → ⊥
promise_elsewhere v i j e = vats_differ v (ap (λ x. vat_in x v) e)

pub outcome_elsewhere : (v : Vat) (i j : ℕ) → OfOutcome (other_vat v) i ≡ OfOutcome v j → ⊥
outcome_elsewhere v i j e = vats_differ v (ap (λ x. vat_in x v) e)

pub not_promise : (u v : Vat) (i j : ℕ) → OfOutcome u i ≡ OfPromise v j → ⊥
not_promise u v i j e = subst IsOutcome e tt

pub not_outcome : (u v : Vat) (i j : ℕ) → OfPromise u i ≡ OfOutcome v j → ⊥
not_outcome u v i j e = subst IsOutcome (sym e) tt

pub promise_id : (u v : Vat) (i j : ℕ) → OfPromise u i ≡ OfPromise v j → i ≡ j
promise_id u v i j e = ap id_in e

pub outcome_id : (u v : Vat) (i j : ℕ) → OfOutcome u i ≡ OfOutcome v j → i ≡ j
outcome_id u v i j e = ap id_in e
