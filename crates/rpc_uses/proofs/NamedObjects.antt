-- The objects among some nodes are those that one of the nodes is; so their number tells when all that are known are named.
use Rattle.std.proofs.Common.{◌≡◌, ◌≢◌, ◌↔◌, ◌⊎◌, ℕ, suc, ◌<◌, true, false, cond, nat_eq, nat_lt, List, [], ◌∷◌, Option, IsSome, IsTrue, refl, sym, ap, subst, inl, inr, arith}
use Rattle.std.specs.FinMap as map
use Rattle.std.proofs.lemmas.Bool.Decides.{eqb_tells}
use Rattle.finite_maps.specs.Tally.{Map}
use Rattle.finite_maps.proofs.Gets.{get-insert_same, get-insert_other}
use Rattle.rpc_msg.specs.declared.ids.ObjectId.{ObjectId}
use Rattle.rpc_machine.specs.declared.node.Node.{Node}
use Rattle.rpc_machine.specs.declared.node.Node.TheVariants as node
use Rattle.rpc_machine.specs.Lists.{how_many}
use Rattle.rpc_machine.specs.Places.{places}
use Rattle.rpc_machine.specs.State.{State}
use Rattle.rpc_uses.specs.Objects.{is_the_object, names_object, objects_among, named_objects}
use Rattle.rpc_uses.proofs.Sizes.{AreKeysOf, same_keys}

abbrev Set : Type 0
Set = Map (Unit {0})

abbrev Has : Set → ℕ → Type 0
Has m k = IsSome (map.get m k)

-- An object more: it is there, and the others are there as before.
with_same : (m : Set) (k : ℕ) → Has (map.insert m k tt) k
with_same m k = subst (λ (o : Option (Unit {0})). IsSome o) (sym (get-insert_same m k tt)) refl

with_other : (m : Set) (q k : ℕ) → k ≢ q → Has (map.insert m q tt) k ≡ Has m k
with_other m q k apart = ap (λ (o : Option (Unit {0})). IsSome o) (get-insert_other m q tt k apart)

module _ (k : ℕ) (ns : List Node) where
  more_in : (q : ℕ) → (0 < how_many (is_the_object k) ns → Has (objects_among ns) k) → ((nat_eq q k ≡ true) × (q ≡ k)) ⊎ ((nat_eq q k ≡ false) × (q ≢ k)) → 0 < cond (nat_eq q k) (suc (how_many (is_the_object k) ns)) (how_many (is_the_object k) ns) → Has (map.insert (objects_among ns) q tt) k
  more_in q rest (inl same) h = subst (λ (j : ℕ). Has (map.insert (objects_among ns) j tt) k) (sym same.1) (with_same (objects_among ns) k)
  more_in q rest (inr other) h =
      let before : 0 < how_many (is_the_object k) ns = subst (λ b. 0 < cond b (suc (how_many (is_the_object k) ns)) (how_many (is_the_object k) ns)) other.0 h in
      subst (λ (t : Type 0). t) (sym (with_other (objects_among ns) q k (λ e. other.1 (sym e)))) (rest before)

  more_of : (q : ℕ) → (Has (objects_among ns) k → 0 < how_many (is_the_object k) ns) → ((nat_eq q k ≡ true) × (q ≡ k)) ⊎ ((nat_eq q k ≡ false) × (q ≢ k)) → Has (map.insert (objects_among ns) q tt) k → 0 < cond (nat_eq q k) (suc (how_many (is_the_object k) ns)) (how_many (is_the_object k) ns)
  more_of q rest (inl same) h = subst (λ b. 0 < cond b (suc (how_many (is_the_object k) ns)) (how_many (is_the_object k) ns)) (sym same.0) (omega arith)
  more_of q rest (inr other) h =
      let before : Has (objects_among ns) k = subst (λ (t : Type 0). t) (with_other (objects_among ns) q k (λ e. other.1 (sym e))) h in
      subst (λ b. 0 < cond b (suc (how_many (is_the_object k) ns)) (how_many (is_the_object k) ns)) (sym other.0) (rest before)

-- What one of the nodes is, is among their objects.
pub is_in : (k : ℕ) (ns : List Node) → 0 < how_many (is_the_object k) ns → Has (objects_among ns) k
is_in k [] h = absurd (omega (arith, h))
is_in k (node.Object o ∷ ns) h = more_in k ns o.0 (is_in k ns) (eqb_tells o.0 k) h
is_in k (node.Promise p ∷ ns) h = is_in k ns h
is_in k (node.Field f path ∷ ns) h = is_in k ns h
is_in k (node.Import e ∷ ns) h = is_in k ns h
is_in k (node.Pipe q path ∷ ns) h = is_in k ns h
is_in k (node.Broken reason ∷ ns) h = is_in k ns h

pub is_of : (k : ℕ) (ns : List Node) → Has (objects_among ns) k → 0 < how_many (is_the_object k) ns
is_of k [] h = absurd (let e : false ≡ true = subst (λ (o : Option (Unit {0})). IsSome o) (map.get-empty _ k) h in cc)
is_of k (node.Object o ∷ ns) h = more_of k ns o.0 (is_of k ns) (eqb_tells o.0 k) h
is_of k (node.Promise p ∷ ns) h = is_of k ns h
is_of k (node.Field f path ∷ ns) h = is_of k ns h
is_of k (node.Import e ∷ ns) h = is_of k ns h
is_of k (node.Pipe q path ∷ ns) h = is_of k ns h
is_of k (node.Broken reason ∷ ns) h = is_of k ns h

below : (n : ℕ) → 0 < n → IsTrue (nat_lt 0 n)
below n h = let e : nat_lt 0 n ≡ true = grind (arith, h) in e

above : (n : ℕ) → IsTrue (nat_lt 0 n) → 0 < n
above n h = let e : nat_lt 0 n ≡ true = h in grind (arith, e)

pub counts_those_named : (s : State) (o : ObjectId) → Has (objects_among (places s)) o.0 ↔ IsTrue (names_object s o)
counts_those_named s o = (λ h. below _ (is_of o.0 (places s) h), λ h. is_in o.0 (places s) (above _ h))

pub all_are_named : {X : Type 0} (s : State) (known : Map X) → ((o : ObjectId) → IsTrue (names_object s o) → IsSome (map.get known o.0)) → map.len known ≡ named_objects s → (o : ObjectId) → IsSome (map.get known o.0) → IsTrue (names_object s o)
all_are_named s known each size o there =
    let all : AreKeysOf (objects_among (places s)) known = λ k h. each (record { 0 = k }) ((counts_those_named s (record { 0 = k })).0 h) in
    (counts_those_named s o).0 (same_keys (objects_among (places s)) known all (sym size) o.0 there)
