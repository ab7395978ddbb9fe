-- Readings that did not fail.
use Rattle.std.proofs.Common.{◌≡◌, ℕ, Bool, true, false, cond, List, Result, Ok, Err, refl, sym, ap, subst}
use Rattle.std.specs.Prelude.{IsOk}
use Rattle.capn_trees.specs.declared.faults.PayloadFault.{PayloadFault}
use Rattle.capn_reading.specs.Following.{◌>>=◌}
use Rattle.capn_trees.specs.Trees.{Tree}
use Rattle.capn_reading.specs.Reading.{Reading, root_of, message_of, tree_read}
use Rattle.capn_reading.specs.Framing.{framing}

-- the value of a step that did not fail
pub bind_ok : {A B : Type 0} (r : Result A PayloadFault) (f : A → Result B PayloadFault) (y : B) → (r >>= f) ≡ Ok y → (x : A) × (r ≡ Ok x) × (f x ≡ Ok y)
bind_ok (Ok x) f y e = (x, refl, e)
bind_ok (Err d) f y e = absurd cc

-- a test that did not fail
pub passed : {A : Type 0} (b : Bool) (d : PayloadFault) (r : Result A PayloadFault) (y : A) → cond b (Err d) r ≡ Ok y → (b ≡ false) × (r ≡ Ok y)
passed true d r y e = absurd cc
passed false d r y e = (refl, e)

abbrev pub read_as : {A : Type 0} → A → ℕ → Reading A
read_as a n = Ok (a, n)

first_of : {A : Type 0} → A → Reading A → A
first_of d (Ok x) = x.0
first_of d (Err e) = d

pub first_is : {A : Type 0} (a b : A) (m n : ℕ) → read_as a m ≡ read_as b n → a ≡ b
unfolding first_of
first_is a b m n e = ap (first_of a) e

-- the tree of a reading that did not fail
pub tree_read_is : (r : Reading Tree) → IsOk r → (after : ℕ) × (r ≡ Ok (tree_read r, after))
tree_read_is (Ok x) ok = (x.1, refl)
tree_read_is (Err e) ok = absurd cc

abbrev refused : PayloadFault → Reading Tree
refused e = Err e

-- a message that is read has its segments
pub framed_read : (bytes : List ℕ) (caps : ℕ) (m : List (List ℕ)) → IsOk (message_of bytes caps) → Ok m ≡ framing bytes
    → IsOk (root_of m caps) × (tree_read (root_of m caps) ≡ tree_read (message_of bytes caps))
unfolding message_of
framed_read bytes caps m ok is_framed =
    let same : root_of m caps ≡ message_of bytes caps = ap (λ (f : Result (List (List ℕ)) PayloadFault). f >>= λ n. root_of n caps) is_framed in
    (subst (λ (r : Reading Tree). IsOk r) (sym same) ok, ap tree_read same)

pub not_unframed : (bytes : List ℕ) (caps : ℕ) (e : PayloadFault) → IsOk (message_of bytes caps) → Err e ≡ framing bytes → ⊥
unfolding message_of
not_unframed bytes caps e ok is_framed =
    let same : message_of bytes caps ≡ Err e = ap (λ (f : Result (List (List ℕ)) PayloadFault). f >>= λ n. root_of n caps) (sym is_framed) in
    absurd (let no : IsOk (refused e) = subst (λ (r : Reading Tree). IsOk r) same ok in cc)
