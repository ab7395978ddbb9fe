-- What is read of a list of entries: with more entries behind, and which entries say it.
use Rattle.std.proofs.Common.{◌≡◌, ℕ, Bool, true, false, ◌&&◌, nat_eq, Option, None, Some, List, [], ◌∷◌, ◌++◌, refl, ap, subst, arith}
use Rattle.rpc_msg.specs.declared.ids.Vat.{Vat}
use Rattle.rpc_msg.specs.declared.ids.Vat.TheVariants.{A, B}
use Rattle.rpc_msg.specs.Vats.{other_vat}
use Rattle.rpc_journal.specs.declared.entry.JournalEntry.{JournalEntry}
use Rattle.rpc_journal.specs.History.{Ref, same_vat, same_ref, or_rest, first_that, in_front, all_that, made_stamp, made}

-- ---- More entries

pub still_first : {X : Type 0} (f : JournalEntry → Option X) (h more : List JournalEntry) (x : X) → first_that f h ≡ Some x → first_that f (h ++ more) ≡ Some x
still_first f [] more x e = cc
still_first f (y ∷ ys) more x e = by (f y) (first_that f ys) (first_that f (ys ++ more)) (still_first f ys more x) e
  where
    by : (o rest longer : Option _) → (rest ≡ Some x → longer ≡ Some x) → or_rest o rest ≡ Some x → or_rest o longer ≡ Some x
    by None rest longer g k = g k
    by (Some z) rest longer g k = k

front : {X : Type 0} (o : Option X) (xs ys zs : List X) → xs ≡ ys ++ zs → in_front o xs ≡ in_front o ys ++ zs
front None xs ys zs e = e
front (Some x) xs ys zs e = ap (λ (l : List _). x ∷ l) e

pub all_that-append : {X : Type 0} (f : JournalEntry → Option X) (xs ys : List JournalEntry) → all_that f (xs ++ ys) ≡ all_that f xs ++ all_that f ys
all_that-append f [] ys = refl
all_that-append f (x ∷ xs) ys = front (f x) (all_that f (xs ++ ys)) (all_that f xs) (all_that f ys) (all_that-append f xs ys)

pub made-append : (h es : List JournalEntry) (r : Ref) → made (h ++ es) r ≡ made h r ++ made es r
made-append h es r = all_that-append (made_stamp r) h es

-- ---- Vats and references

pub itself : (v : Vat) → same_vat v v ≡ true
itself A = refl
itself B = refl

pub other : (v : Vat) → same_vat (other_vat v) v ≡ false
other A = refl
other B = refl

pub same_is : (u v : Vat) → same_vat u v ≡ true → u ≡ v
same_is A A e = refl
same_is A B e = cc
same_is B A e = cc
same_is B B e = refl

pub same_ref_is : (q r : Ref) → same_ref q r ≡ true → q ≡ r
same_ref_is q r e = by (same_vat q.vat r.vat) (nat_eq q.number r.number) refl refl e
  where
    by : (b c : Bool) → same_vat q.vat r.vat ≡ b → nat_eq q.number r.number ≡ c → (b && c) ≡ true → q ≡ r
    by true true f g e = let v = same_is q.vat r.vat f in let n : q.number ≡ r.number = grind arith in
        subst (λ (x : Vat). q ≡ record { vat = x; number = r.number }) v (subst (λ (m : ℕ). q ≡ record { vat = q.vat; number = m }) n refl)
    by true false f g e = cc
    by false c f g e = cc
