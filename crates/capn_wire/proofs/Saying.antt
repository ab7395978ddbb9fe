-- Bytes are a message that says a tree exactly where they read to that tree.
use Rattle.std.proofs.Common.{◌≡◌, ℕ, List, Option, Some, None, Result, Ok, Err, refl, sym, ap, subst, ◌∙◌, inl, inr}
use Rattle.std.specs.Prelude.{◌⊎◌, IsOk, IfOk, IfErr, MatchOption, MatchResult}
use Rattle.capn_trees.specs.declared.faults.PayloadFault.{PayloadFault}
use Rattle.capn_trees.specs.declared.faults.PayloadFault.TheVariants as faults
use Rattle.capn_trees.specs.declared.faults.WriteFault.{WriteFault}
use Rattle.capn_trees.specs.declared.faults.WriteFault.TheVariants as write_faults
use Rattle.capn_reading.specs.Following.{◌>>=◌}
use Rattle.capn_reading.specs.Framing.{framing}
use Rattle.capn_trees.specs.Trees.{Tree}
use Rattle.capn_reading.specs.Reading.{Reading, root_of, message_of, tree_read}
use Rattle.capn_wire.specs.Payloads.{Contents, IsEncoded, Says, tree_of}
use Rattle.capn_reading.proofs.Framed.{IsBytes, framed_again, framing_takes}
use Rattle.capn_reading.proofs.Rooted.{bind_ok}

message_is : (p : Contents) (m : List (List ℕ)) (t : Tree) (says : Says p m t) → message_of p.bytes p.caps ≡ Ok (t, says.visited)
unfolding message_of
message_is p m t says = ap (λ (f : Result (List (List ℕ)) PayloadFault). f >>= λ n. root_of n p.caps) (framed_again p.bytes m says.framed) ∙ says.read

abbrev read_to : Tree → ℕ → Reading Tree
read_to t v = Ok (t, v)

pub says_encoded : (p : Contents) (m : List (List ℕ)) (t : Tree) → Says p m t → IsEncoded p
says_encoded p m t says = subst (λ (r : Reading Tree). IsOk r) (sym (message_is p m t says)) (let yes : IsOk (read_to t says.visited) = refl in yes)

pub says_tree : (p : Contents) (m : List (List ℕ)) (t : Tree) → Says p m t → tree_of p ≡ t
says_tree p m t says = ap tree_read (message_is p m t says)

read_of : (r : Reading Tree) → IsOk r → (visited : ℕ) × (r ≡ Ok (tree_read r, visited))
read_of (Ok x) ok = (x.1, refl)
read_of (Err e) ok = absurd cc

pub encoded_says : (p : Contents) → IsBytes p.bytes → IsEncoded p → (m : List (List ℕ)) × Says p m (tree_of p)
unfolding message_of
encoded_says p fits ok =
    let r = read_of (message_of p.bytes p.caps) ok in
    let a = bind_ok (framing p.bytes) (λ n. root_of n p.caps) (tree_of p, r.0) r.1 in
    (a.0, record { framed = framing_takes p.bytes a.0 fits a.1; visited = r.0; read = a.2 })

-- a reader that keeps to the checks reads what says a tree
pub only_read : (p : Contents) (r : Result Contents PayloadFault) (m : List (List ℕ)) (t : Tree) → Says p m t
    → IfOk r (λ q. (q ≡ p) × IsEncoded q) → (IsEncoded p → IfErr r (λ e. e ≡ faults.Memory)) → MatchResult r (λ q. tree_of q ≡ t) (λ e. e ≡ faults.Memory)
only_read p (Ok q) m t says found only = ap tree_of found.0 ∙ says_tree p m t says
only_read p (Err e) m t says found only = only (says_encoded p m t says)

pub tree_found : (p : Contents) (r : Result Contents PayloadFault) → IsBytes p.bytes → IfOk r (λ q. (q ≡ p) × IsEncoded q) → IfOk r (λ q. (m : List (List ℕ)) × Says q m (tree_of q))
tree_found p (Ok q) fits found = encoded_says q (subst (λ (x : Contents). IsBytes x.bytes) (sym found.0) fits) found.1
tree_found p (Err e) fits found = tt

-- what was written is read again
module _ (p q w : Contents) (r : Result Contents PayloadFault) (same : q ≡ p) (is_w : p ≡ w) (encoded : IsEncoded p) (found : IfOk r (λ x. (x ≡ q) × IsEncoded x)) where
  pub read_again : IfErr r (λ e. (e ≡ faults.Memory) ⊎ (message_of q.bytes q.caps ≡ Err e)) → MatchResult r (λ x. x ≡ w) (λ e. e ≡ faults.Memory)
  read_again first = again r found first
    where
      again : (x : Result Contents PayloadFault) → IfOk x (λ y. (y ≡ q) × IsEncoded y) → IfErr x (λ e. (e ≡ faults.Memory) ⊎ (message_of q.bytes q.caps ≡ Err e)) → MatchResult x (λ y. y ≡ w) (λ e. e ≡ faults.Memory)
      again (Ok y) there first = there.0 ∙ same ∙ is_w
      again (Err e) there first =
          elim first [
            | inl memory ↦ memory
            | inr bad ↦ absurd (let no = subst (λ (x : Contents). IsOk (message_of x.bytes x.caps)) (sym same) encoded in cc)
          ]

  pub tree_again : (t : Tree) → tree_of p ≡ t → IfOk r (λ x. tree_of x ≡ t)
  tree_again t is_t = again r found
    where
      again : (x : Result Contents PayloadFault) → IfOk x (λ y. (y ≡ q) × IsEncoded y) → IfOk x (λ y. tree_of y ≡ t)
      again (Ok y) there = ap tree_of (there.0 ∙ same) ∙ is_t
      again (Err e) there = tt

pub contents_are : (p : Contents) (bytes : List ℕ) (caps : ℕ) → bytes ≡ p.bytes → caps ≡ p.caps → record { bytes = bytes; caps = caps } ≡ p
contents_are p bytes caps is_bytes is_caps = rw (is_bytes, is_caps) refl

-- a refusal passed on, and none
abbrev pub IsRefused : {T : Type 0} → Option WriteFault → Result T WriteFault → Type 0
IsRefused why r = MatchOption why (IfErr r (λ e. e ≡ write_faults.Memory)) (λ fault. r ≡ Err fault)

abbrev refused_as : (T : Type 0) → WriteFault → Result T WriteFault
refused_as T e = Err e

pub refused_again : (T U : Type 0) (why : Option WriteFault) (e : WriteFault) → IsRefused why (refused_as T e) → IsRefused why (refused_as U e)
refused_again T U None e h = h
refused_again T U (Some f) e h = let same : e ≡ f = cc in ap (refused_as U) same

abbrev given : {T : Type 0} → T → Result T WriteFault
given x = Ok x

pub not_refused : {T U : Type 0} (why : Option WriteFault) (x : T) (y : U) → IsRefused why (given x) → IsRefused why (given y)
not_refused None x y h = tt
not_refused (Some f) x y h = absurd (let no : given x ≡ Err f = h in cc)
