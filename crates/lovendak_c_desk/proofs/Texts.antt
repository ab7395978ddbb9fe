-- A text at a pointer of a payload's root.
use Rattle.std.proofs.Common.{◌≡◌, inl, inr, ℕ, List, Option, Some, None, Result, Err, refl, sym, ap, ◌∙◌, subst}
use Rattle.rpc_msg.specs.Payloads.{Contents, IsEncoded, tree_of}
use Rattle.capn_reading.specs.Looking.{IsTextOf, field}
use Rattle.capn_trees.specs.Trees.{Tree}
use Rattle.lovendak_c_desk.specs.Contents.{IsTextAt, TextAt}
use Rattle.lovendak_c_desk.specs.Copies.{CopiesOut}
use Rattle.lovendak_c_desk.specs.declared.not_done.NotDone.{NotDone}
use Rattle.lovendak_c_desk.specs.declared.not_done.NotDone.TheVariants as not_done

-- What is found in the payload that was read is found in the one that was given.
same_field : (p q : Contents) (t : Tree) (n : ℕ) (o : Option Tree) → q ≡ p → t ≡ tree_of q → field t n ≡ o → field (tree_of p) n ≡ o
same_field p q t n o same is found = ap (λ u. field u n) (sym (is ∙ ap tree_of same)) ∙ found

pub no_field : {A : Type 0} (p q : Contents) (t : Tree) (n : ℕ) (room : List ℕ) (len : ℕ) → (q ≡ p) × IsEncoded q → t ≡ tree_of q → field t n ≡ None → TextAt {A = A} p n room len (Err not_done.Nothing) room len
no_field p q t n room len read is none =
    inr (not_done.Nothing, refl, inr (refl, subst IsEncoded read.0 read.1, λ text at. subst (λ (o : Option Tree). IsTextAt o text) (same_field p q t n None read.0 is none) at), refl, refl)

pub no_text : {A : Type 0} (p q : Contents) (t u : Tree) (n : ℕ) (room : List ℕ) (len : ℕ) → (q ≡ p) × IsEncoded q → t ≡ tree_of q → field t n ≡ Some u → ((text : List ℕ) → ¬ (IsTextOf u text))
    → TextAt {A = A} p n room len (Err not_done.Nothing) room len
no_text p q t u n room len read is found none =
    inr (not_done.Nothing, refl, inr (refl, subst IsEncoded read.0 read.1, λ text at. none text (subst (λ (o : Option Tree). IsTextAt o text) (same_field p q t n (Some u) read.0 is found) at)), refl, refl)

pub a_text : {A : Type 0} (p q : Contents) (t u : Tree) (n : ℕ) (room : List ℕ) (before : ℕ) (answer : Result A NotDone) (text out : List ℕ) (len : ℕ) → (q ≡ p) × IsEncoded q → t ≡ tree_of q
    → field t n ≡ Some u → IsTextOf u text → CopiesOut text room answer out len → TextAt p n room before answer out len
a_text p q t u n room before answer text out len read is found says copied =
    inl (subst IsEncoded read.0 read.1, (text, subst (λ (o : Option Tree). IsTextAt o text) (sym (same_field p q t n (Some u) read.0 is found)) says, copied))
