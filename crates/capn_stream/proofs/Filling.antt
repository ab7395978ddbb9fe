-- What waits is filled up from a piece.
use Rattle.std.proofs.Common.{◌≡◌, ℕ, ◌+◌, ◌-◌, ◌<◌, ◌≤◌, List, ◌++◌, length, take, drop, take-add, Result, Ok, Err, refl, sym, ap, subst, ◌∙◌, append_assoc, arith, inl, inr, length-append}
use Rattle.std.proofs.lemmas.List.{take_all, length-take, take-append-drop}
use Rattle.std.proofs.Math.Seq.{take-append-add}
use Rattle.capn_trees.specs.declared.faults.PayloadFault.{PayloadFault}
use Rattle.capn_stream.specs.declared.error.StreamError.{StreamError}
use Rattle.capn_stream.specs.declared.error.StreamError.TheVariants as error
use Rattle.capn_stream.specs.declared.front.Front.{Front}
use Rattle.capn_stream.specs.declared.front.Front.TheVariants.{Complete, Need, Fault}
use Rattle.capn_stream.specs.Fronts.{front_of, IsHeld, IsShort}
use Rattle.capn_stream.specs.Readers.{Filled, FilledBy}
use Rattle.capn_stream.proofs.Stable.{complete_stays, fault_stays, need_within, short_within}

module _ (held piece bytes : List ℕ) (taken : ℕ) (so_far : bytes ≡ held ++ take taken piece) where
  all_is : bytes ++ drop taken piece ≡ held ++ piece
  all_is = ap (λ (b : List ℕ). b ++ drop taken piece) so_far ∙ append_assoc held (take taken piece) (drop taken piece) ∙ ap (λ (t : List ℕ). held ++ t) (take-append-drop taken piece)

  size_is : taken ≤ length piece → length bytes ≡ length held + taken
  size_is within = ap length so_far ∙ length-append held (take taken piece) ∙ (let t = length-take taken piece in omega arith)

  pub filled_complete : (n : ℕ) → taken ≤ length piece → front_of bytes ≡ Complete n → n ≡ length bytes → Filled held piece (Ok taken) bytes
  filled_complete n within front exact =
      let size = size_is within in
      let e : front_of (held ++ piece) ≡ Complete n = ap front_of (sym all_is) ∙ complete_stays bytes (drop taken piece) n front in
      let left : taken ≡ n - length held = omega arith in
      let sum : length held + taken ≡ n = omega arith in
      let filled : bytes ≡ take n (held ++ piece) = so_far ∙ sym (take-append-add held piece taken) ∙ ap (λ (k : ℕ). take k (held ++ piece)) sum in
      inl (subst (λ (f : Front). FilledBy held piece f (Ok taken) bytes) (sym e) (ap Ok left, filled))

  pub filled_need : (n : ℕ) → taken ≡ length piece → front_of bytes ≡ Need n → Filled held piece (Ok taken) bytes
  filled_need n done front =
      let whole : bytes ≡ held ++ piece = so_far ∙ ap (λ (t : List ℕ). held ++ t) (take_all taken piece (omega arith)) in
      inl (subst (λ (f : Front). FilledBy held piece f (Ok taken) bytes) (sym (ap front_of (sym whole) ∙ front)) (ap Ok done, whole))

  pub filled_fault : (f : PayloadFault) (new : List ℕ) → front_of bytes ≡ Fault f → Filled held piece (Err (error.Fault f)) new
  filled_fault f new front =
      inl (subst (λ (g : Front). FilledBy held piece g (Err (error.Fault f)) new) (sym (ap front_of (sym all_is) ∙ fault_stays bytes (drop taken piece) f front)) refl)

-- no more was taken than was wanted, so a frame that is whole has no more
pub exact_after : (bytes more new : List ℕ) (k : ℕ) → front_of bytes ≡ Need k → new ≡ bytes ++ more → length new ≤ k
    → (n : ℕ) → front_of new ≡ Complete n → n ≤ length new → n ≡ length new
exact_after bytes more new k need is within n whole there =
    let least : k ≤ n = need_within bytes more k n need (ap front_of (sym is) ∙ whole) in omega arith

-- more of the piece is put behind
pub more_taken : (held piece bytes new : List ℕ) (taken more same : ℕ) → bytes ≡ held ++ take taken piece → same ≡ more → new ≡ bytes ++ take same (drop taken piece)
    → new ≡ held ++ take (taken + more) piece
more_taken held piece bytes new taken more same so_far is grown =
    grown ∙ ap (λ (k : ℕ). bytes ++ take k (drop taken piece)) is
    ∙ ap (λ (b : List ℕ). b ++ take more (drop taken piece)) so_far
    ∙ append_assoc held (take taken piece) (take more (drop taken piece))
    ∙ ap (λ (t : List ℕ). held ++ t) (sym (take-add taken more piece))

-- where no whole frame waits, something is taken
pub filled_some : (held piece new : List ℕ) (taken : ℕ) → Filled held piece (Ok taken) new → IsHeld held → IsShort (front_of held) → 0 < length piece → 0 < taken
filled_some held piece new taken (inl by) is_held short some = go (front_of (held ++ piece)) refl by where
  go : (f : Front) → front_of (held ++ piece) ≡ f → FilledBy held piece f (Ok taken) new → 0 < taken
  go (Complete n) e is =
      let count : taken ≡ n - length held = let h = is.0 in cc in
      let less = short_within held piece n is_held short e in omega arith
  go (Need n) e is = let count : taken ≡ length piece = let h = is.0 in cc in omega arith
  go (Fault f) e is = let h : ◌≡◌ {A = Result ℕ StreamError} (Ok taken) (Err (error.Fault f)) = is in cc
filled_some held piece new taken (inr none) is_held short some = let h : ◌≡◌ {A = Result ℕ StreamError} (Ok taken) (Err error.Memory) = none.0 in cc
