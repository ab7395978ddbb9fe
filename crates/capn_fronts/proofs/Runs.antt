-- The calls of a reader, one after the other.
use Rattle.std.proofs.Common.{◌≡◌, ℕ, ◌-◌, ◌≤◌, List, [], ◌∷◌, ◌++◌, length, take, drop, Option, Some, None, Result, Ok, Err, refl, sym, ap, subst, ◌∙◌, append_assoc, arith, inl, inr, length-append}
use Rattle.std.specs.List.{concat}
use Rattle.std.proofs.lemmas.List.{append-nil, length-drop, length-take, take_all, take-append-drop}
use Rattle.std.proofs.lemmas.Bool.{cases_lt}
use Rattle.capn_trees.specs.declared.faults.PayloadFault.{PayloadFault}
use Rattle.capn_stream.specs.declared.error.StreamError.{StreamError}
use Rattle.capn_stream.specs.declared.error.StreamError.TheVariants as error
use Rattle.capn_stream.specs.declared.front.Front.{Front}
use Rattle.capn_stream.specs.declared.front.Front.TheVariants.{Complete, Need, Fault}
use Rattle.capn_fronts.specs.Parts.{Part, IsHeld, count_of, front_of, keeps_of, nothing}
use Rattle.capn_fronts.specs.Readers.{GivenBy, Pushed, PushedBy, TakesBy, added}
use Rattle.capn_fronts.specs.Laws.{AreKept, Call, IsKept, Reads, Stands, came, gave}
use Rattle.capn_fronts.specs.Laws.Call.{Push, Refused, Take}
use Rattle.capn_fronts.proofs.Held.{held_whole, nothing_held}
use Rattle.capn_fronts.proofs.Grown.{grown, grown_held}

-- ---- more bytes come

none_gone : (gone : List ℕ) → length gone ≡ 0 → gone ≡ []
none_gone [] none = refl
none_gone (b ∷ gone) none = absurd (omega (arith, none))

-- nothing was dropped: what is kept stands at the front
first_kept : (kept gone more : List ℕ) (room : ℕ) → gone ≡ [] → (kept ++ gone) ++ more ≡ (kept ++ take room more) ++ (gone ++ drop room more)
first_kept kept gone more room none =
    ap (λ (g : List ℕ). (kept ++ g) ++ more) none
    ∙ ap (λ (t : List ℕ). t ++ more) (append-nil kept)
    ∙ ap (λ (t : List ℕ). kept ++ t) (sym (take-append-drop room more))
    ∙ sym (append_assoc kept (take room more) (drop room more))
    ∙ ap (λ (g : List ℕ). (kept ++ take room more) ++ (g ++ drop room more)) (sym none)

-- no more is kept
all_dropped : (kept gone more : List ℕ) (room : ℕ) → room ≡ 0 → (kept ++ gone) ++ more ≡ (kept ++ take room more) ++ (gone ++ drop room more)
all_dropped kept gone more room none =
    append_assoc kept gone more
    ∙ ap (λ (t : List ℕ). t ++ (gone ++ more)) (sym (append-nil kept))
    ∙ ap (λ (r : ℕ). (kept ++ take r more) ++ (gone ++ drop r more)) (sym none)

pub stands_grown : (rest more : List ℕ) (p : Part) → IsHeld p → Stands rest p → Stands (rest ++ more) (added p more)
stands_grown rest more p held (gone, is, count) =
    let room = keeps_of p - length p.kept in
    let parts : (p.kept ++ gone) ++ more ≡ (p.kept ++ take room more) ++ (gone ++ drop room more) =
    elim held.full [
      | inl none ↦ first_kept p.kept gone more room (none_gone gone (count ∙ none))
      | inr full ↦ all_dropped p.kept gone more room (omega (arith, full))
    ] in
    (gone ++ drop room more, ap (λ (t : List ℕ). t ++ more) is ∙ parts, length-append gone (drop room more) ∙ (let d = length-drop room more in omega (arith, d, count)))

same_taken : (m : ℕ) (piece : List ℕ) → take (length (take m piece)) piece ≡ take m piece
same_taken m piece = elim (cases_lt (length piece) m) [
  | inl less ↦ take_all (length (take m piece)) piece (let t = length-take m piece in omega (arith, t, less)) ∙ sym (take_all m piece (omega (arith, less)))
  | inr within ↦ ap (λ (k : ℕ). take k piece) (let t = length-take m piece in omega (arith, t, within))
]

-- what is held and stands for the bytes
abbrev Stood : List ℕ → Part → Type 0
Stood rest p = Stands rest p × IsHeld p

taken_by : (rest more : List ℕ) (old new : Part) (taken : ℕ) (k : ℕ) (f : Front) → front_of (added old more) ≡ f → Stood rest old → front_of old ≡ Need k → length more ≤ k - count_of old
    → TakesBy f (length more) (added old more) (Ok taken) new → (taken ≡ length more) × Stood (rest ++ more) new
taken_by rest more old new taken k (Complete n) is stood need less by =
    let count : taken ≡ length more = let e = by.0 in cc in
    let sound : (g : PayloadFault) → front_of (added old more) ≡ Fault g → ⊥ = λ g fault. let e : Complete n ≡ Fault g = sym is ∙ fault in cc in
    (count, subst (Stood (rest ++ more)) (sym by.1) (stands_grown rest more old stood.1 stood.0, grown_held (added old more) (grown old more k stood.1 need less) sound))
taken_by rest more old new taken k (Need n) is stood need less by =
    let count : taken ≡ length more = let e = by.0 in cc in
    let sound : (g : PayloadFault) → front_of (added old more) ≡ Fault g → ⊥ = λ g fault. let e : Need n ≡ Fault g = sym is ∙ fault in cc in
    (count, subst (Stood (rest ++ more)) (sym by.1) (stands_grown rest more old stood.1 stood.0, grown_held (added old more) (grown old more k stood.1 need less) sound))
taken_by rest more old new taken k (Fault f) is stood need less by =
    let e : ◌≡◌ {A = Result ℕ StreamError} (Ok taken) (Err (error.Fault f)) = by.0 in cc

pushed_by : (rest piece : List ℕ) (old new : Part) (taken : ℕ) (f : Front) → front_of old ≡ f → Stood rest old → PushedBy f old piece (Ok taken) new → Stood (rest ++ take taken piece) new
pushed_by rest piece old new taken (Complete n) is stood by =
    let none : taken ≡ 0 = let e = by.0 in cc in
    let same : rest ++ take taken piece ≡ rest = ap (λ (k : ℕ). rest ++ take k piece) none ∙ append-nil rest in
    subst (λ (r : List ℕ). Stood r new) (sym same) (subst (Stood rest) (sym by.1) stood)
pushed_by rest piece old new taken (Need n) is stood by =
    let more = take (n - count_of old) piece in
    let less : length more ≤ n - count_of old = let t = length-take (n - count_of old) piece in omega (arith, t) in
    let took = taken_by rest more old new taken n (front_of (added old more)) refl stood is less by in
    let same : take taken piece ≡ more = ap (λ (k : ℕ). take k piece) took.0 ∙ same_taken (n - count_of old) piece in
    subst (λ (t : List ℕ). Stood (rest ++ t) new) (sym same) took.1
pushed_by rest piece old new taken (Fault f) is stood by = absurd by

pub pushed : (rest piece : List ℕ) (old new : Part) (taken : ℕ) → Stood rest old → Pushed old piece (Ok taken) new → Stood (rest ++ take taken piece) new
pushed rest piece old new taken stood (inl by) = pushed_by rest piece old new taken (front_of old) refl stood by
pushed rest piece old new taken stood (inr none) = let e : ◌≡◌ {A = Result ℕ StreamError} (Ok taken) (Err error.Memory) = none.0 in cc

-- ---- memory is wanting

refused_at : (more : List ℕ) (grown new : Part) (f : Front) (count : ℕ) → TakesBy f count grown (Err error.Memory) new → ⊥
refused_at more grown new (Complete n) count by = let e : ◌≡◌ {A = Result ℕ StreamError} (Err error.Memory) (Ok count) = by.0 in cc
refused_at more grown new (Need n) count by = let e : ◌≡◌ {A = Result ℕ StreamError} (Err error.Memory) (Ok count) = by.0 in cc
refused_at more grown new (Fault f) count by = let e : ◌≡◌ {A = Result ℕ StreamError} (Err error.Memory) (Err (error.Fault f)) = by.0 in cc

refused_by : (piece : List ℕ) (old new : Part) (f : Front) → PushedBy f old piece (Err error.Memory) new → ⊥
refused_by piece old new (Complete n) by = let e : ◌≡◌ {A = Result ℕ StreamError} (Err error.Memory) (Ok 0) = by.0 in cc
refused_by piece old new (Need n) by =
    let more = take (n - count_of old) piece in
    refused_at more (added old more) new (front_of (added old more)) (length more) by
refused_by piece old new (Fault f) by = by

refused : (piece : List ℕ) (old new : Part) → Pushed old piece (Err error.Memory) new → new ≡ old
refused piece old new (inl by) = absurd (refused_by piece old new (front_of old) by)
refused piece old new (inr none) = none.1

-- ---- a frame is given

none_given_by : (old new : Part) (f : Front) → GivenBy f old None new → new ≡ old
none_given_by old new (Complete n) by = let e : ◌≡◌ {A = Option Part} None (Some old) = by.0 in cc
none_given_by old new (Need n) by = by.1
none_given_by old new (Fault f) by = absurd by

given_by : (rest : List ℕ) (old new frame : Part) (f : Front) → front_of old ≡ f → Stood rest old → GivenBy f old (Some frame) new → IsKept rest frame × (new ≡ nothing)
given_by rest old new frame (Complete n) is stood by =
    let same : frame ≡ old = let e = by.0 in cc in
    (subst (IsKept rest) (sym same) (stood.0, held_whole old n stood.1 is), by.1)
given_by rest old new frame (Need n) is stood by = let e : ◌≡◌ {A = Option Part} (Some frame) None = by.0 in cc
given_by rest old new frame (Fault f) is stood by = absurd by

abbrev Ends : List ℕ → List Part → Part → Type 0
Ends bytes kept new = (frames : List (List ℕ)) × (rest : List ℕ) × (bytes ≡ concat frames ++ rest) × AreKept frames kept × Stands rest new

pub runs : (calls : List Call) (rest : List ℕ) (old new : Part) → Stood rest old → Reads old calls new → Ends (rest ++ came calls) (gave calls) new
runs [] rest old new stood same = ([], rest, append-nil rest, tt, subst (Stands rest) (sym same) stood.0)
runs (Push piece taken ∷ calls) rest old new stood (mid, push, more) =
    subst (λ (b : List ℕ). Ends b (gave calls) new) (append_assoc rest (take taken piece) (came calls)) (runs calls (rest ++ take taken piece) mid new (pushed rest piece old mid taken stood push) more)
runs (Refused piece ∷ calls) rest old new stood (mid, push, more) =
    runs calls rest mid new (subst (Stood rest) (sym (refused piece old mid push)) stood) more
runs (Take None ∷ calls) rest old new stood (mid, given, more) =
    runs calls rest mid new (subst (Stood rest) (sym (none_given_by old mid (front_of old) given)) stood) more
runs (Take (Some frame) ∷ calls) rest old new stood (mid, given, more) =
    let is = given_by rest old mid frame (front_of old) refl stood given in
    let later = runs calls [] mid new (subst (Stood []) (sym is.1) (([], refl, refl), nothing_held)) more in
    (rest ∷ later.0, later.1, ap (λ (t : List ℕ). rest ++ t) later.2 ∙ sym (append_assoc rest (concat later.0) later.1), (is.0, later.3), later.4)
