-- The calls of a reader, one after the other.
use Rattle.std.proofs.Common.{◌≡◌, ℕ, ◌+◌, ◌-◌, ◌≤◌, List, [], ◌∷◌, ◌++◌, length, take, Option, Some, None, Result, Ok, Err, refl, sym, ap, subst, ◌∙◌, append_assoc, arith, inl, inr}
use Rattle.std.specs.List.{concat}
use Rattle.std.proofs.lemmas.List.{append-nil, take_all}
use Rattle.std.proofs.Math.Seq.{take-append-add}
use Rattle.capn_stream.specs.declared.error.StreamError.{StreamError}
use Rattle.capn_stream.specs.declared.front.Front.{Front}
use Rattle.capn_stream.specs.declared.front.Front.TheVariants.{Complete, Need, Fault}
use Rattle.capn_stream.specs.Fronts.{front_of, IsFrame, IsHeld, IsShort}
use Rattle.capn_stream.specs.Readers.{Reader, Pushed, PushedBy, Taken, TakenBy, IsWaiting}
use Rattle.capn_stream.specs.Streams.{IsSplit, Stands, Call, Push, Take, Reads, came, gave, taken_of}
use Rattle.capn_stream.proofs.Stable.{complete_stays, fault_stays, need_within, need_more, held_none, held_whole, held_need, held_frame, held_sound, is_frame}
use Rattle.capn_stream.proofs.Splits.{split_one}

-- what waits is not more than the frame that it becomes
held_within : (held piece : List ℕ) (n : ℕ) → IsHeld held → front_of (held ++ piece) ≡ Complete n → length held ≤ n
held_within held piece n is later = go (front_of held) refl where
  go : (f : Front) → front_of held ≡ f → length held ≤ n
  go (Complete m) e = let size = held_frame held m is e in let same : Complete m ≡ Complete n = sym (complete_stays held piece m e) ∙ later in let one : m ≡ n = cc in omega arith
  go (Need k) e = let more = need_more held k e in let within = need_within held piece k n e later in omega arith
  go (Fault f) e = absurd (held_sound held f is e)

filled_up : (held piece : List ℕ) (n : ℕ) → length held ≤ n → held ++ take (n - length held) piece ≡ take n (held ++ piece)
filled_up held piece n le =
    let sum : length held + (n - length held) ≡ n = omega arith in
    sym (take-append-add held piece (n - length held)) ∙ ap (λ (k : ℕ). take k (held ++ piece)) sum

pushed_by : (held piece : List ℕ) (f : Front) (result : Result ℕ StreamError) (new : Reader) → IsHeld held → front_of (held ++ piece) ≡ f
    → PushedBy held piece f result new → Stands (held ++ taken_of piece result) new
pushed_by held piece (Complete n) result new is e by =
    let fill = filled_up held piece n (held_within held piece n is e) in
    subst (λ (r : Result ℕ StreamError). Stands (held ++ taken_of piece r) new) (sym by.0) (subst (Stands (held ++ take (n - length held) piece)) (sym by.1) (fill, held_whole (held ++ piece) n e))
pushed_by held piece (Need n) result new is e by =
    let all : held ++ take (length piece) piece ≡ held ++ piece = ap (λ (t : List ℕ). held ++ t) (take_all (length piece) piece (omega arith)) in
    subst (λ (r : Result ℕ StreamError). Stands (held ++ taken_of piece r) new) (sym by.0) (subst (Stands (held ++ take (length piece) piece)) (sym by.1) (all, held_need (held ++ piece) n e))
pushed_by held piece (Fault f) result new is e by =
    subst (λ (r : Result ℕ StreamError). Stands (held ++ taken_of piece r) new) (sym by.0) (subst (Stands (held ++ piece)) (sym by.1) e)

pushed : (rest piece : List ℕ) (old new : Reader) (result : Result ℕ StreamError) → Stands rest old → Pushed old piece result new
    → Stands (rest ++ taken_of piece result) new
pushed rest piece (Err f) new result stands push =
    subst (λ (r : Result ℕ StreamError). Stands (rest ++ taken_of piece r) new) (sym push.0) (subst (Stands (rest ++ piece)) (sym push.1) (fault_stays rest piece f stands))
pushed rest piece (Ok held) new result stands (inl by) =
    subst (λ (r : List ℕ). Stands (r ++ taken_of piece result) new) (sym stands.0) (pushed_by held piece (front_of (held ++ piece)) result new stands.1 refl by)
pushed rest piece (Ok held) new result stands (inr none) =
    let same : rest ++ [] ≡ held = append-nil rest ∙ stands.0 in
    subst (λ (r : Result ℕ StreamError). Stands (rest ++ taken_of piece r) new) (sym none.0) (subst (Stands (rest ++ [])) (sym none.1) (same, stands.1))

-- no frame is given: the reader stays
none_given_by : (held : List ℕ) (f : Front) (new : Reader) → TakenBy held f None new → new ≡ Ok held
none_given_by held (Complete n) new by = let e : ◌≡◌ {A = Option (List ℕ)} None (Some held) = by.0 in cc
none_given_by held (Need n) new by = by.1
none_given_by held (Fault f) new by = by.1

none_given : (old new : Reader) → Taken old None new → new ≡ old
none_given (Err f) new take = take.1
none_given (Ok held) new take = none_given_by held (front_of held) new take

-- the frame that is given is what waited
given_by : (held frame : List ℕ) (f : Front) (new : Reader) → IsHeld held → front_of held ≡ f → TakenBy held f (Some frame) new
    → (frame ≡ held) × IsFrame held × (new ≡ Ok [])
given_by held frame (Complete n) new is e by = let same : frame ≡ held = let h = by.0 in cc in (same, is_frame held n is e, by.1)
given_by held frame (Need n) new is e by = let h : ◌≡◌ {A = Option (List ℕ)} (Some frame) None = by.0 in cc
given_by held frame (Fault f) new is e by = let h : ◌≡◌ {A = Option (List ℕ)} (Some frame) None = by.0 in cc

given : (rest frame : List ℕ) (old new : Reader) → Stands rest old → Taken old (Some frame) new
    → (rest ≡ frame) × IsFrame frame × (new ≡ Ok [])
given rest frame (Err f) new stands take = let h : ◌≡◌ {A = Option (List ℕ)} (Some frame) None = take.0 in cc
given rest frame (Ok held) new stands take =
    let by = given_by held frame (front_of held) new stands.1 refl take in
    (stands.0 ∙ sym by.0, subst IsFrame (sym by.0) by.1, by.2)

pub runs : (calls : List Call) (rest : List ℕ) (old new : Reader) → Stands rest old → Reads old calls new
    → (end : List ℕ) × IsSplit (rest ++ came calls) (gave calls) end × Stands end new
runs [] rest old new stands same = (rest, record { whole = tt; joined = append-nil rest }, subst (Stands rest) (sym same) stands)
runs (Push piece result ∷ calls) rest old new stands (mid, push, more) =
    let later = runs calls (rest ++ taken_of piece result) mid new (pushed rest piece old mid result stands push) more in
    (later.0, record { whole = later.1.whole; joined = sym (append_assoc rest (taken_of piece result) (came calls)) ∙ later.1.joined }, later.2)
runs (Take None ∷ calls) rest old new stands (mid, take, more) =
    runs calls rest mid new (subst (Stands rest) (sym (none_given old mid take)) stands) more
runs (Take (Some frame) ∷ calls) rest old new stands (mid, take, more) =
    let is = given rest frame old mid stands take in
    let later = runs calls [] mid new (subst (Stands []) (sym is.2) (refl, held_none)) more in
    (later.0, record { whole = (is.1, later.1.whole); joined = ap (λ (r : List ℕ). r ++ came calls) is.0 ∙ ap (λ (t : List ℕ). frame ++ t) later.1.joined ∙ sym (append_assoc frame (concat (gave calls)) later.0) }, later.2)

-- of what is left no frame is whole
short_rest : (rest : List ℕ) (new : Reader) → Stands rest new → IsWaiting new → IsShort (front_of rest)
short_rest rest (Ok held) stands waits = subst (λ (r : List ℕ). IsShort (front_of r)) (sym stands.0) waits
short_rest rest (Err f) stands waits = subst IsShort (sym stands) tt

-- what is left says what the reader is
stands_one : (rest : List ℕ) (new other : Reader) → Stands rest new → Stands rest other → new ≡ other
stands_one rest (Ok held) (Ok more) a b = ap Ok (sym a.0 ∙ b.0)
stands_one rest (Ok held) (Err f) a b = absurd (held_sound held f a.1 (ap front_of (sym a.0) ∙ b))
stands_one rest (Err f) (Ok held) a b = absurd (held_sound held f b.1 (ap front_of (sym b.0) ∙ a))
stands_one rest (Err f) (Err g) a b = let e : Fault f ≡ Fault g = sym a ∙ b in let same : f ≡ g = cc in ap Err same

pub pieces : (calls others : List Call) (new other : Reader) → Reads (Ok []) calls new → Reads (Ok []) others other
    → came calls ≡ came others → IsWaiting new → IsWaiting other → (gave calls ≡ gave others) × (new ≡ other)
pieces calls others new other reads more same waits waits_too =
    let one = runs calls [] (Ok []) new (refl, held_none) reads in
    let two = runs others [] (Ok []) other (refl, held_none) more in
    let is = split_one (gave calls) (gave others) one.0 two.0 one.1.whole two.1.whole (sym one.1.joined ∙ same ∙ two.1.joined) (short_rest one.0 new one.2 waits) (short_rest two.0 other two.2 waits_too) in
    (is.0, stands_one two.0 new other (subst (λ (r : List ℕ). Stands r new) is.1 one.2) two.2)
