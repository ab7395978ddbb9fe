-- What stands at the front stays as more bytes come.
use Rattle.std.proofs.Common.{◌≡◌, ℕ, zero, suc, ◌+◌, ◌*◌, ◌<◌, ◌≤◌, List, [], ◌∷◌, ◌++◌, length, take, drop, sum, refl, sym, ap, subst, ◌∙◌, arith, inl, inr, length-append}
use Rattle.std.proofs.lemmas.List.{drop-append-le, length-drop, length-take, take-append-drop}
use Rattle.std.proofs.lemmas.Bool.{cases_lt}
use Rattle.byteorder.specs.Endian.{little_number}
use Rattle.byteorder.specs.Numbers.{little_from-append}
use Rattle.capn_trees.specs.declared.faults.PayloadFault.{PayloadFault}
use Rattle.capn_reading.specs.Segments.{numbers, little_numbers}
use Rattle.capn_reading.specs.Framing.{segment_count, sizes, table_words}
use Rattle.capn_stream.specs.declared.front.Front.{Front}
use Rattle.capn_stream.specs.declared.front.Front.TheVariants.{Complete, Need, Fault}
use Rattle.capn_stream.specs.Fronts.{front_at, front_of, IsHeld, IsHeldAt, IsShort, IsFrame}
use Rattle.capn_stream.proofs.Numbers as numbers

count_stays : (a b : List ℕ) → 4 ≤ length a → segment_count (a ++ b) ≡ segment_count a
unfolding segment_count
count_stays a b there = ap (λ (n : ℕ). n + 1) (little_from-append 4 a b there)

numbers_stay : (n : ℕ) (a b : List ℕ) → 4 * n ≤ length a → numbers n (a ++ b) ≡ numbers n a
unfolding little_numbers
numbers_stay zero a b there = refl
numbers_stay (suc n) a b there =
    let first : 4 ≤ length a = omega arith in
    let rest : 4 * n ≤ length (drop 4 a) = omega (arith, length-drop 4 a) in
    ap (λ (x : ℕ). x ∷ numbers n (drop 4 (a ++ b))) (little_from-append 4 a b first)
    ∙ ap (λ (t : List ℕ). little_number 4 a ∷ numbers n t) (drop-append-le 4 a b first)
    ∙ ap (λ (t : List ℕ). little_number 4 a ∷ t) (numbers_stay n (drop 4 a) b rest)

sizes_stay : (a b : List ℕ) → 4 + 4 * segment_count a ≤ length a → sizes (a ++ b) ≡ sizes a
unfolding sizes
sizes_stay a b there =
    let first : 4 ≤ length a = omega arith in
    let rest : 4 * segment_count a ≤ length (drop 4 a) = omega (arith, length-drop 4 a) in
    ap (λ (n : ℕ). numbers n (drop 4 (a ++ b))) (count_stays a b first)
    ∙ ap (λ (t : List ℕ). numbers (segment_count a) t) (drop-append-le 4 a b first)
    ∙ numbers_stay (segment_count a) (drop 4 a) b rest

-- the same numbers at another length
front_with : (a b : List ℕ) → 4 + 4 * segment_count a ≤ length a → front_of (a ++ b) ≡ front_at (length (a ++ b)) (segment_count a) (sum (sizes a))
unfolding front_of
front_with a b there =
    let first : 4 ≤ length a = omega arith in
    ap (λ (n : ℕ). front_at (length (a ++ b)) n (sum (sizes (a ++ b)))) (count_stays a b first)
    ∙ ap (λ (ns : List ℕ). front_at (length (a ++ b)) (segment_count a) (sum ns)) (sizes_stay a b there)

table_holds : (n len : ℕ) → 8 * table_words n ≤ len → 4 + 4 * n ≤ len
table_holds n len there = omega arith

pub complete_stays : (a b : List ℕ) (n : ℕ) → front_of a ≡ Complete n → front_of (a ++ b) ≡ Complete n
unfolding front_of
complete_stays a b n e =
    let c = segment_count a in
    let w = sum (sizes a) in
    let table : 8 * table_words c ≤ length a = numbers.complete_table (length a) c w n e in
    let is : n ≡ 8 * (table_words c + w) = numbers.complete_is (length a) c w n e in
    let there : n ≤ length a = numbers.complete_there (length a) c w n e in
    let longer : length a ≤ length (a ++ b) = omega (arith, length-append a b) in
    let counts : 4 ≤ length (a ++ b) = omega (arith, numbers.complete_counts (length a) c w n e) in
    let fits : 8 * (table_words c + w) ≤ length (a ++ b) = omega arith in
    front_with a b (table_holds c (length a) table)
    ∙ numbers.is_complete (length (a ++ b)) c w n counts (numbers.complete_few (length a) c w n e) (numbers.complete_small (length a) c w n e) fits
    ∙ ap Complete (sym is)

pub fault_stays : (a b : List ℕ) (f : PayloadFault) → front_of a ≡ Fault f → front_of (a ++ b) ≡ Fault f
unfolding front_of
fault_stays a b f e =
    let c = segment_count a in
    let w = sum (sizes a) in
    let counts : 4 ≤ length a = numbers.fault_counts (length a) c w f e in
    let longer : length a ≤ length (a ++ b) = omega (arith, length-append a b) in
    elim (cases_lt 16 c) [
      | inl many ↦ ap (λ (n : ℕ). front_at (length (a ++ b)) n (sum (sizes (a ++ b)))) (count_stays a b counts)
          ∙ numbers.fault_many (length a) c w f (length (a ++ b)) (sum (sizes (a ++ b))) e many (omega arith)
      | inr few ↦ front_with a b (table_holds c (length a) (numbers.fault_table (length a) c w f e few))
          ∙ numbers.fault_few (length a) c w f (length (a ++ b)) e few longer
    ]

-- what is whole later has at least as many bytes as were wanted before
pub need_within : (a b : List ℕ) (k n : ℕ) → front_of a ≡ Need k → front_of (a ++ b) ≡ Complete n → k ≤ n
unfolding front_of
need_within a b k n e later =
    let c = segment_count a in
    let w = sum (sizes a) in
    let is : n ≡ 8 * (table_words (segment_count (a ++ b)) + sum (sizes (a ++ b))) = numbers.complete_is (length (a ++ b)) (segment_count (a ++ b)) (sum (sizes (a ++ b))) n later in
    elim (cases_lt (length a) 4) [
      | inl less ↦ let four : k ≡ 4 = numbers.need_first (length a) c w k e less in omega arith
      | inr counts ↦
          let same : segment_count (a ++ b) ≡ c = count_stays a b counts in
          let table : table_words (segment_count (a ++ b)) ≡ table_words c = ap table_words same in
          elim (cases_lt (length a) (8 * table_words c)) [
            | inl less ↦ let one : k ≡ 8 * table_words c = numbers.need_table (length a) c w k e counts less in omega arith
            | inr there ↦
                let one : k ≡ 8 * (table_words c + w) = numbers.need_whole (length a) c w k e counts there in
                let sum_same : sum (sizes (a ++ b)) ≡ w = ap sum (sizes_stay a b (table_holds c (length a) there)) in
                omega arith
          ]
    ]

-- a whole frame is one without what comes behind it
pub complete_alone : (a b : List ℕ) → front_of (a ++ b) ≡ Complete (length a) → front_of a ≡ Complete (length a)
unfolding front_of
complete_alone a b e =
    let l = length (a ++ b) in
    let c = segment_count (a ++ b) in
    let w = sum (sizes (a ++ b)) in
    let is : length a ≡ 8 * (table_words c + w) = numbers.complete_is l c w (length a) e in
    let counts : 4 ≤ length a = omega arith in
    let same : c ≡ segment_count a = count_stays a b counts in
    let table : 4 + 4 * segment_count a ≤ length a = let t = ap table_words same in let h = table_holds c (length a) (omega arith) in omega arith in
    let words : w ≡ sum (sizes a) = ap sum (sizes_stay a b table) in
    ap (λ (n : ℕ). front_at (length a) n (sum (sizes a))) (sym same)
    ∙ ap (λ (s : ℕ). front_at (length a) c s) (sym words)
    ∙ numbers.is_complete (length a) c w (length a) counts (numbers.complete_few l c w (length a) e) (numbers.complete_small l c w (length a) e) (omega arith)
    ∙ ap Complete (sym is)

pub need_more : (a : List ℕ) (k : ℕ) → front_of a ≡ Need k → length a < k
unfolding front_of
need_more a k e = numbers.need_more (length a) (segment_count a) (sum (sizes a)) k e

pub need_few : (a : List ℕ) (k : ℕ) → front_of a ≡ Need k → k ≤ 72 + 8 * 65536
unfolding front_of
need_few a k e = numbers.need_few (length a) (segment_count a) (sum (sizes a)) k e

pub complete_bound : (a : List ℕ) (n : ℕ) → front_of a ≡ Complete n → n ≤ 72 + 8 * 65536
unfolding front_of
complete_bound a n e =
    let c = segment_count a in
    let w = sum (sizes a) in
    let is : n ≡ 8 * (table_words c + w) = numbers.complete_is (length a) c w n e in
    let few : c ≤ 16 = numbers.complete_few (length a) c w n e in
    let small : w ≤ 65536 = numbers.complete_small (length a) c w n e in
    omega arith

pub complete_there : (a : List ℕ) (n : ℕ) → front_of a ≡ Complete n → n ≤ length a
unfolding front_of
complete_there a n e = numbers.complete_there (length a) (segment_count a) (sum (sizes a)) n e

pub held_none : IsHeld []
unfolding front_of
held_none = tt

pub held_complete : (a : List ℕ) (n : ℕ) → front_of a ≡ Complete n → n ≡ length a → IsHeld a
held_complete a n e is = subst (IsHeldAt (length a)) (sym e) is

pub held_need : (a : List ℕ) (n : ℕ) → front_of a ≡ Need n → IsHeld a
held_need a n e = subst (IsHeldAt (length a)) (sym e) tt

pub held_frame : (a : List ℕ) (n : ℕ) → IsHeld a → front_of a ≡ Complete n → n ≡ length a
held_frame a n held e = subst (IsHeldAt (length a)) e held

pub held_sound : (a : List ℕ) (f : PayloadFault) → IsHeld a → front_of a ≡ Fault f → ⊥
held_sound a f held e = subst (IsHeldAt (length a)) e held

pub is_frame : (a : List ℕ) (n : ℕ) → IsHeld a → front_of a ≡ Complete n → IsFrame a
is_frame a n held e = e ∙ ap Complete (held_frame a n held e)

pub held_few : (a : List ℕ) → IsHeld a → length a ≤ 72 + 8 * 65536
held_few a held = go (front_of a) refl where
  go : (f : Front) → front_of a ≡ f → length a ≤ 72 + 8 * 65536
  go (Complete n) e = let h = held_frame a n held e in let b = complete_bound a n e in omega arith
  go (Need n) e = let h = need_more a n e in let b = need_few a n e in omega arith
  go (Fault f) e = absurd (held_sound a f held e)

pub short_fewer : (a : List ℕ) → IsHeld a → IsShort (front_of a) → length a < 72 + 8 * 65536
short_fewer a held short = go (front_of a) refl where
  go : (f : Front) → front_of a ≡ f → length a < 72 + 8 * 65536
  go (Complete n) e = let s : ⊥ = subst IsShort e short in absurd s
  go (Need n) e = let h = need_more a n e in let b = need_few a n e in omega arith
  go (Fault f) e = absurd (held_sound a f held e)

-- the bytes up to the end of a frame are held
pub held_whole : (bytes : List ℕ) (n : ℕ) → front_of bytes ≡ Complete n → IsHeld (take n bytes)
held_whole bytes n e =
    let size : length (take n bytes) ≡ n = let there = complete_there bytes n e in omega (arith, length-take n bytes) in
    let parts : front_of (take n bytes ++ drop n bytes) ≡ Complete (length (take n bytes)) = ap front_of (take-append-drop n bytes) ∙ e ∙ ap Complete (sym size) in
    held_complete (take n bytes) (length (take n bytes)) (complete_alone (take n bytes) (drop n bytes) parts) refl

-- what waits and is not whole has fewer bytes than the frame that it becomes
pub short_within : (held piece : List ℕ) (n : ℕ) → IsHeld held → IsShort (front_of held) → front_of (held ++ piece) ≡ Complete n → length held < n
short_within held piece n is short later = go (front_of held) refl where
  go : (f : Front) → front_of held ≡ f → length held < n
  go (Complete m) e = let s : ⊥ = subst IsShort e short in absurd s
  go (Need k) e = let more = need_more held k e in let within = need_within held piece k n e later in omega arith
  go (Fault f) e = absurd (held_sound held f is e)
