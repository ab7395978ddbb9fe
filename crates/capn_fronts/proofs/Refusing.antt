-- What begins with no frame.
use Rattle.std.proofs.Common.{◌≡◌, ℕ, ◌+◌, ◌-◌, ◌*◌, ◌≤◌, List, ◌++◌, length, take, drop, sum, Result, Ok, Err, refl, sym, ap, subst, ◌∙◌, append_assoc, arith, inl, inr, length-append}
use Rattle.std.proofs.lemmas.List.{length-take, take-append-drop}
use Rattle.std.proofs.lemmas.Bool.{cases_lt}
use Rattle.capn_trees.specs.declared.faults.PayloadFault.{PayloadFault}
use Rattle.capn_reading.specs.Framing.{segment_count, sizes, table_words}
use Rattle.capn_stream.specs.declared.error.StreamError.{StreamError}
use Rattle.capn_stream.specs.declared.error.StreamError.TheVariants as error
use Rattle.capn_stream.specs.declared.front.Front.{Front}
use Rattle.capn_stream.specs.declared.front.Front.TheVariants.{Complete, Need, Fault}
use Rattle.capn_fronts.specs.Parts.{Part, IsGrown, IsHeld, count_of, front_at, front_of}
use Rattle.capn_fronts.specs.Readers.{Pushed, PushedBy, TakesBy, added}
use Rattle.capn_fronts.specs.Laws.{IsNone, PiecesStand, Stands}
use Rattle.capn_fronts.proofs.Numbers as figures
use Rattle.capn_fronts.proofs.Grown.{count_stays, grown, sizes_stay}
use Rattle.capn_fronts.proofs.Runs.{pushed, stands_grown}

-- More bytes are there, and the numbers in the table are the same.
fault_by : (len n w len' n' w' : ℕ) (f : PayloadFault) → front_at len n w ≡ Fault f → len ≤ len' → n' ≡ n → (n ≤ 16 → 8 * table_words n ≤ len → w' ≡ w) → front_at len' n' w' ≡ Fault f
fault_by len n w len' n' w' f e more same_n same_w =
    let counts = figures.fault_counts len n w f e in
    let counts' : 4 ≤ len' = omega (arith, counts, more) in
    elim (cases_lt 16 n) [
      | inl many ↦ figures.is_many len' n' w' counts' (omega (arith, same_n, many)) ∙ ap Fault (sym (figures.fault_many len n w f e many))
      | inr few ↦
          let table = figures.fault_table len n w f e few in
          let words = figures.fault_words len n w f e few in
          let same : w' ≡ w = same_w few table in
          subst (λ (m : ℕ). front_at len' m w' ≡ Fault f) (sym same_n)
          (figures.is_large len' n w' counts' few (omega (arith, table, more)) (omega (arith, same, words)) ∙ ap Fault (sym (figures.fault_large len n w f e few)))
    ]

pub stays : (bytes more : List ℕ) (f : PayloadFault) → IsNone bytes f → IsNone (bytes ++ more) f
unfolding front_of
stays bytes more f none =
    let counts = figures.fault_counts (length bytes + 0) (segment_count bytes) (sum (sizes bytes)) f none in
    let longer : length bytes + 0 ≤ length (bytes ++ more) + 0 = omega (arith, length-append bytes more) in
    fault_by (length bytes + 0) (segment_count bytes) (sum (sizes bytes)) (length (bytes ++ more) + 0) (segment_count (bytes ++ more)) (sum (sizes (bytes ++ more))) f none longer
    (count_stays bytes more (omega (arith, counts)))
    (λ few table. ap sum (sizes_stay bytes more (omega (arith, few, table))))

-- A part that is at fault: so are the bytes for which it stands.
stood : (bytes : List ℕ) (p : Part) (f : PayloadFault) → Stands bytes p → IsGrown p → front_of p ≡ Fault f → IsNone bytes f
unfolding front_of
stood bytes p f (gone, is, count) grows fault =
    let counts = figures.fault_counts (count_of p) (segment_count p.kept) (sum (sizes p.kept)) f fault in
    let long : count_of p ≤ length (p.kept ++ gone) + 0 = omega (arith, length-append p.kept gone, count) in
    let first : 4 ≤ length p.kept = elim grows.table [
      | inl none ↦ omega (arith, counts, none)
      | inr table ↦ omega (arith, table)
    ] in
    let whole : (n : ℕ) → n ≤ 16 → 8 * table_words n ≤ count_of p → 4 + 4 * n ≤ length p.kept = λ n few there. elim grows.table [
      | inl none ↦ omega (arith, few, there, none)
      | inr table ↦ omega (arith, few, table)
    ] in
    subst (λ (b : List ℕ). IsNone b f) (sym is)
    (fault_by (count_of p) (segment_count p.kept) (sum (sizes p.kept)) (length (p.kept ++ gone) + 0) (segment_count (p.kept ++ gone)) (sum (sizes (p.kept ++ gone))) f fault long
    (count_stays p.kept gone first)
    (λ few there. ap sum (sizes_stay p.kept gone (whole (segment_count p.kept) few there))))

-- ---- a piece is refused

takes_fault : (f : Front) (count : ℕ) (grown new : Part) (e : PayloadFault) → TakesBy f count grown (Err (error.Fault e)) new → f ≡ Fault e
takes_fault (Complete n) count grown new e by = let k : ◌≡◌ {A = Result ℕ StreamError} (Err (error.Fault e)) (Ok count) = by.0 in cc
takes_fault (Need n) count grown new e by = let k : ◌≡◌ {A = Result ℕ StreamError} (Err (error.Fault e)) (Ok count) = by.0 in cc
takes_fault (Fault g) count grown new e by = let k : ◌≡◌ {A = Result ℕ StreamError} (Err (error.Fault e)) (Err (error.Fault g)) = by.0 in cc

refused_by : (bytes piece : List ℕ) (old new : Part) (e : PayloadFault) (f : Front) → front_of old ≡ f → Stands bytes old → IsHeld old → PushedBy f old piece (Err (error.Fault e)) new → IsNone (bytes ++ piece) e
refused_by bytes piece old new e (Complete n) is stands held by = let k : ◌≡◌ {A = Result ℕ StreamError} (Err (error.Fault e)) (Ok 0) = by.0 in cc
refused_by bytes piece old new e (Need n) is stands held by =
    let wanted = n - count_of old in
    let more = take wanted piece in
    let less : length more ≤ wanted = let t = length-take wanted piece in omega (arith, t) in
    let fault = takes_fault (front_of (added old more)) (length more) (added old more) new e by in
    let none = stood (bytes ++ more) (added old more) e (stands_grown bytes more old held stands) (grown old more n held is less) fault in
    subst (λ (b : List ℕ). IsNone b e) (append_assoc bytes more (drop wanted piece) ∙ ap (λ (b : List ℕ). bytes ++ b) (take-append-drop wanted piece)) (stays (bytes ++ more) (drop wanted piece) e none)
refused_by bytes piece old new e (Fault f) is stands held by = absurd by

refused : (bytes piece : List ℕ) (old new : Part) (e : PayloadFault) → Stands bytes old → IsHeld old → Pushed old piece (Err (error.Fault e)) new → IsNone (bytes ++ piece) e
refused bytes piece old new e stands held (inl by) = refused_by bytes piece old new e (front_of old) refl stands held by
refused bytes piece old new e stands held (inr none) = let k : ◌≡◌ {A = Result ℕ StreamError} (Err (error.Fault e)) (Err error.Memory) = none.0 in cc

pub pieces_stand : PiecesStand
pieces_stand = record {
  taken = λ bytes piece old new n stands held push. pushed bytes piece old new n (stands, held) push;
  refused = refused;
  stays = stays;
}
