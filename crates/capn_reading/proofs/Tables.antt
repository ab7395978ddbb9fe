-- One more number of the table, and one more segment.
use Rattle.std.proofs.Common.{◌≡◌, ℕ, suc, ◌+◌, ◌-◌, ◌*◌, ◌<◌, ◌≤◌, List, [], ◌∷◌, ◌++◌, length, take, drop, map, sum, set, sym, ap, ◌∙◌, append_assoc, arith, inl, inr}
use Rattle.std.proofs.lemmas.List.{append-nil, drop-drop, map_push, take_more_set, get_or-set_same, get_or-set_other}
use Rattle.std.proofs.lemmas.Bool.{cases_lt}
use Rattle.std.proofs.lemmas.List.Sums.{sum_by-cons}
use Rattle.byteorder.specs.Endian.{little_number}
use Rattle.capn_reading.specs.declared.span.Span.{Span}
use Rattle.capn_reading.specs.Segments.{words, numbers, little_numbers, segments_in}
use Rattle.capn_reading.specs.Index.{span_words, spanned, LieBetween}

pub numbers_next : (n k size : ℕ) (bytes : List ℕ) → k < n → size ≡ little_number 4 (drop (4 + 4 * k) bytes)
    → numbers (n - k) (drop (4 + 4 * k) bytes) ≡ size ∷ numbers (n - (k + 1)) (drop (4 + 4 * (k + 1)) bytes)
unfolding little_numbers
numbers_next n k size bytes lt is_size =
    let one : n - k ≡ suc (n - (k + 1)) = omega arith in
    let place : 4 + 4 * k + 4 ≡ 4 + 4 * (k + 1) = omega arith in
    let moved : drop 4 (drop (4 + 4 * k) bytes) ≡ drop (4 + 4 * (k + 1)) bytes = drop-drop 4 (4 + 4 * k) bytes ∙ ap (λ (i : ℕ). drop i bytes) place in
    ap (λ (m : ℕ). numbers m (drop (4 + 4 * k) bytes)) one
    ∙ ap (λ (x : ℕ). x ∷ numbers (n - (k + 1)) (drop 4 (drop (4 + 4 * k) bytes))) (sym is_size)
    ∙ ap (λ (rest : List ℕ). size ∷ numbers (n - (k + 1)) rest) moved

pub numbers_none : (n k : ℕ) (bytes : List ℕ) → n ≤ k → numbers (n - k) bytes ≡ []
unfolding little_numbers
numbers_none n k bytes le = let none : n - k ≡ 0 = omega arith in ap (λ (m : ℕ). numbers m bytes) none

pub segments_next : (size start : ℕ) (ns bytes : List ℕ)
    → segments_in (size ∷ ns) (drop (8 * start) bytes) ≡ words size (drop (8 * start) bytes) ∷ segments_in ns (drop (8 * (start + size)) bytes)
unfolding segments_in
segments_next size start ns bytes =
    let e : 8 * start + 8 * size ≡ 8 * (start + size) = omega arith in
    ap (λ (rest : List ℕ). words size (drop (8 * start) bytes) ∷ segments_in ns rest) (drop-drop (8 * size) (8 * start) bytes ∙ ap (λ (i : ℕ). drop i bytes) e)

pub spanned_next : (bytes : List ℕ) (k : ℕ) (spans : List Span) (span : Span) → k < length spans
    → spanned bytes (k + 1) (set spans k span) ≡ spanned bytes k spans ++ span_words bytes span ∷ []
spanned_next bytes k spans span lt = ap (map (span_words bytes)) (take_more_set spans k span lt) ∙ map_push (span_words bytes) (take k spans) span

pub LieBetween_next : (first k last next : ℕ) (spans : List Span) (span : Span) → k < length spans → last ≤ next → first ≤ span.start → span.start + span.size ≤ next
    → LieBetween first last k spans → LieBetween first next (k + 1) (set spans k span)
LieBetween_next first k last next spans span lt le begins ends before j d below =
    elim (cases_lt j k) [
      | inl less ↦ let other : j ≡ k → ⊥ = λ e. omega arith in rw (get_or-set_other spans k j span d other) (let h = before j d less in (h.0, omega (arith, h.1, le)))
      | inr more ↦ let same : j ≡ k = omega arith in rw same (rw (get_or-set_same spans k span d lt) (begins, ends))
    ]

-- what the table says from its number i on
abbrev pub rest_of : List ℕ → ℕ → ℕ → List ℕ
rest_of bytes n i = numbers (n - i) (drop (4 + 4 * i) bytes)

module _ (bytes : List ℕ) (n k start size : ℕ) (spans : List Span) where
  pub segments_more : (total : List (List ℕ)) → k < n → k < length spans → size ≡ little_number 4 (drop (4 + 4 * k) bytes)
      → spanned bytes k spans ++ segments_in (rest_of bytes n k) (drop (8 * start) bytes) ≡ total
      → spanned bytes (k + 1) (set spans k (record { start = start; size = size })) ++ segments_in (rest_of bytes n (k + 1)) (drop (8 * (start + size)) bytes) ≡ total
  segments_more total lt room is_size so_far =
      let more = segments_in (rest_of bytes n (k + 1)) (drop (8 * (start + size)) bytes) in
      ap (λ (front : List (List ℕ)). front ++ more) (spanned_next bytes k spans (record { start = start; size = size }) room)
      ∙ append_assoc (spanned bytes k spans) (words size (drop (8 * start) bytes) ∷ []) more
      ∙ sym (ap (λ (ns : List ℕ). spanned bytes k spans ++ segments_in ns (drop (8 * start) bytes)) (numbers_next n k size bytes lt is_size)
      ∙ ap (λ (ms : List (List ℕ)). spanned bytes k spans ++ ms) (segments_next size start (rest_of bytes n (k + 1)) bytes))
      ∙ so_far

  pub end_more : (total : ℕ) → k < n → size ≡ little_number 4 (drop (4 + 4 * k) bytes)
      → start + sum (rest_of bytes n k) ≡ total → start + size + sum (rest_of bytes n (k + 1)) ≡ total
  end_more total lt is_size so_far =
      let e : sum (numbers (n - k) (drop (4 + 4 * k) bytes)) ≡ size + sum (numbers (n - (k + 1)) (drop (4 + 4 * (k + 1)) bytes)) = ap sum (numbers_next n k size bytes lt is_size) ∙ sum_by-cons (λ (x : ℕ). x) size (numbers (n - (k + 1)) (drop (4 + 4 * (k + 1)) bytes)) in
      omega arith

  pub segments_done : (total : List (List ℕ)) → n ≤ k → k ≤ n → spanned bytes k spans ++ segments_in (rest_of bytes n k) (drop (8 * start) bytes) ≡ total → spanned bytes n spans ≡ total
  unfolding segments_in
  segments_done total le ge so_far =
      let same : n ≡ k = omega arith in
      ap (λ (i : ℕ). spanned bytes i spans) same
      ∙ sym (append-nil (spanned bytes k spans))
      ∙ sym (ap (λ (ns : List ℕ). spanned bytes k spans ++ segments_in ns (drop (8 * start) bytes)) (numbers_none n k (drop (4 + 4 * k) bytes) le))
      ∙ so_far

  pub end_done : (total : ℕ) → n ≤ k → start + sum (rest_of bytes n k) ≡ total → start ≡ total
  end_done total le so_far =
      let e : sum (numbers (n - k) (drop (4 + 4 * k) bytes)) ≡ 0 = ap sum (numbers_none n k (drop (4 + 4 * k) bytes) le) in
      omega arith
