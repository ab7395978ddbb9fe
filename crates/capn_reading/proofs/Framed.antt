-- Bytes are framed exactly where the checks of the framing pass.
use Rattle.std.proofs.Common.{◌≡◌, ℕ, zero, suc, ◌+◌, ◌-◌, ◌*◌, ◌%◌, ◌^◌, ◌<◌, ◌≤◌, Bool, true, false, cond, eqb, ltb, not, ◌||◌, List, [], ◌∷◌, ◌++◌, length, take, drop, take-add, map, sum, get_or, Result, Ok, Err, refl, sym, ap, subst, ◌∙◌, append_assoc, arith, inl, inr}
use Rattle.std.specs.List.{flat_map, AllByRecursion}
use Rattle.std.specs.Int.{w32, w64, from_le_bytes}
use Rattle.std.proofs.lemmas.Nat.{le_bytes_4, le_bytes_8}
use Rattle.std.proofs.lemmas.List.{append-nil, drop_at, drop-drop, take-append-drop, length-append, length-map, length-take, length-drop, get_or-drop, get_or-take, get_or_past, take_all}
use Rattle.std.proofs.lemmas.List.Concat.{flat_map-cons}
use Rattle.std.proofs.lemmas.List.Sums.{sum_by-cons}
use Rattle.std.proofs.lemmas.Bool.{cases_lt, le-ltb, ltb-false, eqb-true, eqb-false}
use Rattle.byteorder.specs.Endian.{little_number, little_bytes}
use Rattle.byteorder.specs.Numbers.{little_number-reads_back, length-bytes_low_first, little_from-lt, little_from-append}
use Rattle.capn_trees.specs.declared.faults.PayloadFault.{PayloadFault}
use Rattle.capn_trees.specs.declared.faults.PayloadFault.TheVariants.{Short, TooManySegments, TooLarge, Trailing}
use Rattle.capn_reading.specs.Segments.{words, numbers, little_numbers, segments_in}
use Rattle.capn_trees.specs.Limits.{most_words}
use Rattle.capn_reading.specs.Framing.{segment_count, sizes, table_words, is_padded, framed_as, framing, body_of, padding_of, IsFramed}

abbrev done : List (List ℕ) → Result (List (List ℕ)) PayloadFault
done m = Ok m

done_is : (a b : List (List ℕ)) → done a ≡ done b → a ≡ b
done_is a b e = cc

abbrev pub IsBytes : List ℕ → Type 0
IsBytes bytes = (i : ℕ) → get_or bytes i 0 < 256

IsBytes-drop : (n : ℕ) (bytes : List ℕ) → IsBytes bytes → IsBytes (drop n bytes)
IsBytes-drop n bytes fits i = rw get_or-drop (fits (n + i))

IsBytes-take : (n : ℕ) (bytes : List ℕ) → IsBytes bytes → IsBytes (take n bytes)
IsBytes-take n bytes fits i =
    elim (cases_lt i n) [
      | inl lt ↦ rw (get_or-take n bytes i 0 lt) (fits i)
      | inr le ↦ rw (get_or_past (take n bytes) i 0 (omega (arith, length-take n bytes))) (omega arith)
    ]

-- numbers that were written are read again
pub numbers_again : (w : ℕ) (ns rest : List ℕ) → AllByRecursion (λ n. n < 256 ^ w) ns → little_numbers w (length ns) (flat_map (little_bytes w) ns ++ rest) ≡ ns
unfolding little_numbers
numbers_again w [] rest fits = refl
numbers_again w (n ∷ ns) rest fits =
    let behind = flat_map (little_bytes w) ns ++ rest in
    let regrouped : flat_map (little_bytes w) (n ∷ ns) ++ rest ≡ little_bytes w n ++ behind = ap (λ (x : List ℕ). x ++ rest) (flat_map-cons (little_bytes w) n ns) ∙ append_assoc (little_bytes w n) (flat_map (little_bytes w) ns) rest in
    ap (little_numbers w (suc (length ns))) regrouped
    ∙ ap (λ (x : ℕ). x ∷ little_numbers w (length ns) (drop w (little_bytes w n ++ behind))) (little_number-reads_back w n behind fits.0)
    ∙ ap (λ (t : List ℕ). n ∷ little_numbers w (length ns) t) (drop_at (little_bytes w n) behind w (length-bytes_low_first 0 w n))
    ∙ ap (λ (l : List ℕ). n ∷ l) (numbers_again w ns rest fits.1)

pub length-written : (w : ℕ) (ns : List ℕ) → length (flat_map (little_bytes w) ns) ≡ w * length ns
length-written w [] = omega arith
length-written w (n ∷ ns) =
    ap length (flat_map-cons (little_bytes w) n ns) ∙ length-append (little_bytes w n) (flat_map (little_bytes w) ns)
    ∙ (let a = length-bytes_low_first 0 w n in let b = length-written w ns in omega arith)

length-body : (m : List (List ℕ)) → length (body_of m) ≡ 8 * sum (map length m)
length-body [] = refl
length-body (s ∷ m) =
    ap length (flat_map-cons (λ (x : List ℕ). flat_map (little_bytes 8) x) s m) ∙ length-append (flat_map (little_bytes 8) s) (body_of m)
    ∙ (let a = length-written 8 s in let b = length-body m in let c = sum_by-cons (λ (x : ℕ). x) (length s) (map length m) in omega arith)

segments_again : (m : List (List ℕ)) (rest : List ℕ) → AllByRecursion (AllByRecursion (λ w. w < 2 ^ 64)) m → segments_in (map length m) (body_of m ++ rest) ≡ m
unfolding segments_in
segments_again [] rest fits = refl
segments_again (s ∷ m) rest fits =
    let first = flat_map (little_bytes 8) s in
    let behind = body_of m ++ rest in
    let regrouped : body_of (s ∷ m) ++ rest ≡ first ++ behind = ap (λ (x : List ℕ). x ++ rest) (flat_map-cons (λ (x : List ℕ). flat_map (little_bytes 8) x) s m) ∙ append_assoc first (body_of m) rest in
    ap (segments_in (length s ∷ map length m)) regrouped
    ∙ ap (λ (x : List ℕ). x ∷ segments_in (map length m) (drop (8 * length s) (first ++ behind))) (numbers_again 8 s behind fits.0)
    ∙ ap (λ (t : List ℕ). s ∷ segments_in (map length m) t) (drop_at first behind (8 * length s) (length-written 8 s))
    ∙ ap (λ (l : List (List ℕ)). s ∷ l) (segments_again m rest fits.1)

sizes_fit : (m : List (List ℕ)) (most : ℕ) → sum (map length m) ≤ most → most < 2 ^ 32 → AllByRecursion (λ n. n < 256 ^ 4) (map length m)
sizes_fit [] most le lt = tt
sizes_fit (s ∷ m) most le lt =
    let c = sum_by-cons (λ (x : ℕ). x) (length s) (map length m) in
    (omega arith, sizes_fit m most (omega arith) lt)

length-padding : (n : ℕ) → 4 + 4 * n + length (padding_of n) ≡ 8 * table_words n
length-padding n = cases (eqb (n % 2) 0) refl
  where
    cases : (b : Bool) → eqb (n % 2) 0 ≡ b → 4 + 4 * n + length {A = ℕ} (cond b (0 ∷ 0 ∷ 0 ∷ 0 ∷ []) []) ≡ 8 * table_words n
    cases true e = let even = eqb-true (n % 2) 0 e in omega arith
    cases false e = let odd = eqb-false (n % 2) 0 e in omega arith

padded_again : (n : ℕ) (bytes rest : List ℕ) → drop (4 + 4 * n) bytes ≡ padding_of n ++ rest → is_padded n bytes ≡ true
padded_again n bytes rest behind = cases (eqb (n % 2) 0) behind
  where
    cases : (b : Bool) → drop (4 + 4 * n) bytes ≡ cond b (0 ∷ 0 ∷ 0 ∷ 0 ∷ []) [] ++ rest → cond b (eqb (little_number 4 (drop (4 + 4 * n) bytes)) 0) true ≡ true
    cases true e = ap (λ (x : List ℕ). eqb (little_number 4 x) 0) e
    cases false e = refl

module _ (bytes : List ℕ) (m : List (List ℕ)) (framed : IsFramed bytes m) where
  counted : segment_count bytes ≡ length m
  unfolding segment_count
  counted =
      let some = framed.some in
      let few = framed.few in
      let read : little_number 4 bytes ≡ length m - 1 = ap (little_number 4) framed.whole ∙ little_number-reads_back 4 (length m - 1) (flat_map (little_bytes 4) (map length m) ++ (padding_of (length m) ++ body_of m)) (omega arith) in
      omega arith

  behind_count : drop 4 bytes ≡ flat_map (little_bytes 4) (map length m) ++ (padding_of (length m) ++ body_of m)
  behind_count = ap (drop 4) framed.whole ∙ drop_at (little_bytes 4 (length m - 1)) (flat_map (little_bytes 4) (map length m) ++ (padding_of (length m) ++ body_of m)) 4 (length-bytes_low_first 0 4 (length m - 1))

  sizes_length : length (map length m) ≡ length m
  sizes_length = simp length-map

  table_length : length (flat_map (little_bytes 4) (map length m)) ≡ 4 * length m
  table_length = length-written 4 (map length m) ∙ ap (λ (n : ℕ). 4 * n) sizes_length

  sized : sizes bytes ≡ map length m
  unfolding sizes
  sized =
      rw (counted, behind_count)
      (ap (λ (n : ℕ). numbers n (flat_map (little_bytes 4) (map length m) ++ (padding_of (length m) ++ body_of m))) (sym sizes_length)
      ∙ numbers_again 4 (map length m) (padding_of (length m) ++ body_of m) (sizes_fit m most_words framed.small (omega arith)))

  behind_table : drop (4 + 4 * length m) bytes ≡ padding_of (length m) ++ body_of m
  behind_table = sym (drop-drop (4 * length m) 4 bytes) ∙ ap (drop (4 * length m)) behind_count ∙ drop_at (flat_map (little_bytes 4) (map length m)) (padding_of (length m) ++ body_of m) (4 * length m) table_length

  behind_padding : drop (8 * table_words (length m)) bytes ≡ body_of m
  behind_padding =
      let pad = length-padding (length m) in
      ap (λ (k : ℕ). drop k bytes) (sym pad) ∙ sym (drop-drop (length (padding_of (length m))) (4 + 4 * length m) bytes)
      ∙ ap (drop (length (padding_of (length m)))) behind_table ∙ drop_at (padding_of (length m)) (body_of m) (length (padding_of (length m))) refl

  whole_length : length bytes ≡ 8 * (table_words (length m) + sum (map length m))
  whole_length =
      let a = length-bytes_low_first 0 4 (length m - 1) in
      let b = table_length in
      let c = length-padding (length m) in
      let d = length-body m in
      ap length framed.whole ∙ length-append (little_bytes 4 (length m - 1)) (flat_map (little_bytes 4) (map length m) ++ (padding_of (length m) ++ body_of m))
      ∙ (let e = length-append (flat_map (little_bytes 4) (map length m)) (padding_of (length m) ++ body_of m) in
      let f = length-append (padding_of (length m)) (body_of m) in omega arith)

  framed_as_again : framed_as most_words (length m) (map length m) bytes ≡ Ok m
  framed_as_again =
      let small : ltb most_words (sum (map length m)) ≡ false = le-ltb _ _ framed.small in
      let long : ltb (length bytes) (8 * (table_words (length m) + sum (map length m))) ≡ false = le-ltb _ _ (omega (arith, whole_length)) in
      let short : ltb (8 * (table_words (length m) + sum (map length m))) (length bytes) ≡ false = le-ltb _ _ (omega (arith, whole_length)) in
      let padded = padded_again (length m) bytes (body_of m) behind_table in
      rw (small, long, short, padded, behind_padding) (ap done (ap (segments_in (map length m)) (sym (append-nil (body_of m))) ∙ segments_again m [] framed.words))

  -- what is framed passes the checks
  pub framed_again : framing bytes ≡ Ok m
  unfolding framing
  framed_again =
      let some = framed.some in
      let one : ltb (length bytes) 4 ≡ false = le-ltb _ _ (omega (arith, whole_length)) in
      let few : ltb 16 (length m) ≡ false = le-ltb _ _ framed.few in
      let table : ltb (length bytes) (8 * table_words (length m)) ≡ false = le-ltb _ _ (omega (arith, whole_length)) in
      rw (counted, sized, one, few, table) framed_as_again

-- a number that was read is written with the same bytes
spelled_4 : (bytes : List ℕ) → IsBytes bytes → 4 ≤ length bytes → little_bytes 4 (little_number 4 bytes) ≡ take 4 bytes
spelled_4 bytes fits le =
    let four : length (take 4 bytes) ≡ 4 = omega (arith, length-take 4 bytes) in
    let split : little_number 4 (take 4 bytes) ≡ little_number 4 bytes = sym (little_from-append 4 (take 4 bytes) (drop 4 bytes) (omega arith)) ∙ ap (little_number 4) (take-append-drop 4 bytes) in
    let same : little_number 4 (take 4 bytes) ≡ from_le_bytes w32 (take 4 bytes) = omega arith in
    le_bytes_4 (take 4 bytes) (little_number 4 bytes) four (IsBytes-take 4 bytes fits) (sym split ∙ same)

spelled_8 : (bytes : List ℕ) → IsBytes bytes → 8 ≤ length bytes → little_bytes 8 (little_number 8 bytes) ≡ take 8 bytes
spelled_8 bytes fits le =
    let eight : length (take 8 bytes) ≡ 8 = omega (arith, length-take 8 bytes) in
    let split : little_number 8 (take 8 bytes) ≡ little_number 8 bytes = sym (little_from-append 8 (take 8 bytes) (drop 8 bytes) (omega arith)) ∙ ap (little_number 8) (take-append-drop 8 bytes) in
    let same : little_number 8 (take 8 bytes) ≡ from_le_bytes w64 (take 8 bytes) = omega arith in
    le_bytes_8 (take 8 bytes) (little_number 8 bytes) eight (IsBytes-take 8 bytes fits) (sym split ∙ same)

length-numbers : (w n : ℕ) (bytes : List ℕ) → length (little_numbers w n bytes) ≡ n
unfolding little_numbers
length-numbers w zero bytes = refl
length-numbers w (suc n) bytes = ap suc (length-numbers w n (drop w bytes))

module _ (w : ℕ) (spelled : (bytes : List ℕ) → IsBytes bytes → w ≤ length bytes → little_bytes w (little_number w bytes) ≡ take w bytes) where
  -- numbers that were read are written with the same bytes
  numbers_spell : (n : ℕ) (bytes : List ℕ) → IsBytes bytes → w * n ≤ length bytes → flat_map (little_bytes w) (little_numbers w n bytes) ≡ take (w * n) bytes
  unfolding little_numbers
  numbers_spell zero bytes fits le = let none : w * 0 ≡ 0 = omega arith in ap (λ (k : ℕ). take k bytes) (sym none)
  numbers_spell (suc n) bytes fits le =
      let more : w * suc n ≡ w + w * n = omega arith in
      flat_map-cons (little_bytes w) (little_number w bytes) (little_numbers w n (drop w bytes))
      ∙ ap (λ (x : List ℕ). x ++ flat_map (little_bytes w) (little_numbers w n (drop w bytes))) (spelled bytes fits (omega arith))
      ∙ ap (λ (x : List ℕ). take w bytes ++ x) (numbers_spell n (drop w bytes) (IsBytes-drop w bytes fits) (omega (arith, length-drop w bytes)))
      ∙ sym (take-add w (w * n) bytes) ∙ ap (λ (k : ℕ). take k bytes) (sym more)

numbers_fit : (w n : ℕ) (bytes : List ℕ) → IsBytes bytes → AllByRecursion (λ x. x < 256 ^ w) (little_numbers w n bytes)
unfolding little_numbers
numbers_fit w zero bytes fits = tt
numbers_fit w (suc n) bytes fits = (little_from-lt 0 w bytes fits, numbers_fit w n (drop w bytes) (IsBytes-drop w bytes fits))

lengths-segments : (ns bytes : List ℕ) → map length (segments_in ns bytes) ≡ ns
unfolding segments_in
lengths-segments [] bytes = refl
lengths-segments (n ∷ ns) bytes =
    ap (λ (k : ℕ). k ∷ map length (segments_in ns (drop (8 * n) bytes))) (length-numbers 8 n bytes) ∙ ap (λ (l : List ℕ). n ∷ l) (lengths-segments ns (drop (8 * n) bytes))

segments_fit : (ns bytes : List ℕ) → IsBytes bytes → AllByRecursion (AllByRecursion (λ w. w < 2 ^ 64)) (segments_in ns bytes)
unfolding segments_in
segments_fit [] bytes fits = tt
segments_fit (n ∷ ns) bytes fits = (numbers_fit 8 n bytes fits, segments_fit ns (drop (8 * n) bytes) (IsBytes-drop (8 * n) bytes fits))

segments_spell : (ns bytes : List ℕ) → IsBytes bytes → 8 * sum ns ≤ length bytes → body_of (segments_in ns bytes) ≡ take (8 * sum ns) bytes
unfolding segments_in
segments_spell [] bytes fits le = refl
segments_spell (n ∷ ns) bytes fits le =
    let all = sum_by-cons (λ (x : ℕ). x) n ns in
    let more : 8 * sum (n ∷ ns) ≡ 8 * n + 8 * sum ns = omega arith in
    flat_map-cons (λ (x : List ℕ). flat_map (little_bytes 8) x) (words n bytes) (segments_in ns (drop (8 * n) bytes))
    ∙ ap (λ (x : List ℕ). x ++ body_of (segments_in ns (drop (8 * n) bytes))) (numbers_spell 8 spelled_8 n bytes fits (omega arith))
    ∙ ap (λ (x : List ℕ). take (8 * n) bytes ++ x) (segments_spell ns (drop (8 * n) bytes) (IsBytes-drop (8 * n) bytes fits) (omega (arith, length-drop (8 * n) bytes)))
    ∙ sym (take-add (8 * n) (8 * sum ns) bytes) ∙ ap (λ (k : ℕ). take k bytes) (sym more)

-- what the table says of its padding, as bytes
padding_spells : (n : ℕ) (bytes : List ℕ) → IsBytes bytes → 8 * table_words n ≤ length bytes → is_padded n bytes ≡ true
    → drop (4 + 4 * n) bytes ≡ padding_of n ++ drop (8 * table_words n) bytes
padding_spells n bytes fits le padded = cases (eqb (n % 2) 0) refl padded
  where
    cases : (b : Bool) → eqb (n % 2) 0 ≡ b → cond b (eqb (little_number 4 (drop (4 + 4 * n) bytes)) 0) true ≡ true
        → drop (4 + 4 * n) bytes ≡ cond b (0 ∷ 0 ∷ 0 ∷ 0 ∷ []) [] ++ drop (8 * table_words n) bytes
    cases true e h =
        let even = eqb-true (n % 2) 0 e in
        let none = eqb-true (little_number 4 (drop (4 + 4 * n) bytes)) 0 h in
        let place : 4 + 4 * n + 4 ≡ 8 * table_words n = omega arith in
        let zeros : take 4 (drop (4 + 4 * n) bytes) ≡ 0 ∷ 0 ∷ 0 ∷ 0 ∷ [] =
        sym (spelled_4 (drop (4 + 4 * n) bytes) (IsBytes-drop (4 + 4 * n) bytes fits) (omega (arith, length-drop (4 + 4 * n) bytes))) ∙ ap (little_bytes 4) none in
        sym (take-append-drop 4 (drop (4 + 4 * n) bytes))
        ∙ ap (λ (x : List ℕ). x ++ drop 4 (drop (4 + 4 * n) bytes)) zeros
        ∙ ap (λ (x : List ℕ). (0 ∷ 0 ∷ 0 ∷ 0 ∷ []) ++ x) (drop-drop 4 (4 + 4 * n) bytes ∙ ap (λ (k : ℕ). drop k bytes) place)
    cases false e h =
        let odd = eqb-false (n % 2) 0 e in
        let place : 4 + 4 * n ≡ 8 * table_words n = omega arith in
        ap (λ (k : ℕ). drop k bytes) place

-- the bytes of a table of n sizes, its padding and its segments
whole_spells : (n : ℕ) (ns bytes : List ℕ) → IsBytes bytes → n ≡ little_number 4 bytes + 1 → ns ≡ numbers n (drop 4 bytes) → 8 * (table_words n + sum ns) ≡ length bytes → is_padded n bytes ≡ true
    → bytes ≡ little_bytes 4 (n - 1) ++ (flat_map (little_bytes 4) ns ++ (padding_of n ++ body_of (segments_in ns (drop (8 * table_words n) bytes))))
whole_spells n ns bytes fits is_n is_ns long padded =
    let pad = length-padding n in
    let count : little_bytes 4 (n - 1) ≡ take 4 bytes = ap (little_bytes 4) (let e : n - 1 ≡ little_number 4 bytes = omega arith in e) ∙ spelled_4 bytes fits (omega arith) in
    let table : flat_map (little_bytes 4) ns ≡ take (4 * n) (drop 4 bytes) = ap (flat_map (little_bytes 4)) is_ns ∙ numbers_spell 4 spelled_4 n (drop 4 bytes) (IsBytes-drop 4 bytes fits) (omega (arith, length-drop 4 bytes)) in
    let rest = drop (8 * table_words n) bytes in
    let exact : length rest ≡ 8 * sum ns = omega (arith, length-drop (8 * table_words n) bytes) in
    let body : body_of (segments_in ns rest) ≡ rest = segments_spell ns rest (IsBytes-drop (8 * table_words n) bytes fits) (omega arith) ∙ take_all (8 * sum ns) rest (omega arith) in
    let tail : padding_of n ++ body_of (segments_in ns rest) ≡ drop (4 * n) (drop 4 bytes) =
    ap (λ (x : List ℕ). padding_of n ++ x) body ∙ sym (padding_spells n bytes fits (omega arith) padded) ∙ sym (drop-drop (4 * n) 4 bytes) in
    sym (take-append-drop 4 bytes) ∙ sym (
    ap (λ (x : List ℕ). x ++ (flat_map (little_bytes 4) ns ++ (padding_of n ++ body_of (segments_in ns rest)))) count
    ∙ ap (λ (x : List ℕ). take 4 bytes ++ x) (
    ap (λ (x : List ℕ). x ++ (padding_of n ++ body_of (segments_in ns rest))) table
    ∙ ap (λ (x : List ℕ). take (4 * n) (drop 4 bytes) ++ x) tail
    ∙ take-append-drop (4 * n) (drop 4 bytes)))

-- a test that passed
past : (b : Bool) (e : PayloadFault) (r : Result (List (List ℕ)) PayloadFault) (m : List (List ℕ)) → cond b (Err e) r ≡ Ok m → (b ≡ false) × (r ≡ Ok m)
past true e r m h = absurd cc
past false e r m h = (refl, h)

neither : (a b : Bool) → (a || not b) ≡ false → (a ≡ false) × (b ≡ true)
neither true b h = absurd cc
neither false true h = (refl, refl)
neither false false h = absurd cc

-- what passes the checks is framed
pub framing_takes : (bytes : List ℕ) (m : List (List ℕ)) → IsBytes bytes → framing bytes ≡ Ok m → IsFramed bytes m
unfolding framing sizes segment_count
framing_takes bytes m fits e =
    let n = segment_count bytes in
    let ns = sizes bytes in
    let a = past (ltb (length bytes) 4) Short (cond (ltb 16 n) (Err TooManySegments) (cond (ltb (length bytes) (8 * table_words n)) (Err Short) (framed_as most_words n ns bytes))) m e in
    let b = past (ltb 16 n) TooManySegments (cond (ltb (length bytes) (8 * table_words n)) (Err Short) (framed_as most_words n ns bytes)) m a.1 in
    let c = past (ltb (length bytes) (8 * table_words n)) Short (framed_as most_words n ns bytes) m b.1 in
    let d = past (ltb most_words (sum ns)) TooLarge _ m c.1 in
    let f = past (ltb (length bytes) (8 * (table_words n + sum ns))) Short _ m d.1 in
    let g = past (ltb (8 * (table_words n + sum ns)) (length bytes) || not (is_padded n bytes)) Trailing (Ok (segments_in ns (drop (8 * table_words n) bytes))) m f.1 in
    let h = neither (ltb (8 * (table_words n + sum ns)) (length bytes)) (is_padded n bytes) g.0 in
    let few = ltb-false 16 n b.0 in
    let small = ltb-false most_words (sum ns) d.0 in
    let long = ltb-false (length bytes) (8 * (table_words n + sum ns)) f.0 in
    let short = ltb-false (8 * (table_words n + sum ns)) (length bytes) h.0 in
    let made = segments_in ns (drop (8 * table_words n) bytes) in
    let lengths : map length made ≡ ns = lengths-segments ns (drop (8 * table_words n) bytes) in
    let counted : length made ≡ n = sym (length-map made length) ∙ ap length lengths ∙ length-numbers 4 n (drop 4 bytes) in
    let whole : bytes ≡ little_bytes 4 (length made - 1) ++ (flat_map (little_bytes 4) (map length made) ++ (padding_of (length made) ++ body_of made)) =
    rw (counted, lengths) (whole_spells n ns bytes fits refl refl (omega arith) h.1) in
    let framed : IsFramed bytes made = record {
      some = omega arith;
      few = omega arith;
      small = rw lengths small;
      words = segments_fit ns (drop (8 * table_words n) bytes) (IsBytes-drop (8 * table_words n) bytes fits);
      whole = whole;
    } in
    let same : made ≡ m = done_is made m g.1 in
    subst (λ (x : List (List ℕ)). IsFramed bytes x) same framed
