-- A content that nests at most so deep, as it was visited, can be written there.
use Rattle.std.proofs.Common.{◌≡◌, ℕ, zero, suc, ◌+◌, ◌-◌, ◌^◌, ◌<◌, ◌≤◌, eqb, List, [], ◌∷◌, length, get_or, Result, Ok, Err, sym, ap, subst, ◌∙◌, arith, lit<}
use Rattle.std.specs.List.{AllByRecursion}
use Rattle.capn_trees.specs.declared.faults.PayloadFault.{PayloadFault}
use Rattle.capn_trees.specs.declared.faults.PayloadFault.TheVariants.{OutOfBounds}
use Rattle.capn_trees.specs.Trees.{Tree}
use Rattle.capn_trees.specs.Writable.{parts}
use Rattle.capn_reading.specs.Segments.{segment_of}
use Rattle.capn_reading.specs.Following.{◌>>=◌, counted_before}
use Rattle.capn_reading.specs.Framing.{framing}
use Rattle.capn_reading.specs.Reading.{Reading, reading, root_of, message_of, root_within, message_within, visited_of, tree_read}
use Rattle.capn_reading.proofs.Counted.{HaveBits, Counts, reading_fine}
use Rattle.capn_reading.proofs.Fine.{fine_good, few_none}
use Rattle.capn_reading.proofs.Framed.{framing_takes}
use Rattle.capn_reading.proofs.Levels.{reading_by}
use Rattle.capn_reading.proofs.Rooted.{bind_ok, passed}
use Rattle.capn_wire.specs.Payloads.{Contents, IsPayload, tree_of, FitsWithin}

words_fit : (xs : List ℕ) → AllByRecursion (λ w. w < 2 ^ 64) xs → (i : ℕ) → get_or xs i 0 < 2 ^ 64
words_fit [] all i = lit< tt
words_fit (x ∷ xs) all zero = all.0
words_fit (x ∷ xs) all (suc i) = words_fit xs all.1 i

pub segments_fit : (m : List (List ℕ)) → AllByRecursion (AllByRecursion (λ w. w < 2 ^ 64)) m → HaveBits m
segments_fit [] all s i = lit< tt
segments_fit (x ∷ m) all zero i = words_fit x all.0 i
segments_fit (x ∷ m) all (suc s) i = segments_fit m all.1 s i

abbrev walked : ℕ → Result ℕ PayloadFault
walked n = Ok n

was_read : (r : Reading Tree) (n : ℕ) → walked n ≡ visited_of r → (t : Tree) × (r ≡ Ok (t, n))
was_read (Ok x) n e = let same : n ≡ x.1 = cc in (x.0, ap (λ k. let made : Reading Tree = Ok (x.0, k) in made) (sym same))
was_read (Err f) n e = absurd cc

pub fits_within : (p : Contents) (levels n : ℕ) → levels ≤ 64 → IsPayload p → walked n ≡ visited_of (message_within p.bytes p.caps levels) → FitsWithin p levels (n - counted_before 65536)
unfolding message_within message_of root_within root_of
fits_within p levels n le payload e =
    let r = was_read (message_within p.bytes p.caps levels) n e in
    let a = bind_ok (framing p.bytes) (λ m. root_within m p.caps levels) (r.0, n) r.1 in
    let b = passed (eqb (length (segment_of a.0 0)) 0) OutOfBounds (reading a.0 p.caps levels 0 0 (counted_before 65536)) (r.0, n) a.2 in
    let all : 64 - levels + levels ≡ 64 = omega arith in
    let deep : reading a.0 p.caps 64 0 0 (counted_before 65536) ≡ Ok (r.0, n) = subst (λ k. reading a.0 p.caps k 0 0 (counted_before 65536) ≡ Ok (r.0, n)) all (reading_by a.0 p.caps levels (64 - levels) 0 0 (counted_before 65536) r.0 n b.1) in
    let root : root_of a.0 p.caps ≡ Ok (r.0, n) = rw b.0 deep in
    let said : message_of p.bytes p.caps ≡ Ok (r.0, n) = ap (λ (f : Result (List (List ℕ)) PayloadFault). f >>= λ m. root_of m p.caps) a.1 ∙ root in
    let is_tree : r.0 ≡ tree_of p = sym (ap tree_read said) in
    let framed = framing_takes p.bytes a.0 payload.bytes a.1 in
    let read : (k : ℕ) → levels ≤ k → reading a.0 p.caps k 0 0 (counted_before 65536) ≡ Ok (r.0, n) = λ k more.
    let same : k - levels + levels ≡ k = omega arith in
    subst (λ j. reading a.0 p.caps j 0 0 (counted_before 65536) ≡ Ok (r.0, n)) same (reading_by a.0 p.caps levels (k - levels) 0 0 (counted_before 65536) r.0 n b.1) in
    let counts : (k : ℕ) → levels ≤ k → Counts p.caps (parts (tree_of p) k) (counted_before 65536) n = λ k more.
    subst (λ t. Counts p.caps (parts t k) (counted_before 65536) n) is_tree (reading_fine a.0 p.caps (segments_fit a.0 framed.words) k 0 0 (counted_before 65536) r.0 n (read k more)) in
    record {
      fits = λ k more lt. let words = (counts k more).words in
          few_none p.caps (parts (tree_of p) k) (fine_good p.caps (parts (tree_of p) k) (counts k more).fine (omega (arith, words))) (omega (arith, words));
      words = λ k more. let words = (counts k more).words in omega (arith, words);
    }
