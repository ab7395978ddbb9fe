-- The bytes that are written for a tree are a message that says it.
use Rattle.std.proofs.Common.{◌≡◌, ℕ, suc, ◌+◌, ◌^◌, ◌<◌, ◌≤◌, false, eqb, List, [], ◌∷◌, ◌++◌, length, get_or, refl, sym, ap, subst, ◌∙◌, Option, None, arith}
use Rattle.std.specs.Prelude.{MatchOption}
use Rattle.capn_trees.specs.declared.faults.WriteFault.{WriteFault}
use Rattle.std.specs.List.{flat_map, AllByRecursion}
use Rattle.std.proofs.lemmas.List.{append-nil}
use Rattle.std.proofs.lemmas.Bool.{ne_eqb}
use Rattle.std.proofs.lemmas.List.Concat.{flat_map-cons}
use Rattle.std.proofs.lemmas.List.Sums.{sum_by-cons}
use Rattle.byteorder.specs.Endian.{little_bytes}
use Rattle.capn_trees.specs.Trees.{Tree}
use Rattle.capn_reading.specs.Reading.{root_of}
use Rattle.capn_reading.specs.Following.{counted_before}
use Rattle.capn_reading.specs.Framing.{body_of, IsFramed}
use Rattle.capn_wire.specs.Payloads.{Contents, IsEncoded, Says, tree_of}
use Rattle.capn_wire.proofs.Saying.{says_encoded, says_tree}
use Rattle.capn_writing.specs.Placing.{placed, segment_for, one_segment, written}
use Rattle.capn_trees.specs.Widths.{AreOf}
use Rattle.capn_writing.specs.Fitting.{Fits}
use Rattle.capn_trees.specs.Writable.{parts, words_taken, words_visited, all_words, refusal}
use Rattle.capn_wire.proofs.Placed.{Has, reads}
use Rattle.capn_trees.proofs.Parts.{AreGood}
use Rattle.capn_writing.proofs.Sized.{taken_by}
use Rattle.capn_writing.proofs.Writing.{can_write, good_sizes, no_reason}

all_fit : (xs : List ℕ) → ((i : ℕ) → get_or xs i 0 < 2 ^ 64) → AllByRecursion (λ w. w < 2 ^ 64) xs
all_fit [] fit = tt
all_fit (x ∷ xs) fit = (fit 0, all_fit xs (λ i. fit (suc i)))

framed_one : (words : List ℕ) → length words ≤ 65536 → ((i : ℕ) → get_or words i 0 < 2 ^ 64) → IsFramed (one_segment words) (words ∷ [])
framed_one words few fit =
    let total = sum_by-cons (λ (x : ℕ). x) (length words) [] in
    let sizes : flat_map (little_bytes 4) (length words ∷ []) ≡ little_bytes 4 (length words) = flat_map-cons (little_bytes 4) (length words) [] ∙ append-nil (little_bytes 4 (length words)) in
    let body : body_of (words ∷ []) ≡ flat_map (little_bytes 8) words = flat_map-cons (λ (s : List ℕ). flat_map (little_bytes 8) s) words [] ∙ append-nil (flat_map (little_bytes 8) words) in
    record {
      some = omega arith;
      few = omega arith;
      small = omega (arith, total);
      words = (all_fit words fit, tt);
      whole = sym (ap (λ (l : List ℕ). little_bytes 4 0 ++ (l ++ body_of (words ∷ []))) sizes ∙ ap (λ (l : List ℕ). little_bytes 4 0 ++ (little_bytes 4 (length words) ++ l)) body);
    }

pub written_says : (t : Tree) (caps : ℕ) → Fits t → AreGood caps (parts t 64) → 1 + all_words words_taken (parts t 64) ≤ 65536 → all_words words_visited (parts t 64) ≤ 65536 → ((i : ℕ) → get_or (segment_for t) i 0 < 2 ^ 64)
    → Says (record { bytes = written t; caps = caps }) (segment_for t ∷ []) t
unfolding root_of
written_says t caps fits good small few fit =
    let long = taken_by t 64 0 1 (good_sizes caps (parts t 64) good few) in
    let short : length (segment_for t) ≤ 65536 = omega (arith, long) in
    let first = (placed t 0 1).0 in
    let rest = (placed t 0 1).1 in
    let behind : Has (segment_for t) 1 rest = record { front = first ∷ []; back = []; whole = ap (λ (l : List ℕ). first ∷ l) (sym (append-nil rest)); place = refl } in
    let some : eqb (length (segment_for t)) 0 ≡ false = ne_eqb _ _ (λ e. omega arith) in
    let nothing : counted_before 65536 + all_words words_visited (parts t 64) ≤ 4194304 = omega arith in
    record {
      framed = framed_one (segment_for t) short fit;
      visited = counted_before 65536 + all_words words_visited (parts t 64);
      read = rw some (reads (segment_for t) caps short t 64 0 1 (counted_before 65536) fits good nothing (omega arith) refl behind);
    }

-- What is written reads as the tree.
pub says_written : (t : Tree) (caps : ℕ) (bytes : List ℕ) → refusal t caps ≡ None → Fits t → AreOf 64 (segment_for t) → bytes ≡ written t
    → IsEncoded (record { bytes = bytes; caps = caps }) × (tree_of (record { bytes = bytes; caps = caps }) ≡ t)
says_written t caps bytes none fits small made =
    let can = can_write t caps none in
    let says = written_says t caps fits can.0 can.1 can.2 small in
    let p : Contents = record { bytes = written t; caps = caps } in
    subst (λ (bs : List ℕ). IsEncoded (record { bytes = bs; caps = caps }) × (tree_of (record { bytes = bs; caps = caps }) ≡ t)) (sym made)
    (says_encoded p (segment_for t ∷ []) t says, says_tree p (segment_for t ∷ []) t says)
