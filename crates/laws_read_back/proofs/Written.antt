-- A frame that was written is read with its widths.
use Rattle.std.proofs.Common.{◌≡◌, ℕ, zero, suc, ◌/◌, ◌^◌, ◌<◌, eqb, List, [], ◌∷◌, ◌++◌, length, sym, subst, lit<}
use Rattle.std.specs.List.{flat_map, AllByRecursion}
use Rattle.std.specs.Int.{byte_at, bytes_low_first}
use Rattle.std.proofs.Math.Nat.{mod-lt}
use Rattle.std.proofs.lemmas.List.Concat.{flat_map-cons}
use Rattle.byteorder.specs.Endian.{little_bytes}
use Rattle.capn_trees.specs.declared.faults.PayloadFault.TheVariants.{OutOfBounds}
use Rattle.capn_trees.specs.Trees.{Tree}
use Rattle.capn_reading.specs.Following.{counted_before}
use Rattle.capn_reading.specs.Reading.{reading, root_of}
use Rattle.capn_reading.specs.Segments.{segment_of}
use Rattle.capn_reading.proofs.Framed.{IsBytes}
use Rattle.capn_reading.proofs.Rooted.{passed}
use Rattle.capn_writing.specs.Placing.{segment_for, written}
use Rattle.capn_wire.specs.Payloads.{Contents, IsEncoded, tree_of}
use Rattle.capn_wire.proofs.Saying.{encoded_says}
use Rattle.capn_wire.proofs.Within.{segments_fit}
use Rattle.laws_read_back.proofs.Widths.{AllFit, HasWidths, reading_widths}

-- ---- what is written is bytes

abbrev AreBytes : List ℕ → Type 0
AreBytes xs = AllByRecursion (λ x. x < 256) xs

both_bytes : (xs ys : List ℕ) → AreBytes xs → AreBytes ys → AreBytes (xs ++ ys)
both_bytes [] ys a b = b
both_bytes (x ∷ xs) ys a b = (a.0, both_bytes xs ys a.1 b)

byte_small : (i n : ℕ) → byte_at i n < 256
byte_small zero n = mod-lt n (lit< tt)
byte_small (suc i) n = mod-lt (n / 256 ^ suc i) (lit< tt)

number_bytes : (i n x : ℕ) → AreBytes (bytes_low_first i n x)
number_bytes i zero x = tt
number_bytes i (suc n) x = (byte_small i x, number_bytes (suc i) n x)

numbers_bytes : (ws : List ℕ) → AreBytes (flat_map (little_bytes 8) ws)
numbers_bytes [] = tt
numbers_bytes (w ∷ ws) = subst AreBytes (sym (flat_map-cons (little_bytes 8) w ws)) (both_bytes (little_bytes 8 w) (flat_map (little_bytes 8) ws) (number_bytes 0 8 w) (numbers_bytes ws))

each_byte : (xs : List ℕ) → AreBytes xs → IsBytes xs
each_byte [] are i = lit< tt
each_byte (x ∷ xs) are zero = are.0
each_byte (x ∷ xs) are (suc i) = each_byte xs are.1 i

written_bytes : (t : Tree) → IsBytes (written t)
written_bytes t =
    let ws = segment_for t in
    each_byte (written t) (both_bytes (little_bytes 4 0) (little_bytes 4 (length ws) ++ flat_map (little_bytes 8) ws) (number_bytes 0 4 0)
    (both_bytes (little_bytes 4 (length ws)) (flat_map (little_bytes 8) ws) (number_bytes 0 4 (length ws)) (numbers_bytes ws)))

-- ---- so it is read of words of 64 bits

segment_fits : (m : List (List ℕ)) → AllByRecursion (AllByRecursion (λ w. w < 2 ^ 64)) m → (s : ℕ) → AllFit (segment_of m s)
segment_fits [] all s = tt
segment_fits (x ∷ m) all zero = all.0
segment_fits (x ∷ m) all (suc s) = segment_fits m all.1 s

pub encoded_widths : (p : Contents) → IsBytes p.bytes → IsEncoded p → HasWidths (tree_of p)
unfolding root_of
encoded_widths p bytes encoded =
    let r = encoded_says p bytes encoded in
    let m = r.0 in
    let says = r.1 in
    let read = passed (eqb (length (segment_of m 0)) 0) OutOfBounds (reading m p.caps 64 0 0 (counted_before 65536)) (tree_of p, says.visited) says.read in
    reading_widths m p.caps (segments_fit m says.framed.words) (segment_fits m says.framed.words) 64 0 0 (counted_before 65536) (tree_of p) says.visited read.1

pub written_widths : (p : Contents) (t : Tree) → p.bytes ≡ written t → IsEncoded p → HasWidths (tree_of p)
written_widths p t is encoded = encoded_widths p (subst IsBytes (sym is) (written_bytes t)) encoded
