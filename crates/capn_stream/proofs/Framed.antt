-- What is framed is one frame.
use Rattle.std.proofs.Common.{◌≡◌, ℕ, ◌+◌, ◌*◌, ◌≤◌, Bool, true, false, cond, nat_lt, not, ◌||◌, List, length, drop, sum, Result, Ok, Err, refl, ap, ◌∙◌, arith}
use Rattle.std.proofs.lemmas.Bool.{ltb-false}
use Rattle.capn_trees.specs.declared.faults.PayloadFault.{PayloadFault}
use Rattle.capn_trees.specs.declared.faults.PayloadFault.TheVariants.{Short, TooManySegments, TooLarge, Trailing}
use Rattle.capn_trees.specs.Limits.{most_words}
use Rattle.capn_reading.specs.Segments.{segments_in}
use Rattle.capn_reading.specs.Framing.{segment_count, sizes, table_words, is_padded, framing}
use Rattle.capn_stream.specs.declared.front.Front.TheVariants.{Complete}
use Rattle.capn_stream.specs.Fronts.{front_of, IsFrame}
use Rattle.capn_stream.proofs.Numbers as numbers

-- a check that passed
passed : (b : Bool) (e : PayloadFault) (r : Result (List (List ℕ)) PayloadFault) (m : List (List ℕ)) → cond b (Err e) r ≡ Ok m → (b ≡ false) × (r ≡ Ok m)
passed true e r m h = absurd cc
passed false e r m h = (refl, h)

first_passed : (a b : Bool) → (a || b) ≡ false → a ≡ false
first_passed true b h = absurd cc
first_passed false b h = refl

pub framed_whole : (bytes : List ℕ) (m : List (List ℕ)) → framing bytes ≡ Ok m → IsFrame bytes
unfolding framing front_of
framed_whole bytes m e =
    let n = segment_count bytes in
    let ns = sizes bytes in
    let len = length bytes in
    let whole = 8 * (table_words n + sum ns) in
    let padded = is_padded n bytes in
    let done : Result (List (List ℕ)) PayloadFault = Ok (segments_in ns (drop (8 * table_words n) bytes)) in
    let last : Result (List (List ℕ)) PayloadFault = cond (nat_lt whole len || not padded) (Err Trailing) done in
    let long : Result (List (List ℕ)) PayloadFault = cond (nat_lt len whole) (Err Short) last in
    let large : Result (List (List ℕ)) PayloadFault = cond (nat_lt most_words (sum ns)) (Err TooLarge) long in
    let table : Result (List (List ℕ)) PayloadFault = cond (nat_lt len (8 * table_words n)) (Err Short) large in
    let many : Result (List (List ℕ)) PayloadFault = cond (nat_lt 16 n) (Err TooManySegments) table in
    let one = passed (nat_lt len 4) Short many m e in
    let two = passed (nat_lt 16 n) TooManySegments table m one.1 in
    let three = passed (nat_lt len (8 * table_words n)) Short large m two.1 in
    let four = passed (nat_lt most_words (sum ns)) TooLarge long m three.1 in
    let five = passed (nat_lt len whole) Short last m four.1 in
    let six = passed (nat_lt whole len || not padded) Trailing done m five.1 in
    let counts : 4 ≤ len = ltb-false len 4 one.0 in
    let few : n ≤ 16 = ltb-false 16 n two.0 in
    let small : sum ns ≤ 65536 = ltb-false most_words (sum ns) four.0 in
    let there : whole ≤ len = ltb-false len whole five.0 in
    let within : len ≤ whole = ltb-false whole len (first_passed (nat_lt whole len) (not padded) six.0) in
    let exact : whole ≡ len = omega arith in
    numbers.is_complete len n (sum ns) 0 counts few small there ∙ ap Complete exact
