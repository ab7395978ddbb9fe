-- The number that digits say.
use Rattle.std.proofs.Common.{◌≡◌, ℕ, ◌+◌, ◌-◌, ◌*◌, ◌&&◌, ◌≤◌, ◌<◌, ◌^◌, nat_lt, true, false, Option, Some, None, if◌then◌else◌, List, [], ◌∷◌, length, drop, slice_index_or, sym, ap, ◌∙◌, arith}
use Rattle.std.specs.Char.{digit_value, is_ascii_digit}
use Rattle.std.specs.Str.{all_ascii_digits}
use Rattle.std.specs.Str.Parse.{digits_value, digits_value_after}
use Rattle.std.proofs.lemmas.Bool.{and_parts}
use Rattle.std.proofs.lemmas.Bool.Decides.{nat_tests}
use Rattle.std.proofs.lemmas.List.{at_drop_more}

abbrev pub fitting : ℕ → Option ℕ
fitting n = if nat_lt n (2 ^ 64) then Some n else None

pub fits : (n : ℕ) → n < 2 ^ 64 → Some n ≡ fitting n
fits n h = let is : nat_lt n (2 ^ 64) ≡ true = grind (arith, nat_tests) in ap (λ b. if b then Some n else None) (sym is)

too_large : (n : ℕ) → 2 ^ 64 ≤ n → None ≡ fitting n
too_large n h = let is : nat_lt n (2 ^ 64) ≡ false = grind (arith, nat_tests) in ap (λ b. if b then Some n else None) (sym is)

grows : (n : ℕ) (ds : List ℕ) → n ≤ digits_value_after 10 n ds
grows n [] = omega arith
grows n (d ∷ ds) = let more = grows (n * 10 + digit_value d) ds in omega (arith, more)

-- Once a digit more makes the number too large, it stays so.
pub grown : (n i : ℕ) (ds : List ℕ) → i < length ds → digits_value_after 10 n (drop i ds) ≡ digits_value 10 ds → 2 ^ 64 ≤ n * 10 + digit_value (slice_index_or ds i 0) → None ≡ fitting (digits_value 10 ds)
grown n i ds inside value large =
    let next = at_drop_more (digits_value_after 10 n) ds i 0 inside in
    let more = grows (n * 10 + digit_value (slice_index_or ds i 0)) (drop (i + 1) ds) in
    too_large (digits_value 10 ds) (omega (arith, next, value, more, large))

-- What a digit says.
pub digit_of : (i : ℕ) (ds : List ℕ) → i < length ds → all_ascii_digits (drop i ds) ≡ true → digit_value (slice_index_or ds i 0) ≡ slice_index_or ds i 0 - 48
digit_of i ds inside digits =
    let d = slice_index_or ds i 0 in
    let split : (is_ascii_digit d && all_ascii_digits (drop (i + 1) ds)) ≡ true = sym (at_drop_more all_ascii_digits ds i 0 inside) ∙ digits in
    let is = (and_parts (is_ascii_digit d) (all_ascii_digits (drop (i + 1) ds)) split).0 in
    grind (arith, nat_tests, is)
