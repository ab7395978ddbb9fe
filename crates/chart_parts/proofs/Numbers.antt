-- What `parse` answers of a word without a sign.
use Rattle.std.proofs.Common.{◌≡◌, ◌≢◌, ℕ, ◌<◌, ◌^◌, Bool, true, false, List, length, Option, Result, Ok, Err, sym, ◌∙◌, arith}
use lib.ListN.{get_or}
use Rattle.std.specs.Bool.{Decides}
use Rattle.std.specs.Result.{OkIff, result_ok}
use Rattle.std.specs.Str.{all_ascii_digits}
use Rattle.std.specs.Str.Parse.{ParsesUnsigned, digits_value}
use Rattle.std.proofs.lemmas.Bool.Decides.{nat_tests}
use Rattle.std.proofs.lemmas.Str.Parse.{IsNumeralModel, numerals_by_value, tells_all_ascii_digits, parse_plain}
use Rattle.chart_parts.specs.Decimals.{number_of}

own : IsNumeralModel (λ ds. all_ascii_digits ds ≡ true) (digits_value 10)
own = numerals_by_value _ tells_all_ascii_digits

told : {E : Type 0} (bs : List ℕ) (r : Result ℕ E) → OkIff r ((all_ascii_digits bs ≡ true) × (0 < length bs) × (digits_value 10 bs < 2 ^ 64)) (digits_value 10 bs) → result_ok r ≡ number_of bs
told bs (Ok n) h = let p = h.0.0 in let q = h.0.1 in let s = h.0.2 in let v = h.1 in grind (arith, nat_tests)
told bs (Err e) h = grind (arith, nat_tests, h)

-- The word has no plus in front.
pub unsigned : (bs : List ℕ) (r : Bool) → Decides r (get_or bs 0 0 ≡ 43) → r ≡ false → get_or bs 0 0 ≢ 43
unsigned bs r decided not_so is = let e : ◌≡◌ {A = Bool} true false = sym (decided.1 is) ∙ not_so in cc

pub parsed : {E : Type 0} (bs : List ℕ) (r : Result ℕ E) (o : Option ℕ) → ParsesUnsigned 64 10 bs r → get_or bs 0 0 ≢ 43 → o ≡ result_ok r → o ≡ number_of bs
parsed bs r o h plain is = is ∙ told bs r (parse_plain own 64 bs r h plain)
