-- What a decimal number says (docs/trace.md, "A picture of a trace"; docs/looking.md, "A picture").
use Rattle.std.specs.Prelude.{ℕ, ◌^◌, ◌&&◌, nat_lt, if◌then◌else◌, List, length, Option, Some, None}
use Rattle.std.specs.Str.{all_ascii_digits}
use Rattle.std.specs.Str.Parse.{digits_value}

-- A decimal number, one digit or more and nothing else, that fits in 64 bits.
abbrev pub number_of : List ℕ → Option ℕ
number_of word =
    if all_ascii_digits word && (nat_lt 0 (length word) && nat_lt (digits_value 10 word) (2 ^ 64)) then Some (digits_value 10 word) else None
