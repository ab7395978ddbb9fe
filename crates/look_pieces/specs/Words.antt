-- Numbers, times and digits in the lines of `socat -x` (docs/looking.md).
use Rattle.std.specs.Prelude.{ℕ, ◌+◌, ◌-◌, ◌*◌, ◌/◌, ◌^◌, ◌==◌, ◌&&◌, nat_lt, Bool, if◌then◌else◌, Option, Some, None, List, length, take, drop}
use Rattle.std.specs.List.{before_first, after_first}
use Rattle.std.specs.Char.{is_ascii_digit}
use Rattle.std.specs.Str.{all_ascii_digits, bytes_eq}
use Rattle.std.specs.Str.Parse.{digits_value}

-- What is made of something, where it is there.
abbrev pub and_then : {X Y : Type 0} → Option X → (X → Option Y) → Option Y
and_then None rest = None
and_then (Some x) rest = rest x

abbrev pub only_if : {X : Type 0} → Bool → Option X → Option X
only_if holds o = if holds then o else None

-- A decimal number: one digit or more and nothing else. It fits in 64 bits.
abbrev pub number_of : List ℕ → Option ℕ
number_of word =
    if nat_lt 0 (length word) && all_ascii_digits word
    then (if nat_lt (digits_value 10 word) (2 ^ 64) then Some (digits_value 10 word) else None)
    else None

-- two digits
abbrev pub two_of : List ℕ → Option ℕ
two_of word = if (length word == 2) && all_ascii_digits word then Some (digits_value 10 word) else None

-- The microseconds that nine digits say: microseconds if they begin with three zeros, and else nanoseconds.
abbrev pub micros_at : ℕ → Option ℕ
micros_at n = if nat_lt n 1000000 then Some n else if nat_lt n 1000000000 then Some (n / 1000) else None

abbrev pub micros_of : List ℕ → Option ℕ
micros_of digits = if length digits == 9 then and_then (number_of digits) micros_at else None

-- what stands before the first such byte; all where none stands
unfoldable pub before : ℕ → List ℕ → List ℕ
before mark text = before_first (λ c. c == mark) text

-- what stands behind it; nothing where none stands
unfoldable pub behind : ℕ → List ℕ → List ℕ
behind mark text = after_first (λ c. c == mark) text

-- The microseconds since midnight: hours, minutes and seconds behind colons, and behind a point the parts of a second.
abbrev pub clock_by : Option ℕ → Option ℕ → Option ℕ → Option ℕ → Option ℕ
clock_by hours minutes seconds micros =
    and_then hours (λ h. and_then minutes (λ m. and_then seconds (λ s. and_then micros (λ u. Some (((h * 60 + m) * 60 + s) * 1000000 + u)))))

abbrev pub clock_parts : List ℕ → List ℕ → List ℕ → Option ℕ
clock_parts hours minutes rest = clock_by (two_of hours) (two_of minutes) (two_of (before 46 rest)) (micros_of (behind 46 rest))

abbrev pub clock_of : List ℕ → Option ℕ
clock_of word = clock_parts (before 58 word) (before 58 (behind 58 word)) (behind 58 (behind 58 word))

-- a lower-case hexadecimal digit
abbrev pub hex_of : ℕ → Option ℕ
hex_of c =
    if is_ascii_digit c then Some (c - 48)
    else if nat_lt 96 c && nat_lt c 103 then Some (c - 97 + 10)
    else None

-- the number behind a label
abbrev pub labelled : List ℕ → List ℕ → Option ℕ
labelled label word = if bytes_eq (take (length label) word) label then number_of (drop (length label) word) else None
