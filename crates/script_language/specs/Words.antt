-- What the words of a line say (docs/script.md, "Words").
use Rattle.std.specs.Prelude.{ℕ, ◌==◌, ◌^◌, ◌&&◌, ◌||◌, nat_lt, Bool, if◌then◌else◌, List, [], ◌∷◌, length, Result, Ok, Err, codes}
use Rattle.std.specs.Char.{is_ascii_lowercase, is_ascii_digit}
use Rattle.std.specs.List.{list_all, slice_split}
use Rattle.std.specs.Str.{all_ascii_digits, bytes_eq}
use Rattle.std.specs.Str.Parse.{digits_value}
use Rattle.rpc_msg.specs.declared.ids.Vat.{Vat}
use Rattle.rpc_msg.specs.declared.ids.Vat.TheVariants as vat
use Rattle.rpc_msg.specs.Op.{Op}
use Rattle.rpc_msg.specs.Op.TheVariants as op
use Rattle.script_language.specs.declared.fault.LineFault.{LineFault}
use Rattle.script_language.specs.declared.fault.LineFault.TheVariants as fault

-- What is read first, and then the rest; or the first fault.
abbrev pub and_then : {X Y : Type 0} → Result X LineFault → (X → Result Y LineFault) → Result Y LineFault
and_then (Ok x) rest = rest x
and_then (Err e) rest = Err e

-- What is made of three, or of five, things that were read one after the other; or the first fault.
abbrev pub of_three : {X Y Z W : Type 0} → (X → Y → Z → W) → Result X LineFault → Result Y LineFault → Result Z LineFault → Result W LineFault
of_three make (Err e) y z = Err e
of_three make (Ok x) (Err e) z = Err e
of_three make (Ok x) (Ok y) (Err e) = Err e
of_three make (Ok x) (Ok y) (Ok z) = Ok (make x y z)

abbrev pub of_five : {X Y Z V W M : Type 0} → (X → Y → Z → V → W → M) → Result X LineFault → Result Y LineFault → Result Z LineFault → Result V LineFault → Result W LineFault → Result M LineFault
of_five make (Err e) y z v w = Err e
of_five make (Ok x) (Err e) z v w = Err e
of_five make (Ok x) (Ok y) (Err e) v w = Err e
of_five make (Ok x) (Ok y) (Ok z) (Err e) w = Err e
of_five make (Ok x) (Ok y) (Ok z) (Ok v) (Err e) = Err e
of_five make (Ok x) (Ok y) (Ok z) (Ok v) (Ok w) = Ok (make x y z v w)

-- The word is that text.
abbrev pub is_text : List ℕ → List ℕ → Bool
is_text text word = bytes_eq word text

-- `a` or `b`.
abbrev pub vat_of : List ℕ → Result Vat LineFault
vat_of word = if is_text (codes "a") word then Ok vat.A else (if is_text (codes "b") word then Ok vat.B else Err fault.Vat)

abbrev pub is_name_letter : ℕ → Bool
is_name_letter c = is_ascii_lowercase c || is_ascii_digit c

-- 1 to 16 lower case letters and digits. A name is seen as its letters.
abbrev pub name_of : List ℕ → Result (List ℕ) LineFault
name_of word =
    if nat_lt 16 (length word) then Err fault.LongName
    else (if nat_lt 0 (length word) && list_all is_name_letter word then Ok word else Err fault.Name)

-- A decimal number, one digit or more and nothing else, that fits in so many bits.
abbrev pub number_of : ℕ → List ℕ → Result ℕ LineFault
number_of bits word =
    if nat_lt 0 (length word) && all_ascii_digits word
    then (if nat_lt (digits_value 10 word) (2 ^ bits) then Ok (digits_value 10 word) else Err fault.LargeNumber)
    else Err fault.Number

-- What each of the words says, in order; or the first fault.
abbrev pub each_of : {X : Type 0} → (List ℕ → Result X LineFault) → List (List ℕ) → Result (List X) LineFault
each_of said [] = Ok []
each_of said (word ∷ words) = and_then (said word) (λ x. and_then (each_of said words) (λ xs. Ok (x ∷ xs)))

abbrev pub field_number : List ℕ → Result Op LineFault
field_number word = and_then (number_of 16 word) (λ n. Ok (op.Field n))

-- `-`, or numbers of fields joined by dots.
abbrev pub path_of : List ℕ → Result (List Op) LineFault
path_of word = if is_text (codes "-") word then Ok [] else each_of field_number (slice_split (λ c. c == 46) word)

-- No more than a payload can carry.
abbrev pub caps_of_parts : List (List ℕ) → Result (List (List ℕ)) LineFault
caps_of_parts parts = if nat_lt 65535 (length parts) then Err fault.ManyCaps else each_of name_of parts

-- `-`, or names joined by commas.
abbrev pub caps_of : List ℕ → Result (List (List ℕ)) LineFault
caps_of word = if is_text (codes "-") word then Ok [] else caps_of_parts (slice_split (λ c. c == 44) word)
