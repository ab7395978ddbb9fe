-- Numbers of a width, in data words and in lists: "Structs" and "Lists" of the encoding specification.
use Rattle.std.specs.Prelude.{ℕ, ◌+◌, ◌-◌, ◌*◌, ◌/◌, ◌%◌, ◌^◌, ◌==◌, nat_lt, Bool, ◌||◌, ◌&&◌, if◌then◌else◌, List, length, slice_index, slice_set, Option, Some, None}
use Rattle.std.specs.List.{list_all}

-- the widths of numbers, in bits
abbrev pub is_width : ℕ → Bool
is_width bits = bits == 1 || bits == 8 || bits == 16 || bits == 32 || bits == 64

-- a number has no more bits
abbrev pub is_below : ℕ → ℕ → Bool
is_below bits n = nat_lt n (2 ^ bits)

-- a width, and a number that has no more bits
abbrev pub is_sized : ℕ → ℕ → Bool
is_sized bits n = is_width bits && is_below bits n

-- a width, and numbers that have no more bits
abbrev pub are_sized : ℕ → List ℕ → Bool
are_sized bits ns = is_width bits && list_all (is_below bits) ns

-- a word in which the bits from this one on, so many, are those of a number, in place of those that stood there
abbrev pub replaced : ℕ → ℕ → ℕ → ℕ → ℕ
replaced word from bits n = (word - word / 2 ^ from % 2 ^ bits * 2 ^ from + n * 2 ^ from) % 2 ^ 64

-- the words with a number at so many times its width, where that is not past their end
abbrev pub put_number : List ℕ → ℕ → ℕ → ℕ → Option (List ℕ)
put_number words bits index n =
    if nat_lt (index * bits / 64) (length words)
    then Some (slice_set words (index * bits / 64) (replaced (slice_index words (index * bits / 64)) (index * bits % 64) bits n))
    else None
