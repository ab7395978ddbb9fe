-- The sizes of elements without pointers: "Lists" of the encoding specification.
use Rattle.std.specs.Prelude.{ℕ, ◌+◌, ◌*◌, ◌/◌, ◌^◌, ◌<◌, List, get_or}
use Rattle.capn_trees.specs.declared.width.Width.{Width}
use Rattle.capn_trees.specs.declared.width.Width.TheVariants as width

-- how many bits an element without pointers takes
abbrev pub bits_of : Width → ℕ
bits_of width.Void = 0
bits_of width.Bit = 1
bits_of width.Byte = 8
bits_of width.TwoBytes = 16
bits_of width.FourBytes = 32
bits_of width.EightBytes = 64

-- how many words so many elements take
abbrev pub packed_size : ℕ → ℕ → ℕ
packed_size bits count = (count * bits + 63) / 64

-- numbers of so many bits
abbrev pub AreOf : ℕ → List ℕ → Type 0
AreOf bits xs = (i : ℕ) → get_or xs i 0 < 2 ^ bits
