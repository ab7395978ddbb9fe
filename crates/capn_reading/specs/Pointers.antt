-- What a word says where a pointer stands: "Structs", "Lists", "Inter-Segment Pointers" and
-- "Capabilities (Interfaces)" of the encoding specification. Bits count from the least significant.
use Rattle.std.specs.Prelude.{ℕ, ◌+◌, ◌*◌, ◌/◌, ◌%◌, ◌^◌, ◌==◌, if◌then◌else◌, Option, Some, None}
use Rattle.capn_trees.specs.declared.width.Width.TheVariants as width
use Rattle.capn_reading.specs.declared.pointer.Shape.{Shape}
use Rattle.capn_reading.specs.declared.pointer.Shape.TheVariants as shape
use Rattle.capn_reading.specs.declared.pointer.Pointer.{Pointer}
use Rattle.capn_reading.specs.declared.pointer.Pointer.TheVariants as pointer
use Rattle.capn_reading.specs.declared.pointer.Tag.{Tag}
use Rattle.capn_trees.specs.Widths.{bits_of}

-- the 30 bits above the kind
abbrev pub middle : ℕ → ℕ
middle word = word / 4 % 2 ^ 30

-- the upper 32 bits
abbrev pub upper : ℕ → ℕ
upper word = word / 2 ^ 32

-- the shape that the upper half of a list pointer says: 3 bits of element size, 29 bits of count
abbrev pub list_shape : ℕ → Shape
list_shape half =
    if half % 8 == 0 then shape.Packed width.Void (half / 8)
    else if half % 8 == 1 then shape.Packed width.Bit (half / 8)
    else if half % 8 == 2 then shape.Packed width.Byte (half / 8)
    else if half % 8 == 3 then shape.Packed width.TwoBytes (half / 8)
    else if half % 8 == 4 then shape.Packed width.FourBytes (half / 8)
    else if half % 8 == 5 then shape.Packed width.EightBytes (half / 8)
    else if half % 8 == 6 then shape.Pointers (half / 8)
    else shape.Composite (half / 8)

-- 16 bits of data words, 16 bits of pointers
abbrev pub struct_shape : ℕ → Shape
struct_shape half = shape.Struct (half % 2 ^ 16) (half / 2 ^ 16)

abbrev pub decoded : ℕ → Pointer
decoded word =
    if word == 0 then pointer.Null
    else if word % 4 == 0 then pointer.Content (middle word) (struct_shape (upper word))
    else if word % 4 == 1 then pointer.Content (middle word) (list_shape (upper word))
    else if word % 4 == 2 then pointer.Far (middle word % 2 == 1) (middle word / 2) (upper word)
    else pointer.Other (middle word) (upper word)

-- how many words a content takes
abbrev pub words_of : Shape → ℕ
words_of (shape.Struct data_words pointer_words) = data_words + pointer_words
words_of (shape.Packed width count) = (count * bits_of width + 63) / 64
words_of (shape.Pointers count) = count
words_of (shape.Composite words) = words + 1

-- a tag has a struct pointer's layout, with the number of elements in the offset's place
abbrev pub tag_of : ℕ → Option Tag
tag_of word =
    if word % 4 == 0 then Some (record { count = middle word; data_words = upper word % 2 ^ 16; pointer_words = upper word / 2 ^ 16 })
    else None
