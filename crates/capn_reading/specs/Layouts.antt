-- Where a content lies, and of what it consists: "Structs" and "Lists" of the encoding specification.
use Rattle.std.specs.Prelude.{ℕ, ◌+◌, ◌*◌, ◌≤◌, ◌==◌, if◌then◌else◌, nat_lt, List, length, Option, Some, None, Result, Ok, Err}
use Rattle.capn_trees.specs.declared.faults.PayloadFault.{PayloadFault}
use Rattle.capn_trees.specs.declared.faults.PayloadFault.TheVariants.{OutOfBounds, BadTag}
use Rattle.capn_reading.specs.declared.pointer.Shape.{Shape}
use Rattle.capn_reading.specs.declared.pointer.Shape.TheVariants as shape
use Rattle.capn_reading.specs.declared.pointer.Tag.{Tag}
use Rattle.capn_reading.specs.declared.referent.Content.{Content}
use Rattle.capn_reading.specs.declared.layout.Layout.{Layout}
use Rattle.capn_reading.specs.declared.layout.Layout.TheVariants as layout
use Rattle.capn_reading.specs.Pointers.{words_of, tag_of}
use Rattle.capn_reading.specs.Segments.{segment_of, word_at}
use Rattle.capn_reading.specs.Following.{◌>>=◌, most_counted}

-- the first word of a content of so many words, which lies in a segment of that size
abbrev pub placed : Option ℕ → ℕ → ℕ → Result ℕ PayloadFault
placed None words size = Err OutOfBounds
placed (Some start) words size = if nat_lt size (start + words) then Err OutOfBounds else Ok start

-- a list of structs whose tag stands at word i: the elements take no more words than the pointer says
abbrev pub tagged : ℕ → ℕ → Option Tag → Result Layout PayloadFault
tagged i words None = Err BadTag
tagged i words (Some tag) =
    if nat_lt words (tag.count * (tag.data_words + tag.pointer_words)) then Err BadTag
    else Ok (layout.Structs (i + 1) tag.count tag.data_words tag.pointer_words words)

-- a content of this shape from word i of segment s on
abbrev pub shaped : List (List ℕ) → ℕ → ℕ → Shape → Result Layout PayloadFault
shaped m s i (shape.Struct data_words pointer_words) = Ok (layout.Struct i data_words pointer_words)
shaped m s i (shape.Packed width count) = Ok (layout.Packed i width count)
shaped m s i (shape.Pointers count) = Ok (layout.Pointers i count)
shaped m s i (shape.Composite words) = tagged i words (tag_of (word_at m s i))

unfoldable pub laid : List (List ℕ) → Content → Result Layout PayloadFault
laid m content = do
  start ← placed content.start (words_of content.shape) (length (segment_of m content.segment))
  shaped m content.segment start content.shape

-- the words that a visit counts: those of the content, and one for each element of size zero of a list of structs
abbrev pub weight : Layout → ℕ
weight (layout.Struct start data_words pointer_words) = data_words + pointer_words
weight (layout.Packed start width count) = words_of (shape.Packed width count)
weight (layout.Pointers start count) = count
weight (layout.Structs start count data_words pointer_words words) =
    words + 1 + (if data_words + pointer_words == 0 then count else 0)

-- the words before this one lie in a segment of that size, and in no more words than a message has
pub record EndsIn (size end : ℕ) : Type 0 where
  pub inside : end ≤ size
  pub small : end ≤ most_counted

-- a content, behind its tag, lies in a segment of that size
abbrev pub IsWithin : ℕ → Layout → Type 0
IsWithin size (layout.Struct start data_words pointer_words) = EndsIn size (start + data_words + pointer_words)
IsWithin size (layout.Packed start width count) = EndsIn size (start + words_of (shape.Packed width count))
IsWithin size (layout.Pointers start count) = EndsIn size (start + count)
IsWithin size (layout.Structs start count data_words pointer_words words) = EndsIn size (start + count * (data_words + pointer_words))
