-- What a pointer leads to: "Inter-Segment Pointers" and "Capabilities (Interfaces)" of the encoding
-- specification. A far pointer's landing pad counts as visited.
use Rattle.std.specs.Prelude.{ℕ, ◌+◌, ◌-◌, ◌^◌, Bool, true, false, ◌==◌, if◌then◌else◌, nat_lt, List, length, Option, Some, None, Result, Ok, Err}
use Rattle.capn_trees.specs.declared.faults.PayloadFault.{PayloadFault}
use Rattle.capn_trees.specs.declared.faults.PayloadFault.TheVariants.{OutOfBounds, BadFar, BadOther, CapIndex, Traversal}
use Rattle.capn_reading.specs.declared.pointer.Pointer.{Pointer}
use Rattle.capn_reading.specs.declared.pointer.Pointer.TheVariants as pointer
use Rattle.capn_reading.specs.declared.referent.Referent.{Referent}
use Rattle.capn_reading.specs.declared.referent.Referent.TheVariants as referent
use Rattle.capn_reading.specs.Pointers.{decoded}
use Rattle.capn_reading.specs.Segments.{word_at, size_of}

infixl 10 ◌>>=◌
abbrev pub ◌>>=◌ : {A B : Type 0} → Result A PayloadFault → (A → Result B PayloadFault) → Result B PayloadFault
(Ok x) >>= f = f x
(Err e) >>= f = Err e

-- Visited words are counted up to this number. A reader that may visit fewer counts the others before it begins.
abbrev pub most_counted : ℕ
most_counted = 4194304

-- what is counted before the first word, where so many words may be visited
abbrev pub counted_before : ℕ → ℕ
counted_before words = most_counted - words

-- the counted words after so many more
abbrev pub visit : ℕ → ℕ → Result ℕ PayloadFault
visit visited more = if nat_lt most_counted (visited + more) then Err Traversal else Ok (visited + more)

-- where the content of a pointer at word i begins, unless that is before the segment. The offset counts
-- from the pointer's end, as a 30-bit number in two's complement.
abbrev pub target : ℕ → ℕ → Option ℕ
target i offset =
    if nat_lt offset (2 ^ 29) then Some (i + 1 + offset)
    else if nat_lt (i + 1 + offset) (2 ^ 30) then None
    else Some (i + 1 + offset - 2 ^ 30)

abbrev pub pad_words : Bool → ℕ
pad_words false = 1
pad_words true = 2

-- a pad of one word is a struct or list pointer, whose offset counts from the pad
abbrev pub single_pad : ℕ → ℕ → Pointer → Result Referent PayloadFault
single_pad s i (pointer.Content offset shape) = Ok (referent.Content (record { segment = s; start = target i offset; shape = shape }))
single_pad s i pointer.Null = Err BadFar
single_pad s i (pointer.Far is_double offset segment) = Err BadFar
single_pad s i (pointer.Other middle index) = Err BadFar

-- the second word of a pad of two: a struct or list pointer with offset zero, for content at word i of segment s
abbrev pub pad_tag : List (List ℕ) → ℕ → ℕ → Pointer → Result Referent PayloadFault
pad_tag m s i (pointer.Content offset shape) =
    if offset == 0 then (if nat_lt s (length m) then Ok (referent.Content (record { segment = s; start = Some i; shape = shape })) else Err OutOfBounds)
    else Err BadFar
pad_tag m s i pointer.Null = Err BadFar
pad_tag m s i (pointer.Far is_double offset segment) = Err BadFar
pad_tag m s i (pointer.Other middle index) = Err BadFar

-- a pad of two words: a far pointer to the content, for which a pad of one word would do, and a tag
abbrev pub double_pad : List (List ℕ) → Pointer → Pointer → Result Referent PayloadFault
double_pad m (pointer.Far false offset segment) tag = pad_tag m segment offset tag
double_pad m (pointer.Far true offset segment) tag = Err BadFar
double_pad m (pointer.Content offset shape) tag = Err BadFar
double_pad m pointer.Null tag = Err BadFar
double_pad m (pointer.Other middle index) tag = Err BadFar

-- the pad at word i of segment s
abbrev pub pad_at : List (List ℕ) → Bool → ℕ → ℕ → Result Referent PayloadFault
pad_at m false s i = single_pad s i (decoded (word_at m s i))
pad_at m true s i = double_pad m (decoded (word_at m s i)) (decoded (word_at m s (i + 1)))

-- a pad has to lie in its segment
unfoldable pub far : List (List ℕ) → Bool → ℕ → Option ℕ → ℕ → ℕ → Result (Referent × ℕ) PayloadFault
far m is_double s None i visited = Err OutOfBounds
far m is_double s (Some size) i visited =
    if nat_lt size (i + pad_words is_double) then Err OutOfBounds
    else do
      after ← visit visited (pad_words is_double)
      content ← pad_at m is_double s i
      Ok (content, after)

-- a pointer of the fourth kind is a capability, whose other bits are zero, or is none
abbrev pub capability : ℕ → ℕ → ℕ → Result Referent PayloadFault
capability caps middle index =
    if middle == 0 then (if nat_lt index caps then Ok (referent.Capability index) else Err CapIndex)
    else Err BadOther

-- what a pointer at word i of segment s leads to, with the visited words after its pads
unfoldable pub leads : List (List ℕ) → ℕ → ℕ → ℕ → Pointer → ℕ → Result (Referent × ℕ) PayloadFault
leads m caps s i pointer.Null visited = Ok (referent.Null, visited)
leads m caps s i (pointer.Content offset shape) visited = Ok (referent.Content (record { segment = s; start = target i offset; shape = shape }), visited)
leads m caps s i (pointer.Far is_double offset segment) visited = far m is_double segment (size_of m segment) offset visited
leads m caps s i (pointer.Other middle index) visited = do
  found ← capability caps middle index
  Ok (found, visited)

abbrev pub followed : List (List ℕ) → ℕ → ℕ → ℕ → ℕ → Result (Referent × ℕ) PayloadFault
followed m caps s i visited = leads m caps s i (decoded (word_at m s i)) visited
