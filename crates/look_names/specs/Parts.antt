-- Structs, lists of structs and texts in a tree: "Structs", "Lists" and "Blobs" of the encoding specification. What is past
-- the end of a struct is zero or null, and what is of another kind than it should be is empty.
use Rattle.std.specs.Prelude.{ℕ, ◌-◌, ◌==◌, ◌&&◌, if◌then◌else◌, List, [], length, take, slice_index, Option, Some, None, unwrap_or}
use Rattle.std.specs.Str.{is_utf8}
use Rattle.capn_trees.specs.Trees.{Tree, null, struct, list, capability, Elements, packed, pointers, structs, Structs, no_structs, pointer_at}
use Rattle.rpc_codec_parts.specs.Blocks.{Block, empty}

abbrev pub part_of : Tree → Block
part_of null = empty
part_of (struct words ts) = record { words = words; pointers = ts }
part_of (list elements) = empty
part_of (capability index) = empty

-- the struct that pointer n leads to
abbrev pub part_at : Block → ℕ → Block
part_at b n = part_of (pointer_at b.pointers n)

abbrev pub rows_in : Elements → Structs
rows_in (packed bits xs) = no_structs
rows_in (pointers ts) = no_structs
rows_in (structs data_words pointer_words ss) = ss

abbrev pub rows_of : Tree → Structs
rows_of null = no_structs
rows_of (list elements) = rows_in elements
rows_of (struct words ts) = no_structs
rows_of (capability index) = no_structs

-- the structs of the list that pointer n leads to
abbrev pub rows_at : Block → ℕ → Structs
rows_at b n = rows_of (pointer_at b.pointers n)

-- a text, with a zero behind it
abbrev pub ended : ℕ → List ℕ → Option (List ℕ)
ended last text = if last == 0 && is_utf8 text then Some text else None

-- the text that bytes are, if they are one
abbrev pub text_in : List ℕ → Option (List ℕ)
text_in bytes =
    if length bytes == 0 then None
    else ended (slice_index bytes (length bytes - 1)) (take (length bytes - 1) bytes)

abbrev pub text_of_elements : Elements → List ℕ
text_of_elements (packed bits xs) = if bits == 8 then unwrap_or (text_in xs) [] else []
text_of_elements (pointers ts) = []
text_of_elements (structs data_words pointer_words ss) = []

abbrev pub text_of : Tree → List ℕ
text_of null = []
text_of (list elements) = text_of_elements elements
text_of (struct words ts) = []
text_of (capability index) = []

-- the text that pointer n leads to
abbrev pub text_at : Block → ℕ → List ℕ
text_at b n = text_of (pointer_at b.pointers n)
