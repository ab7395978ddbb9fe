-- The tree that a pointer leads to, with the visited words after it, or the first check that fails. The
-- pointers of a content are taken in their order, each from the visited words that the one before left.
use Rattle.std.specs.Prelude.{◌≡◌, ℕ, zero, suc, ◌+◌, ◌*◌, ◌/◌, ◌%◌, ◌^◌, ◌==◌, if◌then◌else◌, List, [], ◌∷◌, length, take, drop, slice_index, Result, Ok, Err, IsOk}
use Rattle.capn_trees.specs.declared.faults.PayloadFault.{PayloadFault}
use Rattle.capn_trees.specs.declared.faults.PayloadFault.TheVariants.{OutOfBounds, Depth}
use Rattle.capn_reading.specs.declared.referent.Referent.{Referent}
use Rattle.capn_reading.specs.declared.referent.Referent.TheVariants as referent
use Rattle.capn_reading.specs.declared.layout.Layout.{Layout}
use Rattle.capn_reading.specs.declared.layout.Layout.TheVariants as layout
use Rattle.capn_trees.specs.Widths.{bits_of}
use Rattle.capn_reading.specs.Segments.{segment_of}
use Rattle.capn_reading.specs.Following.{◌>>=◌, counted_before, visit, followed}
use Rattle.capn_reading.specs.Layouts.{laid, weight}
use Rattle.capn_reading.specs.Framing.{framing, framing_within}
use Rattle.capn_trees.specs.Trees.{Tree, null, struct, list, capability, Trees, no_trees, tree, packed, pointers, structs, Structs, no_structs, struct_of}
use Rattle.capn_trees.specs.Limits.{most_levels, most_visited}

-- what is read, with the visited words after it
abbrev pub Reading : Type 0 → Type 0
Reading X = Result (X × ℕ) PayloadFault

-- element k of a list of elements of so many bits, in these words
abbrev pub element : List ℕ → ℕ → ℕ → ℕ
element words bits k = slice_index words (k * bits / 64) / 2 ^ (k * bits % 64) % 2 ^ bits

-- so many elements from the kth on
unfoldable pub elements : List ℕ → ℕ → ℕ → ℕ → List ℕ
elements words bits k zero = []
elements words bits k (suc n) = element words bits k ∷ elements words bits (k + 1) n

-- `read segment i visited` reads the pointer at word i; these read so many pointers from word i on
unfoldable pub pointers_at : (ℕ → ℕ → ℕ → Reading Tree) → ℕ → ℕ → ℕ → ℕ → Reading Trees
pointers_at read s i zero visited = Ok (no_trees, visited)
pointers_at read s i (suc n) visited = do
  first ← read s i visited
  rest ← pointers_at read s (i + 1) n first.1
  Ok (tree first.0 rest.0, rest.1)

-- so many structs from word i on, each with its data words before its pointers
unfoldable pub structs_at : List (List ℕ) → (ℕ → ℕ → ℕ → Reading Tree) → ℕ → ℕ → ℕ → ℕ → ℕ → ℕ → Reading Structs
structs_at m read s data_words pointer_words i zero visited = Ok (no_structs, visited)
structs_at m read s data_words pointer_words i (suc n) visited = do
  first ← pointers_at read s (i + data_words) pointer_words visited
  rest ← structs_at m read s data_words pointer_words (i + (data_words + pointer_words)) n first.1
  Ok (struct_of (take data_words (drop i (segment_of m s))) first.0 rest.0, rest.1)

-- a content in segment s
unfoldable pub content_of : List (List ℕ) → (ℕ → ℕ → ℕ → Reading Tree) → ℕ → Layout → ℕ → Reading Tree
content_of m read s (layout.Struct start data_words pointer_words) visited = do
  found ← pointers_at read s (start + data_words) pointer_words visited
  Ok (struct (take data_words (drop start (segment_of m s))) found.0, found.1)
content_of m read s (layout.Packed start width count) visited =
    Ok (list (packed (bits_of width) (elements (drop start (segment_of m s)) (bits_of width) 0 count)), visited)
content_of m read s (layout.Pointers start count) visited = do
  found ← pointers_at read s start count visited
  Ok (list (pointers found.0), found.1)
content_of m read s (layout.Structs start count data_words pointer_words words) visited = do
  found ← structs_at m read s data_words pointer_words start count visited
  Ok (list (structs data_words pointer_words found.0), found.1)

-- what a pointer leads to, where no content may come any more
unfoldable pub shallow : Referent → ℕ → Reading Tree
shallow referent.Null visited = Ok (null, visited)
shallow (referent.Capability index) visited = Ok (capability index, visited)
shallow (referent.Content content) visited = Err Depth

-- what a pointer leads to, where `read` reads the pointers of its content
unfoldable pub deep : List (List ℕ) → (ℕ → ℕ → ℕ → Reading Tree) → Referent → ℕ → Reading Tree
deep m read referent.Null visited = Ok (null, visited)
deep m read (referent.Capability index) visited = Ok (capability index, visited)
deep m read (referent.Content content) visited = do
  place ← laid m content
  after ← visit visited (weight place)
  content_of m read content.segment place after

-- the pointer at word i of segment s, with contents nested at most so deep
unfoldable pub reading : List (List ℕ) → ℕ → ℕ → ℕ → ℕ → ℕ → Reading Tree
reading m caps zero s i visited = do
  found ← followed m caps s i visited
  shallow found.0 found.1
reading m caps (suc levels) s i visited = do
  found ← followed m caps s i visited
  deep m (reading m caps levels) found.0 found.1

-- something is read, from some number of visited words on
abbrev pub Reads : {X : Type 0} → (ℕ → Reading X) → Type 0
Reads read = (visited : ℕ) × IsOk (read visited)

-- this is what is read, from whatever number of visited words on
abbrev pub ReadsTo : {X : Type 0} → (ℕ → Reading X) → X → Type 0
ReadsTo read x = (visited : ℕ) → IsOk (read visited) → (after : ℕ) × (read visited ≡ Ok (x, after))

-- what the root pointer leads to, where so many words may be visited, and contents nest at most so deep. It is the first
-- word of segment 0.
abbrev pub root_up_to : ℕ → List (List ℕ) → ℕ → ℕ → Reading Tree
root_up_to words m caps levels =
    if length (segment_of m 0) == 0 then Err OutOfBounds
    else reading m caps levels 0 0 (counted_before words)

-- what a message of at most so many words says, of which at most so many are visited
abbrev pub message_up_to : ℕ → List ℕ → ℕ → Reading Tree
message_up_to words bytes caps = framing_within words bytes >>= λ m. root_up_to words m caps most_levels

-- what the root pointer leads to, within the limits of docs/encoding.md
unfoldable pub root_of : List (List ℕ) → ℕ → Reading Tree
root_of m caps = root_up_to most_visited m caps most_levels

-- what the bytes of a message say, for so many capabilities
unfoldable pub message_of : List ℕ → ℕ → Reading Tree
message_of bytes caps = framing bytes >>= λ m. root_of m caps

-- the same, where contents nest at most so deep
unfoldable pub root_within : List (List ℕ) → ℕ → ℕ → Reading Tree
root_within m caps levels = root_up_to most_visited m caps levels

unfoldable pub message_within : List ℕ → ℕ → ℕ → Reading Tree
message_within bytes caps levels = framing bytes >>= λ m. root_within m caps levels

-- the counted words alone
abbrev pub visited_of : {X : Type 0} → Reading X → Result ℕ PayloadFault
visited_of (Ok x) = Ok x.1
visited_of (Err e) = Err e

-- the tree that was read
abbrev pub tree_read : Reading Tree → Tree
tree_read (Ok x) = x.0
tree_read (Err e) = null
