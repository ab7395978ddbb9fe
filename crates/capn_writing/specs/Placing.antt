-- What is laid down for a tree, in one segment: "Structs", "Lists" and "Capabilities (Interfaces)" of the
-- encoding specification. A content comes behind all that was placed before it, and behind it comes what
-- its pointers lead to, in their order.
use Rattle.std.specs.Prelude.{ℕ, zero, suc, ◌+◌, ◌-◌, ◌*◌, ◌/◌, ◌^◌, ◌==◌, if◌then◌else◌, List, [], ◌∷◌, ◌++◌, length, take, drop}
use Rattle.std.specs.List.{flat_map}
use Rattle.byteorder.specs.Endian.{little_bytes}
use Rattle.capn_trees.specs.Trees.{Tree, null, struct, list, capability, Trees, no_trees, tree, Elements, packed, pointers, structs, Structs, no_structs, struct_of, trees_count, structs_count}
use Rattle.capn_trees.specs.Widths.{packed_size}

-- elements of so many bits as one number, the first in the lowest bits
abbrev pub joined : ℕ → List ℕ → ℕ
joined bits [] = 0
joined bits (x ∷ xs) = joined bits xs * 2 ^ bits + x

-- so many words of elements; the bits after the last element are zero
abbrev pub packed_words : ℕ → ℕ → List ℕ → List ℕ
packed_words bits zero xs = []
packed_words bits (suc n) xs = joined bits (take (64 / bits) xs) ∷ packed_words bits n (drop (64 / bits) xs)

-- the number that a list pointer has for elements of so many bits
abbrev pub size_number : ℕ → ℕ
size_number bits =
    if bits == 0 then 0 else if bits == 1 then 1 else if bits == 8 then 2
    else if bits == 16 then 3 else if bits == 32 then 4 else 5

-- a struct pointer, or a tag with the number of elements in the offset's place
abbrev pub struct_word : ℕ → ℕ → ℕ → ℕ
struct_word offset data_words pointer_words = 4 * offset + 2 ^ 32 * (data_words + 2 ^ 16 * pointer_words)

abbrev pub list_word : ℕ → ℕ → ℕ → ℕ
list_word offset size count = 1 + 4 * offset + 2 ^ 32 * (size + 8 * count)

abbrev pub capability_word : ℕ → ℕ
capability_word index = 3 + 2 ^ 32 * index

-- the offset of a content at word `next` from a pointer at word `at`
abbrev pub offset_of : ℕ → ℕ → ℕ
offset_of at next = next - (at + 1)

-- the pointer to a struct; a struct of size zero takes no words, and its pointer's offset is -1
abbrev pub struct_pointer : ℕ → ℕ → ℕ → ℕ → ℕ
struct_pointer at next data_words pointer_words =
    if data_words + pointer_words == 0 then struct_word (2 ^ 30 - 1) 0 0
    else struct_word (offset_of at next) data_words pointer_words

-- a content, then what its pointers lead to
abbrev pub content_then : List ℕ × List ℕ → List ℕ
content_then placed = placed.0 ++ placed.1

abbrev mutual
  -- The pointer at word `at` to a tree whose content begins at word `next`, and the words from `next` on.
  pub placed : Tree → ℕ → ℕ → ℕ × List ℕ
  placed null at next = (0, [])
  placed (capability index) at next = (capability_word index, [])
  placed (struct data_words ts) at next = (
    struct_pointer at next (length data_words) (trees_count ts),
    data_words ++ content_then (placed_all ts (next + length data_words) (next + length data_words + trees_count ts)),
  )
  placed (list elements) at next = placed_list elements at next

  -- The pointers from word `at` on, and the words from `next` on, where what they lead to stands.
  pub placed_all : Trees → ℕ → ℕ → List ℕ × List ℕ
  placed_all no_trees at next = ([], [])
  placed_all (tree t ts) at next = (
    (placed t at next).0 ∷ (placed_all ts (at + 1) (next + length (placed t at next).1)).0,
    (placed t at next).1 ++ (placed_all ts (at + 1) (next + length (placed t at next).1)).1,
  )

  pub placed_list : Elements → ℕ → ℕ → ℕ × List ℕ
  placed_list (packed bits xs) at next =
      (list_word (offset_of at next) (size_number bits) (length xs), packed_words bits (packed_size bits (length xs)) xs)
  placed_list (pointers ts) at next =
      (list_word (offset_of at next) 6 (trees_count ts), content_then (placed_all ts next (next + trees_count ts)))
  placed_list (structs data_words pointer_words ss) at next = (
    list_word (offset_of at next) 7 (structs_count ss * (data_words + pointer_words)),
    struct_word (structs_count ss) data_words pointer_words
        ∷ content_then (placed_structs ss (next + 1) (next + 1 + structs_count ss * (data_words + pointer_words))),
  )

  -- The structs from word `at` on, each with its data words before its pointers, and the words from `next` on.
  pub placed_structs : Structs → ℕ → ℕ → List ℕ × List ℕ
  placed_structs no_structs at next = ([], [])
  placed_structs (struct_of data_words ts ss) at next = (
    data_words ++ ((placed_all ts (at + length data_words) next).0
        ++ (placed_structs ss (at + length data_words + trees_count ts) (next + length (placed_all ts (at + length data_words) next).1)).0),
    (placed_all ts (at + length data_words) next).1
        ++ (placed_structs ss (at + length data_words + trees_count ts) (next + length (placed_all ts (at + length data_words) next).1)).1,
  )

-- the segment of a tree: the root pointer, and all that it leads to
abbrev pub segment_for : Tree → List ℕ
segment_for t = (placed t 0 1).0 ∷ (placed t 0 1).1

-- a message of one segment
abbrev pub one_segment : List ℕ → List ℕ
one_segment words = little_bytes 4 0 ++ (little_bytes 4 (length words) ++ flat_map (little_bytes 8) words)

-- the bytes that are written for a tree
abbrev pub written : Tree → List ℕ
written t = one_segment (segment_for t)
