-- When a tree can't be written. Each reason is looked for in the whole tree, one reason after the other.
use Rattle.std.specs.Prelude.{ℕ, ◌+◌, ◌-◌, ◌*◌, ◌==◌, Bool, true, false, not, ◌&&◌, ◌||◌, if◌then◌else◌, nat_lt, List, [], ◌∷◌, ◌++◌, length, Option, Some, None}
use Rattle.capn_trees.specs.declared.faults.WriteFault.{WriteFault}
use Rattle.capn_trees.specs.declared.faults.WriteFault.TheVariants as fault
use Rattle.capn_trees.specs.Trees.{Tree, null, struct, list, capability, Trees, no_trees, tree, Elements, packed, pointers, structs, Structs, no_structs, struct_of, trees_count, structs_count}
use Rattle.capn_trees.specs.Limits.{most_visited, most_words, most_levels}
use Rattle.capn_trees.specs.Widths.{packed_size}

-- a place in a tree: what stands there, and how many levels are left for contents there
pub record Part : Type 0 where
  pub levels : ℕ
  pub what : Tree

-- All that a tree holds besides null, itself first, with so many levels left for it.
abbrev mutual
  pub parts : Tree → ℕ → List Part
  parts null levels = []
  parts (capability index) levels = record { levels = levels; what = capability index } ∷ []
  parts (struct data_words ts) levels = record { levels = levels; what = struct data_words ts } ∷ parts_of_all ts (levels - 1)
  parts (list elements) levels = record { levels = levels; what = list elements } ∷ parts_of_list elements (levels - 1)

  pub parts_of_all : Trees → ℕ → List Part
  parts_of_all no_trees levels = []
  parts_of_all (tree t ts) levels = parts t levels ++ parts_of_all ts levels

  pub parts_of_list : Elements → ℕ → List Part
  parts_of_list (packed bits xs) levels = []
  parts_of_list (pointers ts) levels = parts_of_all ts levels
  parts_of_list (structs data_words pointer_words ss) levels = parts_of_structs ss levels

  pub parts_of_structs : Structs → ℕ → List Part
  parts_of_structs no_structs levels = []
  parts_of_structs (struct_of data_words ts ss) levels = parts_of_all ts levels ++ parts_of_structs ss levels

-- all structs of a list have these two lengths
abbrev pub are_even : ℕ → ℕ → Structs → Bool
are_even data_words pointer_words no_structs = true
are_even data_words pointer_words (struct_of words ts ss) =
    length words == data_words && (trees_count ts == pointer_words && are_even data_words pointer_words ss)

-- a list of structs of which one has other lengths than the list says
abbrev pub is_uneven : Tree → Bool
is_uneven (list (structs data_words pointer_words ss)) = not (are_even data_words pointer_words ss)
is_uneven (list (packed bits xs)) = false
is_uneven (list (pointers ts)) = false
is_uneven (struct data_words ts) = false
is_uneven (capability index) = false
is_uneven null = false

abbrev pub is_content : Tree → Bool
is_content (struct data_words ts) = true
is_content (list elements) = true
is_content (capability index) = false
is_content null = false

-- a content where none may come any more
abbrev pub is_too_deep : Part → Bool
is_too_deep p = is_content p.what && p.levels == 0

-- a capability that is not in the table
abbrev pub is_beyond : ℕ → Tree → Bool
is_beyond caps (capability index) = not (nat_lt index caps)
is_beyond caps (struct data_words ts) = false
is_beyond caps (list elements) = false
is_beyond caps null = false

-- a section that the 16 bits of its size can't say, or a list without content that 29 bits can't
abbrev pub is_too_wide : Tree → Bool
is_too_wide (struct data_words ts) = nat_lt 65535 (length data_words) || nat_lt 65535 (trees_count ts)
is_too_wide (list (packed bits xs)) = bits == 0 && nat_lt 536870911 (length xs)
is_too_wide (list (pointers ts)) = false
is_too_wide (list (structs data_words pointer_words ss)) = false
is_too_wide (capability index) = false
is_too_wide null = false

-- the words that a content takes, without what its pointers lead to
abbrev pub words_taken : Tree → ℕ
words_taken (struct data_words ts) = length data_words + trees_count ts
words_taken (list (packed bits xs)) = packed_size bits (length xs)
words_taken (list (pointers ts)) = trees_count ts
words_taken (list (structs data_words pointer_words ss)) = structs_count ss * (data_words + pointer_words) + 1
words_taken (capability index) = 0
words_taken null = 0

-- the words that a visit of it counts, which are more where there are elements of size zero
abbrev pub words_visited : Tree → ℕ
words_visited (struct data_words ts) = length data_words + trees_count ts
words_visited (list (packed bits xs)) = packed_size bits (length xs)
words_visited (list (pointers ts)) = trees_count ts
words_visited (list (structs data_words pointer_words ss)) =
    structs_count ss * (data_words + pointer_words) + 1 + (if data_words + pointer_words == 0 then structs_count ss else 0)
words_visited (capability index) = 0
words_visited null = 0

-- some part of a tree is so
abbrev pub some_part : (Part → Bool) → List Part → Bool
some_part is_so [] = false
some_part is_so (p ∷ ps) = is_so p || some_part is_so ps

-- contents nest deeper than so many levels
abbrev pub is_deeper : Tree → ℕ → Bool
is_deeper t levels = some_part is_too_deep (parts t levels)

abbrev pub are_deeper : Trees → ℕ → Bool
are_deeper ts levels = some_part is_too_deep (parts_of_all ts levels)

-- the words of all parts together
abbrev pub all_words : (Tree → ℕ) → List Part → ℕ
all_words count [] = 0
all_words count (p ∷ ps) = count p.what + all_words count ps

-- why these parts can't be written, if there is a reason: the first in this order
abbrev pub refused : ℕ → List Part → Option WriteFault
refused caps ps =
    if some_part (λ p. is_uneven p.what) ps then Some fault.BadTag
    else if some_part is_too_deep ps then Some fault.Depth
    else if some_part (λ p. is_beyond caps p.what) ps then Some fault.CapIndex
    else if some_part (λ p. is_too_wide p.what) ps || nat_lt most_words (1 + all_words words_taken ps) then Some fault.TooLarge
    else if nat_lt most_visited (all_words words_visited ps) then Some fault.Traversal
    else None

-- why a tree can't be written with so many capabilities; the root pointer is one word
abbrev pub refusal : Tree → ℕ → Option WriteFault
refusal t caps = refused caps (parts t most_levels)
