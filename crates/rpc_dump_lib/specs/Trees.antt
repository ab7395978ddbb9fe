-- The tree of a payload as JSON: docs/messages.md, "Looking into a captured conversation".
use Rattle.std.specs.Prelude.{ℕ, ◌-◌, ◌==◌, ◌&&◌, if◌then◌else◌, List, length, take, slice_index, Option, None, Some, codes}
use Rattle.std.specs.Str.{is_utf8}
use Rattle.serde_json.specs.Data.{Data, null, boolean, string, array, object, Items, no_items, item, no_members, member}
use Rattle.capn_trees.specs.Trees as tree
use Rattle.capn_trees.specs.Trees.{Tree, Trees, Elements, Structs}
use Rattle.trace_write.specs.Parts.{nat, list, only}

-- a text, with a zero behind it ("Text" of the encoding specification)
abbrev pub ended : ℕ → List ℕ → Option (List ℕ)
ended last text = if last == 0 && is_utf8 text then Some text else None

-- the text that bytes are, if they are one
abbrev pub text_in : List ℕ → Option (List ℕ)
text_in bytes =
    if length bytes == 0 then None
    else ended (slice_index bytes (length bytes - 1)) (take (length bytes - 1) bytes)

abbrev pub text_or : List ℕ → Option (List ℕ) → Data
text_or bytes (Some text) = only (codes "text") (string text)
text_or bytes None = only (codes "bytes") (list nat bytes)

abbrev pub bytes_data : List ℕ → Data
bytes_data bytes = text_or bytes (text_in bytes)

-- the elements of so many bits each that a list without pointers has
abbrev pub packed_data : ℕ → List ℕ → Data
packed_data bits elements =
    if bits == 0 then only (codes "voids") (nat (length elements))
    else if bits == 1 then only (codes "bits") (list (λ b. boolean (b == 1)) elements)
    else if bits == 8 then bytes_data elements
    else if bits == 16 then only (codes "twos") (list nat elements)
    else if bits == 32 then only (codes "fours") (list nat elements)
    else only (codes "eights") (list nat elements)

abbrev pub words_and_pointers : List ℕ → Items → Data
words_and_pointers words pointers = object (
    member (codes "pointers") (array pointers) (
    member (codes "words") (list nat words) no_members))

abbrev mutual
  pub tree_data : Tree → Data
  tree_data tree.null = null
  tree_data (tree.struct words ts) = only (codes "struct") (words_and_pointers words (trees_data ts))
  tree_data (tree.list elements) = elements_data elements
  tree_data (tree.capability index) = only (codes "cap") (nat index)

  pub trees_data : Trees → Items
  trees_data tree.no_trees = no_items
  trees_data (tree.tree t ts) = item (tree_data t) (trees_data ts)

  pub elements_data : Elements → Data
  elements_data (tree.packed bits elements) = packed_data bits elements
  elements_data (tree.pointers ts) = only (codes "pointers") (array (trees_data ts))
  elements_data (tree.structs data_words pointer_words ss) = only (codes "structs") (array (structs_data ss))

  pub structs_data : Structs → Items
  structs_data tree.no_structs = no_items
  structs_data (tree.struct_of words ts ss) = item (words_and_pointers words (trees_data ts)) (structs_data ss)
