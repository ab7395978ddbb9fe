-- What contracts see of a payload.
use Rattle.std.specs.Prelude.{◌≡◌, ◌<◌, ◌≤◌, ◌-◌, ℕ, slice_index, Bool, ◌==◌, ◌&&◌, nat_eq, List, [], ◌∷◌, Result, Ok, Err, IsOk, Option, Some, None}
use Rattle.std.specs.Cmp.{IsEquivalence, and_equiv, on_equiv, nat_eq_equiv}
use Rattle.std.specs.Cmp.Lexicographic.{pointwise, nat_list_eq_equiv}
use Rattle.capn_trees.specs.Trees.{Tree, null}
use Rattle.capn_trees.specs.Writable.{parts, words_visited, all_words, refused}
use Rattle.capn_trees.specs.declared.faults.PayloadFault.{PayloadFault}
use Rattle.capn_reading.specs.Following.{counted_before}
use Rattle.capn_reading.specs.Reading.{root_of, message_of, message_within, visited_of, tree_read}
use Rattle.capn_reading.specs.Framing.{IsFramed}

-- its bytes, and how many capabilities go with it
pub record Contents : Type 0 where
  pub bytes : List ℕ
  pub caps : ℕ

-- the bytes are a message of the encoding, within the limits, for that many capabilities
abbrev pub IsEncoded : Contents → Type 0
IsEncoded p = IsOk (message_of p.bytes p.caps)

-- what holds of every payload
pub record IsPayload (p : Contents) : Type 0 where
  pub encoded : IsEncoded p
  pub bytes : (i : ℕ) → slice_index p.bytes i < 256

-- the tree that a payload is
abbrev pub tree_of : Contents → Tree
tree_of p = tree_read (message_of p.bytes p.caps)

-- The bytes are a message of these segments, and its root pointer leads to this tree.
pub record Says (p : Contents) (m : List (List ℕ)) (t : Tree) : Type 0 where
  pub framed : IsFramed p.bytes m
  pub visited : ℕ
  pub read : root_of m p.caps ≡ Ok (t, visited)

-- The contents nest at most so deep, and a visit of them counts at most so many words. With as many levels or more left for it
-- the tree can be written, where these words leave room for a pointer to it.
pub record FitsWithin (p : Contents) (levels n : ℕ) : Type 0 where
  pub fits : (k : ℕ) → levels ≤ k → n < 65536 → refused p.caps (parts (tree_of p) k) ≡ None
  pub words : (k : ℕ) → levels ≤ k → all_words words_visited (parts (tree_of p) k) ≤ n

-- the words of a visit, of which the count begins so that it ends at the limit
abbrev pub words_by : Result ℕ PayloadFault → Option ℕ
words_by (Ok counted) = Some (counted - counted_before 65536)
words_by (Err f) = None

-- How many words a visit of the contents counts; none if they nest deeper than that.
abbrev pub words_in : Contents → ℕ → Option ℕ
words_in p levels = words_by (visited_of (message_within p.bytes p.caps levels))

-- the payload of a null pointer, with no capabilities: one segment of one word, after the word that says so
abbrev pub null_payload : Contents
null_payload = record { bytes = 0 ∷ 0 ∷ 0 ∷ 0 ∷ 1 ∷ 0 ∷ 0 ∷ 0 ∷ 0 ∷ 0 ∷ 0 ∷ 0 ∷ 0 ∷ 0 ∷ 0 ∷ 0 ∷ []; caps = 0 }

-- the payload of a pointer to capability 0, the only one
abbrev pub root_payload : Contents
root_payload = record { bytes = 0 ∷ 0 ∷ 0 ∷ 0 ∷ 1 ∷ 0 ∷ 0 ∷ 0 ∷ 3 ∷ 0 ∷ 0 ∷ 0 ∷ 0 ∷ 0 ∷ 0 ∷ 0 ∷ []; caps = 1 }

-- equality as a test
abbrev pub same_contents : Contents → Contents → Bool
same_contents p q = pointwise nat_eq p.bytes q.bytes && p.caps == q.caps

pub same_contents_equiv : IsEquivalence same_contents
same_contents_equiv = and_equiv (on_equiv (λ (p : Contents). p.bytes) nat_list_eq_equiv) (on_equiv (λ (p : Contents). p.caps) nat_eq_equiv)
