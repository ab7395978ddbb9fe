-- Where a writer may lay words down.
use Rattle.std.specs.Prelude.{◌≡◌, ℕ, ◌+◌, ◌*◌, ◌/◌, ◌≤◌, ◌<◌, false, List, [], ◌∷◌, ◌++◌, length, take, drop, ⊤}
use Rattle.capn_trees.specs.Writable.{Part, is_uneven, is_too_wide, words_visited}
use Rattle.capn_writing.specs.Placing.{size_number}

-- parts whose sizes their pointers and tags can say
abbrev pub HaveSizes : List Part → Type 0
HaveSizes [] = ⊤
HaveSizes (p ∷ ps) = (((is_uneven p.what ≡ false) × (is_too_wide p.what ≡ false)) × (words_visited p.what ≤ 65536)) × HaveSizes ps

-- the words with others in the place of those from word i on, and with more behind them
abbrev pub filled : List ℕ → ℕ → List ℕ × List ℕ → List ℕ
filled words i found = take i words ++ (found.0 ++ (drop (i + length found.0) words ++ found.1))

-- so many words more than those that there are fit into a segment, and into the room that was made
pub record HasRoom (more words room : ℕ) : Type 0 where
  pub few : words + more ≤ 65536
  pub spare : words + more ≤ room

-- elements of so many bits fill words, more than one in each
pub record FillWords (bits : ℕ) : Type 0 where
  pub some : 0 < bits
  pub whole : 64 / bits * bits ≡ 64
  pub most : bits < 64

-- and a list pointer has this number for them
pub record AreNarrow (bits size : ℕ) : Type 0 where
  pub fill : FillWords bits
  pub is_size : size ≡ size_number bits

-- the pointer is the first of what was found, and the second stands behind the words before; room was not given back
pub record IsLaid (found : ℕ × List ℕ) (pointer : ℕ) (before after : List ℕ) (room left : ℕ) : Type 0 where
  pub word : pointer ≡ found.0
  pub placed : after ≡ before ++ found.1
  pub capacity : room ≤ left
