-- What is found in the parts of a tree, each looked at once.
use Rattle.std.specs.Prelude.{ℕ, ◌+◌, ◌||◌, if◌then◌else◌, nat_lt, List, [], ◌∷◌, Option, Some, None}
use Rattle.capn_trees.specs.declared.faults.WriteFault.{WriteFault}
use Rattle.capn_trees.specs.declared.faults.WriteFault.TheVariants as fault
use Rattle.capn_trees.specs.declared.measure.Measure.{Measure}
use Rattle.capn_trees.specs.Writable.{Part, is_uneven, is_too_deep, is_beyond, is_too_wide, words_taken, words_visited}

-- a number of words, or one more than is allowed
abbrev pub capped : ℕ → ℕ
capped n = if nat_lt 65536 n then 65537 else n

abbrev pub own : ℕ → Part → Measure
own caps p = record {
  is_uneven = is_uneven p.what;
  is_too_deep = is_too_deep p;
  is_beyond = is_beyond caps p.what;
  is_too_wide = is_too_wide p.what;
  words = capped (words_taken p.what);
  visited = capped (words_visited p.what);
}

abbrev pub together : Measure → Measure → Measure
together m n = record {
  is_uneven = m.is_uneven || n.is_uneven;
  is_too_deep = m.is_too_deep || n.is_too_deep;
  is_beyond = m.is_beyond || n.is_beyond;
  is_too_wide = m.is_too_wide || n.is_too_wide;
  words = capped (m.words + n.words);
  visited = capped (m.visited + n.visited);
}

-- what was found before and in these parts
abbrev pub measured : ℕ → Measure → List Part → Measure
measured caps m [] = m
measured caps m (p ∷ ps) = measured caps (together m (own caps p)) ps

-- the reason not to write what was found, if there is one
abbrev pub told : Measure → Option WriteFault
told m =
    if m.is_uneven then Some fault.BadTag
    else if m.is_too_deep then Some fault.Depth
    else if m.is_beyond then Some fault.CapIndex
    else if m.is_too_wide || nat_lt 65536 m.words then Some fault.TooLarge
    else if nat_lt 65536 m.visited then Some fault.Traversal
    else None
