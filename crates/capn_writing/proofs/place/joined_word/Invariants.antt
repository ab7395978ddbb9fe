use Rattle.std.proofs.Common.{◌≡◌, ◌-◌, drop, length, map}
use Rattle.capn_writing.specs.Placing.{joined}
use Rattle.capn_writing.proofs.place.joined_word.Given as goal

-- the last elements are joined
abbrev pub invariant-loop-k : goal.invariant-loop-k
invariant-loop-k g l = l.word ≡ joined g.E.Element.BITS (drop (length l.elements - l.k) (map g.E.Element.said l.elements))
