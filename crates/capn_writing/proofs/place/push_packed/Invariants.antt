use Rattle.std.proofs.Common.{◌≡◌, ◌+◌, ◌-◌, ◌++◌, length, map}
use Rattle.std.specs.Vec.{vec_len, vec_capacity}
use Rattle.capn_writing.specs.Placing.{packed_words}
use Rattle.capn_trees.specs.Widths.{AreOf, packed_size}
use Rattle.capn_writing.proofs.place.push_packed.Given as goal

-- the words so far, and the elements that are left
abbrev pub invariant-loop : goal.invariant-loop
invariant-loop g l = record {
  fit : AreOf g.E.Element.BITS (map g.E.Element.said l.rest);
  same : l.words.items ++ packed_words g.E.Element.BITS (packed_size g.E.Element.BITS (length l.elements) - l.counter) (map g.E.Element.said l.rest) ≡ l.fn.words.items ++ packed_words g.E.Element.BITS (packed_size g.E.Element.BITS (length l.elements)) (map g.E.Element.said l.elements);
  count : vec_len l.words ≡ vec_len l.fn.words + l.counter;
  capacity : vec_capacity l.words ≡ vec_capacity l.fn.words;
}
