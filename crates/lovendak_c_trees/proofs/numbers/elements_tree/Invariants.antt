use Rattle.std.proofs.Common.{◌≡◌, length, map, take}
use Rattle.std.specs.Vec.{vec_len, vec_capacity}
use Rattle.lovendak_c_trees.proofs.numbers.elements_tree.Given as goal

-- the elements so far say the numbers, and there is room for the others
abbrev pub invariant-loop-number : goal.invariant-loop-number
invariant-loop-number g l = record {
  same : map g.E.Element.said l.values.items ≡ take l.number-index l.numbers;
  count : vec_len l.values ≡ l.number-index;
  room : vec_capacity l.values ≡ length l.numbers;
}
