use Rattle.std.proofs.Common.{◌≡◌, map}
use Rattle.std.specs.Prelude.{replicate}
use Rattle.std.specs.Vec.{vec_len, vec_capacity}
use Rattle.capn_trees.specs.Trees.{null}
use Rattle.capn_trees.specs.Views.{view}
use Rattle.lovendak_c_trees.proofs.trees.nulls.Given as goal

abbrev pub invariant-loop : goal.invariant-loop
invariant-loop l = record {
  same : map view l.trees.items ≡ replicate l.counter null;
  count : vec_len l.trees ≡ l.counter;
  room : vec_capacity l.trees ≡ l.count;
}
