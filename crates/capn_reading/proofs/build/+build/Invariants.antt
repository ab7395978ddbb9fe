use Rattle.std.proofs.Common.{◌≡◌, ℕ, ◌+◌, ◌*◌, ◌-◌}
use Rattle.std.specs.Prelude.{IsOk}
use Rattle.std.specs.Vec.{vec_len, vec_capacity}
use Rattle.capn_reading.specs.Reading.{pointers_at, structs_at, reading}
use Rattle.capn_trees.specs.Views.{trees_view, structs_view}
use Rattle.capn_reading.proofs.Joining.{with_trees, with_structs}
use Rattle.capn_reading.proofs.build.+build.Given as goal

abbrev pub decreases-build_pointer : goal.decreases-build_pointer
decreases-build_pointer l = 4 * l.levels

abbrev pub decreases-build_pointers : goal.decreases-build_pointers
decreases-build_pointers l = 4 * l.levels + 1

abbrev pub decreases-build_structs : goal.decreases-build_structs
decreases-build_structs l = 4 * l.levels + 2

abbrev pub decreases-build_content : goal.decreases-build_content
decreases-build_content l = 4 * l.levels + 3

-- the trees so far and those that are left are all of them
abbrev pub invariant-build_pointers-loop-k : goal.invariant-build_pointers-loop-k
invariant-build_pointers-loop-k l = record {
  same : (v : ℕ) → IsOk (pointers_at (reading l.message l.caps l.levels) l.segment l.start l.count v)
      → (w : ℕ) × (with_trees (trees_view l.trees.items) (pointers_at (reading l.message l.caps l.levels) l.segment (l.start + l.k) (l.count - l.k) w) ≡ pointers_at (reading l.message l.caps l.levels) l.segment l.start l.count v);
  count : vec_len l.trees ≡ l.k;
  room : vec_capacity l.trees ≡ l.count;
}

abbrev pub invariant-build_structs-loop : goal.invariant-build_structs-loop
invariant-build_structs-loop l = record {
  place : l.at ≡ l.row.start + l.counter * (l.row.data_words + l.row.pointer_words);
  same : (v : ℕ) → IsOk (structs_at l.message (reading l.message l.caps l.levels) l.segment l.row.data_words l.row.pointer_words l.row.start l.row.count v)
      → (w : ℕ) × (with_structs (structs_view l.items.items) (structs_at l.message (reading l.message l.caps l.levels) l.segment l.row.data_words l.row.pointer_words l.at (l.row.count - l.counter) w) ≡ structs_at l.message (reading l.message l.caps l.levels) l.segment l.row.data_words l.row.pointer_words l.row.start l.row.count v);
  count : vec_len l.items ≡ l.counter;
  room : vec_capacity l.items ≡ l.row.count;
}
