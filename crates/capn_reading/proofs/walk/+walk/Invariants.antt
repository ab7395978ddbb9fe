use Rattle.std.proofs.Common.{◌≡◌, ◌+◌, ◌*◌, ◌-◌}
use Rattle.capn_reading.specs.Reading.{pointers_at, structs_at, reading, visited_of}
use Rattle.capn_reading.proofs.walk.+walk.Given as goal

-- the levels that are left, and four calls on each level
abbrev pub decreases-walk_pointer : goal.decreases-walk_pointer
decreases-walk_pointer l = 4 * l.levels

abbrev pub decreases-walk_pointers : goal.decreases-walk_pointers
decreases-walk_pointers l = 4 * l.levels + 1

abbrev pub decreases-walk_structs : goal.decreases-walk_structs
decreases-walk_structs l = 4 * l.levels + 2

abbrev pub decreases-walk_content : goal.decreases-walk_content
decreases-walk_content l = 4 * l.levels + 3

-- what is left to read ends as all of it does
abbrev pub invariant-walk_pointers-loop-k : goal.invariant-walk_pointers-loop-k
invariant-walk_pointers-loop-k l =
    visited_of (pointers_at (reading l.message l.caps l.levels) l.segment (l.start + l.k) (l.count - l.k) l.visited)
    ≡ visited_of (pointers_at (reading l.message l.caps l.levels) l.segment l.start l.count l.fn.visited)

abbrev pub invariant-walk_structs-loop : goal.invariant-walk_structs-loop
invariant-walk_structs-loop l = record {
  place : l.at ≡ l.row.start + l.counter * (l.row.data_words + l.row.pointer_words);
  same : visited_of (structs_at l.message (reading l.message l.caps l.levels) l.segment l.row.data_words l.row.pointer_words l.at (l.row.count - l.counter) l.visited)
      ≡ visited_of (structs_at l.message (reading l.message l.caps l.levels) l.segment l.row.data_words l.row.pointer_words l.row.start l.row.count l.fn.visited);
}
