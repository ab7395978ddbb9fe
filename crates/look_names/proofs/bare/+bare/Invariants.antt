use Rattle.std.proofs.Common.{◌+◌, ◌*◌}
use denote.Shadow.{shadow}
use denote.Text.{Utf8}
use Rattle.look_names.proofs.bare.+bare.Given as goal

-- the levels that are left, and what is called on each
abbrev pub decreases-write_tree : goal.decreases-write_tree
decreases-write_tree l = 4 * l.levels

abbrev pub decreases-write_struct : goal.decreases-write_struct
decreases-write_struct l = 4 * l.levels + 1

abbrev pub decreases-write_structs : goal.decreases-write_structs
decreases-write_structs l = 4 * l.levels + 2

abbrev pub decreases-write_pointers : goal.decreases-write_pointers
decreases-write_pointers l = 4 * l.levels + 2

abbrev pub decreases-write_items : goal.decreases-write_items
decreases-write_items l = 4 * l.levels + 3

abbrev pub invariant-write_struct-loop-word : goal.invariant-write_struct-loop-word
invariant-write_struct-loop-word l = shadow (Utf8 l.between)

abbrev pub invariant-write_struct-loop-pointer : goal.invariant-write_struct-loop-pointer
invariant-write_struct-loop-pointer l = shadow (Utf8 l.between)
