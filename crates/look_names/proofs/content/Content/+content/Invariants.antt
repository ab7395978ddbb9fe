use Rattle.std.proofs.Common.{◌+◌, ◌*◌}
use Rattle.look_names.proofs.content.Content.+content.Given as goal

-- the levels that are left, and what is called on each
abbrev pub decreases-write_pointer : goal.decreases-write_pointer
decreases-write_pointer l = 4 * l.levels

abbrev pub decreases-write_part : goal.decreases-write_part
decreases-write_part l = 4 * l.levels + 1

abbrev pub decreases-write_field : goal.decreases-write_field
decreases-write_field l = 4 * l.levels + 2

abbrev pub decreases-write_tree : goal.decreases-write_tree
decreases-write_tree l = 4 * l.levels + 2

abbrev pub decreases-write_pointers : goal.decreases-write_pointers
decreases-write_pointers l = 4 * l.levels + 2

abbrev pub decreases-write_structs : goal.decreases-write_structs
decreases-write_structs l = 4 * l.levels + 2

abbrev pub decreases-write_list : goal.decreases-write_list
decreases-write_list l = 4 * l.levels + 3
