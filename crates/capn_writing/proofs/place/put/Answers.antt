use Rattle.std.proofs.Common.{arith}
use Rattle.capn_writing.proofs.place.put.Goals as goal

pub overflow_add-at : goal.overflow_add-at
overflow_add-at c = let inside = c.requires in omega (arith, inside)

pub slice_bounds-copy_from_slice-count : goal.slice_bounds-copy_from_slice-count
slice_bounds-copy_from_slice-count c = let inside = c.requires in omega (arith, inside)

pub slice_bounds-copy_from_slice-start : goal.slice_bounds-copy_from_slice-start
slice_bounds-copy_from_slice-start c = let inside = c.requires in omega (arith, inside)

pub slice_bounds-copy_from_slice-end : goal.slice_bounds-copy_from_slice-end
slice_bounds-copy_from_slice-end c = let inside = c.requires in omega (arith, inside)
