-- The numbers of the faults, in the order in which their checks stand.
use Rattle.std.specs.Prelude.{ℕ}
use Rattle.capn_trees.specs.declared.faults.PayloadFault.{PayloadFault}
use Rattle.capn_trees.specs.declared.faults.WriteFault.{WriteFault}
use Rattle.capn_trees.specs.declared.faults.WriteFault.TheVariants as write
use Rattle.capn_trees.specs.declared.faults.PayloadFault.TheVariants.{Memory, Short, TooManySegments, TooLarge, Trailing, OutOfBounds, BadFar, BadTag, BadOther, CapIndex, Depth, Traversal}

abbrev pub number_of : PayloadFault → ℕ
number_of Memory = 1
number_of Short = 2
number_of TooManySegments = 3
number_of TooLarge = 4
number_of Trailing = 5
number_of OutOfBounds = 6
number_of BadFar = 7
number_of BadTag = 8
number_of BadOther = 9
number_of CapIndex = 10
number_of Depth = 11
number_of Traversal = 12

abbrev pub write_number_of : WriteFault → ℕ
write_number_of write.Memory = 1
write_number_of write.TooLarge = 4
write_number_of write.BadTag = 8
write_number_of write.CapIndex = 10
write_number_of write.Depth = 11
write_number_of write.Traversal = 12
