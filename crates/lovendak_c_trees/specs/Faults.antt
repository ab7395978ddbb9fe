-- Why nothing is done.
use Rattle.capn_trees.specs.declared.faults.WriteFault.{WriteFault}
use Rattle.capn_trees.specs.declared.faults.WriteFault.TheVariants as write
use Rattle.lovendak_c_trees.specs.declared.fault.TreeFault.{TreeFault}
use Rattle.lovendak_c_trees.specs.declared.fault.TreeFault.TheVariants.{Memory, Full, CapCount}

-- what a reason not to write a tree is called here
abbrev pub not_written : WriteFault → TreeFault
not_written write.Memory = Memory
not_written write.CapIndex = CapCount
not_written write.TooLarge = Full
not_written write.BadTag = Full
not_written write.Depth = Full
not_written write.Traversal = Full
