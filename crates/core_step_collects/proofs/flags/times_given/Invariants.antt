use Rattle.std.proofs.Common.{◌≡◌, ◌≤◌, take}
use Rattle.std.specs.Prelude.{nat_eq}
use Rattle.rpc_machine.specs.Lists.{how_many}
use Rattle.rpc_machine.specs.Progress.{numbers}
use Rattle.core_step_collects.proofs.flags.times_given.Given as goal

abbrev pub invariant-loop-other : goal.invariant-loop-other
invariant-loop-other l = (l.times ≡ how_many (nat_eq l.id.0) (numbers (take l.other-index l.ids))) × (l.times ≤ l.other-index)
