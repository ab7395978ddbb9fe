use Rattle.std.proofs.Common.{◌≡◌, length, take}
use Rattle.rpc_machine.specs.Progress.{numbers}
use Rattle.core_step_collects.proofs.flags.copy_ids.Given as goal

abbrev pub invariant-loop-at : goal.invariant-loop-at
invariant-loop-at l = (length l.copied ≡ length l.fn.copied) × (take l.at l.copied ≡ numbers (take l.at l.ids))
