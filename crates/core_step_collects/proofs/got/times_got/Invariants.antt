use Rattle.std.proofs.Common.{◌≡◌, ◌≤◌, take}
use Rattle.std.specs.Prelude.{nat_eq}
use Rattle.rpc_machine.specs.Lists.{how_many}
use Rattle.core_step_collects.proofs.Getting.{got}
use Rattle.core_step_collects.proofs.got.times_got.Given as goal

abbrev pub invariant-loop-cap : goal.invariant-loop-cap
invariant-loop-cap l = (l.times ≡ how_many (nat_eq l.id.0) (got (take l.cap-index l.caps))) × (l.times ≤ l.cap-index)
