use Rattle.std.proofs.Common.{◌≡◌, true, take}
use Rattle.rpc_machine.specs.Lists.{is_empty}
use Rattle.core_step_collects.proofs.Getting.{got}
use Rattle.core_step_collects.proofs.got.gives_any.Given as goal

abbrev pub invariant-loop-cap : goal.invariant-loop-cap
invariant-loop-cap l = is_empty (got (take l.cap-index l.caps)) ≡ true
