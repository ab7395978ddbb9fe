use Rattle.std.proofs.Common.{◌≡◌, true, take}
use Rattle.std.specs.List.{list_all}
use Rattle.rpc_machine.specs.Flags.{is_spared}
use Rattle.core_store.specs.Holding.{state_of}
use Rattle.core_step_collects.proofs.Getting.{got}
use Rattle.core_step_collects.proofs.got.each_got_spared.Given as goal

abbrev pub invariant-loop-at : goal.invariant-loop-at
invariant-loop-at l = list_all (is_spared (state_of l.store) (got l.caps)) (got (take l.at l.caps)) ≡ true
