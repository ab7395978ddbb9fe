use Rattle.std.proofs.Common.{◌≡◌, drop}
use Rattle.finite_maps.specs.Tally.{Map}
use Rattle.rpc_machine.specs.declared.entries.Export.{Export}
use Rattle.rpc_machine.specs.Progress.{numbers}
use Rattle.core_store.specs.Holding.{state_of}
use Rattle.core_step_checks.specs.Parts.{flag_in_turn}
use Rattle.core_step_messages.specs.Foreseen.{Remains}
use Rattle.core_step_messages.proofs.remainders.fault_of_flag.Given as goal

abbrev pub invariant-loop-id : goal.invariant-loop-id
invariant-loop-id l = (m : Map Export) × Remains (state_of l.store) m l.remaining × (flag_in_turn (state_of l.store).exports (numbers l.ids) ≡ flag_in_turn m (numbers (drop l.id-index l.ids)))
