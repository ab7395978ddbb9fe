use Rattle.std.proofs.Common.{◌≡◌, drop}
use Rattle.std.specs.List.{list_all}
use Rattle.rpc_machine.specs.Refusals.{is_known_ref}
use Rattle.core_store.specs.Holding.{state_of}
use Rattle.core_step_checks.proofs.refusals.has_refs.Given as goal

abbrev pub invariant-loop-id : goal.invariant-loop-id
invariant-loop-id l = list_all (is_known_ref (state_of l.store)) (drop l.id-index l.ids) ≡ list_all (is_known_ref (state_of l.store)) l.ids
