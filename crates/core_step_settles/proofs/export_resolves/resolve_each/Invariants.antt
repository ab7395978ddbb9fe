use Rattle.std.proofs.Common.{◌≡◌, take}
use Rattle.rpc_machine.specs.Settling.{ResolvesEach}
use Rattle.core_step.specs.InProgress.{progress_of, IsReady}
use Rattle.core_step_settles.proofs.export_resolves.resolve_each.Given as goal

abbrev pub invariant-loop-export : goal.invariant-loop-export
invariant-loop-export l = record {
  ready : IsReady l.step;
  sent : ResolvesEach (progress_of l.fn.step) l.told (take l.export-index l.exports) (progress_of l.step);
  taken : l.step.store.waits.taken ≡ l.fn.step.store.waits.taken;
}
