use Rattle.std.proofs.Common.{subst}
use Rattle.rpc_machine.specs.Progress.{Progress}
use Rattle.rpc_machine.specs.Settling.{ResolvesTo}
use Rattle.core_store.specs.Holding.{state_of}
use Rattle.core_step.specs.InProgress.{progress_of}
use Rattle.core_step_settles.proofs.export_resolves.resolve_to.Goals as goal

pub returns-clause-sent : goal.returns-clause-sent
returns-clause-sent c =
    subst (λ (p : Progress). ResolvesTo p c.args.id c.args.node (progress_of c.send.new.step)) c.reserve.ensures.same
    (c.in-Ok.said, state_of c.describe.new.store, c.in-Ok.ensures.ok, c.send.ensures.said)
