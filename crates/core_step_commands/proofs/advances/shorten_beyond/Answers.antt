use Rattle.std.proofs.Common.{ap}
use Rattle.core_store.specs.declared.store.Store.{Store}
use Rattle.core_step_commands.proofs.advances.shorten_beyond.Goals as goal

pub returns : goal.returns
returns c = ap (λ (x : Store). record (c.args.step.now) { store = x }) c.shorten.ensures.same
