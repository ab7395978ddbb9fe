use Rattle.std.proofs.Common.{ap}
use Rattle.core_store.specs.declared.store.Store.{Store}
use Rattle.core_step_messages.proofs.disembargoes.shorten_target.Goals as goal

pub returns : goal.returns
returns c = ap (λ (x : Store). record (c.args.step.now) { store = x }) c.shorten.ensures.same
