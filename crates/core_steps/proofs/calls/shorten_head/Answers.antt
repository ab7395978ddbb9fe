use Rattle.std.proofs.Common.{ap}
use Rattle.core_store.specs.declared.store.Store.{Store}
use Rattle.core_steps.proofs.calls.shorten_head.Goals as goal

pub returns : goal.returns
returns c = ap (λ (x : Store). record (c.args.machine.now) { step = record (c.args.machine.now.step) { store = x } }) c.shorten.ensures.same
