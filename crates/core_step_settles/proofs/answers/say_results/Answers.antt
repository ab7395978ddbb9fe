use Rattle.core_store.specs.Holding.{state_of}
use Rattle.core_step_routes.proofs.Describing.{all_only}
use Rattle.core_step_settles.proofs.Said.{ready_described}
use Rattle.core_step_settles.proofs.answers.say_results.Goals as goal

pub returns-clause-ready : goal.returns-clause-ready
returns-clause-ready c =
    let x = c.reserve.new.step in
    let new = c.describe_all_kept.new.store in
    ready_described x new (all_only (state_of x.store) c.deref-2.result.now c.describe_all_kept.new.said.items (state_of new) c.in-Ok.ensures.ok)
    c.in_ok-reserve.ensures.ready c.describe_all_kept.ensures.sound c.describe_all_kept.ensures.left.1
