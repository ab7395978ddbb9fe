use Rattle.core_step_collects.proofs.Dropping.{promise_drops}
use Rattle.core_step_collects.proofs.collection.drop_promise.Goals as goal

pub returns-clause-drops : goal.returns-clause-drops
returns-clause-drops c =
    promise_drops c.args.step.now c.next_loose_promise.new.store c.let_promise_go.new.store c.next_loose_promise.ensures.same c.in-Some.key c.in-Some.ensures.some c.let_promise_go.ensures.state
