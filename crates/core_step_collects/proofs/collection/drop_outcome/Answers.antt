use Rattle.core_step_collects.proofs.Dropping.{outcome_drops}
use Rattle.core_step_collects.proofs.collection.drop_outcome.Goals as goal

pub returns-clause-drops : goal.returns-clause-drops
returns-clause-drops c =
    outcome_drops c.args.step.now c.next_loose_outcome.new.store c.let_outcome_go.new.store c.next_loose_outcome.ensures.same c.in-Some.key c.in-Some.ensures.some c.let_outcome_go.ensures.state
