use Rattle.core_step_collects.proofs.Dropping.{drops_after, last_drops}
use Rattle.core_step_collects.proofs.collection.drop_one.Goals as goal

pub returns-then-drop_outcome-clause-drops : goal.returns-then-drop_outcome-clause-drops
returns-then-drop_outcome-clause-drops c =
    drops_after c.args.step.now c.drop_promise.new.step c.drop_outcome.new.step c.if-drop_promise.ensures.drops.same c.if-drop_outcome.ensures.drops

pub returns-clause-drops : goal.returns-clause-drops
returns-clause-drops c =
    last_drops c.drop_import.result c.args.step.now c.drop_promise.new.step c.drop_outcome.new.step c.drop_import.new.step c.if-drop_promise.ensures.drops c.if-drop_outcome.ensures.drops c.drop_import.ensures.drops
