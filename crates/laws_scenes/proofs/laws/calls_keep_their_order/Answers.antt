use Rattle.laws_scenes.proofs.Orders.{runs, scenes}
use Rattle.laws_scenes.proofs.laws.calls_keep_their_order.Goals as goal

pub returns-clause-scenes : goal.returns-clause-scenes
returns-clause-scenes c = scenes c.vats_are_between_steps.ensures c.steps_keep_order.ensures.order c.calls_are_numbered.ensures c.every_run_is_shown.ensures.only

pub returns-clause-runs : goal.returns-clause-runs
returns-clause-runs c = runs c.every_run_is_shown.ensures.every (scenes c.vats_are_between_steps.ensures c.steps_keep_order.ensures.order c.calls_are_numbered.ensures c.every_run_is_shown.ensures.only)
