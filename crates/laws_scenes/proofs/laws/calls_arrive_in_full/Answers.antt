use Rattle.laws_scenes.proofs.Arrived.{runs, scenes}
use Rattle.laws_scenes.proofs.laws.calls_arrive_in_full.Goals as goal

pub returns-clause-scenes : goal.returns-clause-scenes
returns-clause-scenes c = scenes c.vats_are_between_steps.ensures c.vats_are_tied.ensures.start c.steps_keep_order.ensures.stay c.calls_are_numbered.ensures c.every_run_is_shown.ensures.only

pub returns-clause-runs : goal.returns-clause-runs
returns-clause-runs c =
    runs c.every_run_is_shown.ensures.every c.every_run_is_shown.ensures.both_up (scenes c.vats_are_between_steps.ensures c.vats_are_tied.ensures.start c.steps_keep_order.ensures.stay c.calls_are_numbered.ensures c.every_run_is_shown.ensures.only)
