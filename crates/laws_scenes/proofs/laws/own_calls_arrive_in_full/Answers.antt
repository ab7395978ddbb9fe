use Rattle.laws_scenes.proofs.Arrived.{own_scenes}
use Rattle.laws_scenes.proofs.laws.own_calls_arrive_in_full.Goals as goal

pub returns : goal.returns
returns c = own_scenes c.vats_are_between_steps.ensures c.vats_are_tied.ensures.start c.steps_keep_order.ensures.stay c.calls_are_numbered.ensures c.every_run_is_shown.ensures.only c.calls_may_go.ensures.rest
