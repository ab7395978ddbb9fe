use Rattle.laws_scenes.proofs.Turning.{turns}
use Rattle.laws_scenes.proofs.laws.disembargos_turn_back.Goals as goal

pub returns : goal.returns
returns c = turns c.vats_are_between_steps.ensures c.vats_are_tied.ensures.start c.steps_keep_order.ensures.stay c.calls_may_go.ensures.rest c.named_answers_are_there.ensures c.disembargos_meet_wires.ensures
