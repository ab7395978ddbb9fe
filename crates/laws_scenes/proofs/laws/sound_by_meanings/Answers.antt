use Rattle.laws_scenes.proofs.Sound.{sound}
use Rattle.laws_scenes.proofs.laws.sound_by_meanings.Goals as goal

pub returns : goal.returns
returns c = sound c.sound_by_the_rest.ensures c.calls_keep_their_order.ensures.scenes c.calls_arrive_in_full.ensures.scenes c.disembargos_turn_back.ensures
