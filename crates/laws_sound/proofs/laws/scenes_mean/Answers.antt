use Rattle.laws_sound.proofs.EachScene.{scenes_mean}
use Rattle.laws_sound.proofs.laws.scenes_mean.Goals as goal

pub returns : goal.returns
returns c = scenes_mean c.node_meanings_last.ensures.places c.wires_are_left.ensures.longer c.wires_mean_at_first.ensures c.meanings_are_kept.ensures
