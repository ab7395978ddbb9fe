use Rattle.laws_sound.proofs.KeptBySteps.{meanings_kept}
use Rattle.laws_sound.proofs.laws.meanings_are_kept.Goals as goal

pub returns : goal.returns
returns c = meanings_kept c.steps_keep_places.ensures.commands c.steps_keep_places.ensures.messages c.node_meanings_last.ensures.places c.wires_are_left.ensures.longer c.wires_are_kept.ensures
