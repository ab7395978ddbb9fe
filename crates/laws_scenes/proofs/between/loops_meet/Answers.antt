use Rattle.laws_scenes.proofs.Loops.{in_world}
use Rattle.laws_scenes.proofs.between.loops_meet.Goals as goal

pub returns : goal.returns
returns c = λ a b x h. in_world x.world (c.embargoes_are_about.ensures.about a b x h)
