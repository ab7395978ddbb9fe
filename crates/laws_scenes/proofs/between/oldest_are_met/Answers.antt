use Rattle.laws_scenes.proofs.TakenWell.{in_world}
use Rattle.laws_scenes.proofs.between.oldest_are_met.Goals as goal

pub returns : goal.returns
returns c = λ a b x h. in_world x.world (c.embargoes_are_about.ensures.about a b x h) (c.oldest_are_last.ensures a b x h) (c.oldest_let_go_well.ensures a b x h)
