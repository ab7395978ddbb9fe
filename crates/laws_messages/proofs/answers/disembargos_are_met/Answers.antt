use Rattle.laws_messages.proofs.About.{comes_well, levels}
use Rattle.laws_messages.proofs.answers.disembargos_are_met.Goals as goal

pub returns : goal.returns
returns c = λ a b x h. comes_well x.world (c.embargoes_are_about.ensures.about a b x h) (levels x.world (c.counts_agree_in_scenes.ensures.sessions a b x h))
