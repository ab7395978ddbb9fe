use Rattle.laws_runs.proofs.Kept.{in_steady_worlds}
use Rattle.laws_messages.proofs.Finding.{are_kept}
use Rattle.laws_scenes.proofs.Lowered.{in_world}
use Rattle.laws_scenes.proofs.between.oldest_let_go_well.Goals as goal

pub returns : goal.returns
returns c = λ a b x h. in_world x.world (in_steady_worlds (are_kept c.sends_raise_counts.ensures) a b x.world (c.counts_agree_in_scenes.ensures.steady a b x h))
