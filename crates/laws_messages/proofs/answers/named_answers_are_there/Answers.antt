use Rattle.laws_runs.proofs.Kept.{in_steady_worlds}
use Rattle.laws_messages.proofs.FindingNamed.{are_kept, in_world}
use Rattle.laws_messages.proofs.answers.named_answers_are_there.Goals as goal

pub returns : goal.returns
returns c = λ a b x h v m ms e. in_world x.world v m ms (in_steady_worlds are_kept a b x.world (c.counts_agree_in_scenes.ensures.steady a b x h)) e
