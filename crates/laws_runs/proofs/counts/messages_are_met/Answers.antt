use Rattle.laws_runs.proofs.Kept.{in_steady_worlds}
use Rattle.laws_runs.proofs.Oldest.{in_world}
use Rattle.laws_runs.proofs.counts.messages_are_met.Goals as goal

pub returns : goal.returns
returns c = λ a b w h v m ms e. in_world w v m ms (in_steady_worlds c.counts_agree.ensures.kept a b w h) e
