use Rattle.laws_runs.proofs.Kept.{in_steady_worlds}
use Rattle.laws_scenes.proofs.CanceledKept.{given_kept, in_world}
use Rattle.laws_scenes.proofs.laws.canceled_were_given_up.Goals as goal

pub returns : goal.returns
returns c = λ a b x h. let k = given_kept c.sessions_stand.ensures.kept in in_world k x.world (in_steady_worlds k a b x.world (c.counts_agree_in_scenes.ensures.steady a b x h))
