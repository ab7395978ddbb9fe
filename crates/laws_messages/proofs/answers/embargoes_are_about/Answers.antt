use Rattle.laws_runs.proofs.Kept.{in_steady_worlds}
use Rattle.laws_messages.proofs.About.{are_kept, one_about}
use Rattle.laws_messages.proofs.answers.embargoes_are_about.Goals as goal

pub returns-clause-kept : goal.returns-clause-kept
returns-clause-kept c = are_kept c.sessions_stand.ensures.kept c.embargoes_pair.ensures.loopbacks

pub returns-clause-about : goal.returns-clause-about
returns-clause-about c = λ a b x h. one_about x.world (in_steady_worlds (are_kept c.sessions_stand.ensures.kept c.embargoes_pair.ensures.loopbacks) a b x.world (c.counts_agree_in_scenes.ensures.steady a b x h))
