use Rattle.laws_meanings.proofs.Rooted.{roots_return, bootstraps_end}
use Rattle.laws_meanings.proofs.laws.bootstraps_end_with_roots.Goals as goal

pub returns-clause-returned : goal.returns-clause-returned
returns-clause-returned c = roots_return c.counts_agree_in_scenes.ensures.sessions c.counts_agree_in_scenes.ensures.oldest

pub returns-clause-ends : goal.returns-clause-ends
returns-clause-ends c = bootstraps_end c.counts_agree_in_scenes.ensures.sessions c.counts_agree_in_scenes.ensures.oldest c.bootstraps_are_left.ensures
