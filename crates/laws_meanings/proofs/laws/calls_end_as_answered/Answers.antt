use Rattle.laws_meanings.proofs.Answering.{calls_end}
use Rattle.laws_meanings.proofs.laws.calls_end_as_answered.Goals as goal

pub returns : goal.returns
returns c = calls_end c.outcomes_have_sources.ensures c.counts_agree_in_scenes.ensures.sessions c.counts_agree_in_scenes.ensures.oldest
