use Rattle.laws_meanings.proofs.OfCallsScenes.{outcomes_of_calls}
use Rattle.laws_meanings.proofs.laws.outcomes_are_of_calls.Goals as goal

pub returns : goal.returns
returns c = outcomes_of_calls c.outcomes_have_sources.ensures c.counts_agree_in_scenes.ensures.sessions
