use Rattle.laws_meanings.proofs.FitCores.{cores_fit}
use Rattle.laws_meanings.proofs.laws.cores_are_fit.Goals as goal

pub returns : goal.returns
returns c = cores_fit c.nodes_are_there.ensures.there c.outcomes_have_sources.ensures c.questions_end.ensures c.embargoes_pair.ensures.paired
