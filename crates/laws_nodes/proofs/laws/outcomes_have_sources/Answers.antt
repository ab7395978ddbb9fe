use Rattle.laws_nodes.proofs.Sourced.{has_one}
use Rattle.laws_nodes.proofs.laws.outcomes_have_sources.Goals as goal

pub returns : goal.returns
returns c = has_one
