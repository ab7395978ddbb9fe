use Rattle.laws_tasks.proofs.Keeping.{kept}
use Rattle.laws_tasks.proofs.laws.steps_keep_tasks.Goals as goal

pub returns : goal.returns
returns c = kept c.outcomes_have_sources.ensures
