use Rattle.laws_routes.proofs.MidwayBetween.{joins, new_vats, splits}
use Rattle.laws_routes.proofs.midway.steps_begin_and_end_with_it.Goals as goal

pub returns-clause-joins : goal.returns-clause-joins
returns-clause-joins c = joins

pub returns-clause-splits : goal.returns-clause-splits
returns-clause-splits c = splits

pub returns-clause-new_vats : goal.returns-clause-new_vats
returns-clause-new_vats c = new_vats
