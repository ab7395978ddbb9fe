use Rattle.laws_routes.proofs.FromMidway.{may_ask, may_keep, may_open, may_take}
use Rattle.laws_routes.proofs.midway.free_ids_may_be_used.Goals as goal

pub returns-clause-asked : goal.returns-clause-asked
returns-clause-asked c = may_ask

pub returns-clause-kept : goal.returns-clause-kept
returns-clause-kept c = may_keep

pub returns-clause-opened : goal.returns-clause-opened
returns-clause-opened c = may_open

pub returns-clause-taken : goal.returns-clause-taken
returns-clause-taken c = may_take
