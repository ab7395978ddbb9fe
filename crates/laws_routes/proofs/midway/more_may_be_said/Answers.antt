use Rattle.laws_routes.proofs.FromMidway.{may_advance, may_say, may_send}
use Rattle.laws_routes.proofs.midway.more_may_be_said.Goals as goal

pub returns-clause-said : goal.returns-clause-said
returns-clause-said c = may_say

pub returns-clause-sent : goal.returns-clause-sent
returns-clause-sent c = may_send

pub returns-clause-advances : goal.returns-clause-advances
returns-clause-advances c = may_advance
