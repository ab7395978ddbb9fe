use Rattle.laws_routes.proofs.ActsFollow.{may_act, settling_kept}
use Rattle.laws_routes.proofs.midway.commands_may_act.Goals as goal

pub returns-clause-acts : goal.returns-clause-acts
returns-clause-acts c = may_act

pub returns-clause-kept : goal.returns-clause-kept
returns-clause-kept c = settling_kept
