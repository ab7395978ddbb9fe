use Rattle.laws_routes.proofs.EmbargoesKept.{commands_keep, messages_keep, new_right, right_only}
use Rattle.laws_routes.proofs.first_acts.embargoes_are_right.Goals as goal

pub returns-clause-new : goal.returns-clause-new
returns-clause-new c = new_right

pub returns-clause-commands : goal.returns-clause-commands
returns-clause-commands c = commands_keep

pub returns-clause-messages : goal.returns-clause-messages
returns-clause-messages c = messages_keep

pub returns-clause-only : goal.returns-clause-only
returns-clause-only c = right_only
