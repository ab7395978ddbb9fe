use Rattle.laws_routes.proofs.MessagesFollow.{all_commands, messages}
use Rattle.laws_routes.proofs.first_acts.steps_may_be_done.Goals as goal

pub returns-clause-commands : goal.returns-clause-commands
returns-clause-commands c = all_commands

pub returns-clause-messages : goal.returns-clause-messages
returns-clause-messages c = messages
