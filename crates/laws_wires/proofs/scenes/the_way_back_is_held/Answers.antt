use Rattle.laws_wires.proofs.BackHeld.{commands_hold_back, messages_hold_back, roles_are_kept}
use Rattle.laws_wires.proofs.scenes.the_way_back_is_held.Goals as goal

pub returns-clause-roles : goal.returns-clause-roles
returns-clause-roles c = roles_are_kept

pub returns-clause-commands : goal.returns-clause-commands
returns-clause-commands c = commands_hold_back c.returns_are_awaited.ensures.commands c.returns_are_awaited.ensures.met c.imports_are_brought.ensures.commands

pub returns-clause-messages : goal.returns-clause-messages
returns-clause-messages c = messages_hold_back c.returns_are_awaited.ensures.messages c.returns_are_awaited.ensures.met c.imports_are_brought.ensures.messages
