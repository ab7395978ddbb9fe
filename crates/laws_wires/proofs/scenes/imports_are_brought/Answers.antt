use Rattle.laws_wires.proofs.ReturnsLeft.{commands_bring_none}
use Rattle.laws_wires.proofs.ImportsBrought.{messages_bring_theirs}
use Rattle.laws_wires.proofs.scenes.imports_are_brought.Goals as goal

pub returns-clause-commands : goal.returns-clause-commands
returns-clause-commands c = commands_bring_none c.steps_are_acts.ensures

pub returns-clause-messages : goal.returns-clause-messages
returns-clause-messages c = messages_bring_theirs c.steps_are_acts.ensures
