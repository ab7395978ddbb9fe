use Rattle.laws_wires.proofs.BackMet.{returns_are_met}
use Rattle.laws_wires.proofs.ReturnsLeft.{commands_leave_returns, messages_leave_returns}
use Rattle.laws_wires.proofs.scenes.returns_are_awaited.Goals as goal

pub returns-clause-commands : goal.returns-clause-commands
returns-clause-commands c = commands_leave_returns c.steps_are_acts.ensures

pub returns-clause-messages : goal.returns-clause-messages
returns-clause-messages c = messages_leave_returns c.steps_are_acts.ensures

pub returns-clause-met : goal.returns-clause-met
returns-clause-met c = returns_are_met
