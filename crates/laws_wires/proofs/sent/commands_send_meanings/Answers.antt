use Rattle.laws_wires.proofs.WholeSent.{commands_send}
use Rattle.laws_wires.proofs.sent.commands_send_meanings.Goals as goal

pub returns : goal.returns
returns c = commands_send c.steps_are_small_acts.ensures c.first_acts_of_commands_mean.ensures.plain c.first_acts_of_commands_mean.ensures.openings c.first_acts_send_meanings.ensures.commands c.steps_send_meanings.ensures
