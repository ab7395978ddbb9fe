use Rattle.laws_wires.proofs.OutMet.{commands_meet_out, messages_meet_out}
use Rattle.laws_wires.proofs.scenes.what_is_sent_is_met.Goals as goal

pub returns-clause-commands : goal.returns-clause-commands
returns-clause-commands c = commands_meet_out c.mentions_stand.ensures.steps

pub returns-clause-messages : goal.returns-clause-messages
returns-clause-messages c = messages_meet_out c.mentions_stand.ensures.steps
