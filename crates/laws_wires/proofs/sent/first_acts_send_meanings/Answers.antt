use Rattle.laws_wires.proofs.StartsSent.{commands_say_so, messages_say_so}
use Rattle.laws_wires.proofs.sent.first_acts_send_meanings.Goals as goal

pub returns-clause-commands : goal.returns-clause-commands
returns-clause-commands c = commands_say_so

pub returns-clause-messages : goal.returns-clause-messages
returns-clause-messages c = messages_say_so
