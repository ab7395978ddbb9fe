use Rattle.laws_wires.proofs.AskedSo.{acts_ask_so, commands_ask_so, messages_ask_so}
use Rattle.laws_wires.proofs.scenes.what_is_asked_is_of_calls.Goals as goal

pub returns-clause-commands : goal.returns-clause-commands
returns-clause-commands c = commands_ask_so

pub returns-clause-messages : goal.returns-clause-messages
returns-clause-messages c = messages_ask_so

pub returns-clause-acts : goal.returns-clause-acts
returns-clause-acts c = acts_ask_so c.each_act_keeps_meanings.ensures
