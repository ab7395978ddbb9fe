use Rattle.laws_wires.proofs.ActsSent.{steps_say_so}
use Rattle.laws_wires.proofs.sent.steps_send_meanings.Goals as goal

pub returns : goal.returns
returns c = steps_say_so c.each_act_keeps_meanings.ensures
