use Rattle.laws_wires.proofs.ActsSent.{acts_say_so}
use Rattle.laws_wires.proofs.sent.acts_send_meanings.Goals as goal

pub returns : goal.returns
returns c = acts_say_so
