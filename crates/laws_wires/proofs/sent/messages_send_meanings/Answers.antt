use Rattle.laws_wires.proofs.HeardSent.{messages_send}
use Rattle.laws_wires.proofs.sent.messages_send_meanings.Goals as goal

pub returns : goal.returns
returns c = messages_send c.steps_are_small_acts.ensures c.first_acts_of_messages_mean.ensures c.first_acts_send_meanings.ensures.messages c.steps_send_meanings.ensures
