use Rattle.laws_sound.proofs.FirstSending.{first_acts_send}
use Rattle.laws_sound.proofs.laws.first_acts_send.Goals as goal

pub returns : goal.returns
returns c = first_acts_send c.first_acts_send_meanings.ensures.commands c.first_acts_send_meanings.ensures.messages c.cores_are_fit.ensures c.commands_are_written.ensures c.counts_agree_in_scenes.ensures
