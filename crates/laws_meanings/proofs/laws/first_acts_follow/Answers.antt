use Rattle.laws_meanings.proofs.Begun.{first_acts_follow}
use Rattle.laws_meanings.proofs.laws.first_acts_follow.Goals as goal

pub returns : goal.returns
returns c = first_acts_follow c.first_acts_of_commands_mean.ensures.plain c.first_acts_of_commands_mean.ensures.openings c.first_acts_of_messages_mean.ensures c.cores_are_fit.ensures
