use Rattle.laws_acts.proofs.Walked.{does, handles}
use Rattle.laws_acts.proofs.laws.steps_are_acts.Goals as goal

pub returns : goal.returns
returns c = record { commands = does; messages = handles }
