use Rattle.laws_acts.proofs.Commanded.{does}
use Rattle.laws_acts.proofs.Received.{handles}
use Rattle.laws_acts.proofs.laws.steps_are_small_acts.Goals as goal

pub returns : goal.returns
returns c = record { commands = does; messages = handles }
