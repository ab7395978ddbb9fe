use Rattle.laws_messages.proofs.Described.{describes_all}
use Rattle.laws_messages.proofs.NamingSteps.{does, handles}
use Rattle.laws_messages.proofs.laws.mentions_stand.Goals as goal

pub returns-clause-steps : goal.returns-clause-steps
returns-clause-steps c = record { commands = does; messages = handles }

pub returns-clause-descriptors : goal.returns-clause-descriptors
returns-clause-descriptors c = describes_all
