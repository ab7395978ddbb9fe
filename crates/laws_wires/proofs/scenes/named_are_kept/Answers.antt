use Rattle.laws_wires.proofs.NamedStay.{commands_keep_named, messages_keep_named}
use Rattle.laws_wires.proofs.scenes.named_are_kept.Goals as goal

pub returns-clause-commands : goal.returns-clause-commands
returns-clause-commands c = commands_keep_named

pub returns-clause-messages : goal.returns-clause-messages
returns-clause-messages c = messages_keep_named
