use Rattle.laws_meanings.proofs.Written.{effects_are_written, entries_are_led}
use Rattle.laws_meanings.proofs.laws.effects_are_meanings.Goals as goal

pub returns-clause-written : goal.returns-clause-written
returns-clause-written c = effects_are_written c.given_references_are_new.ensures

pub returns-clause-led : goal.returns-clause-led
returns-clause-led c = entries_are_led
