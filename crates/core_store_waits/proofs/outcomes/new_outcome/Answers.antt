use Rattle.core_store_waits.proofs.Knowing.{sound_new}
use Rattle.core_store_waits.proofs.outcomes.new_outcome.Goals as goal

pub returns-clause-sound : goal.returns-clause-sound
returns-clause-sound c =
    sound_new c.args.store.now c.in-Ok.key c.args.caller c.new_outcome.new.self c.requires.sound c.requires.slack c.in-Ok.ensures.free c.in-Ok.ensures.ok
