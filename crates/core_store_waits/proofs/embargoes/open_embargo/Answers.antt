use Rattle.core_store_waits.proofs.Lifting.{sound_opened}
use Rattle.core_store_waits.proofs.embargoes.open_embargo.Goals as goal

pub returns-clause-sound : goal.returns-clause-sound
returns-clause-sound c =
    sound_opened c.args.store.now c.in-Ok.id.0 c.args.reference c.args.node c.open_embargo.new.self c.add.new.self c.requires.sound c.requires.slack c.requires.limit c.in-Ok.ensures.free c.in-Ok.ensures.ok c.in-Ok-add.ensures.ok
