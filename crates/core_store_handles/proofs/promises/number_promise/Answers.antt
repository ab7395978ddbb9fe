use Rattle.core_store_handles.proofs.Numbered.{sound_numbered}
use Rattle.core_store_handles.proofs.promises.number_promise.Goals as goal

pub returns-clause-sound : goal.returns-clause-sound
returns-clause-sound c =
    sound_numbered c.args.store.now c.add.new.self c.args.key c.requires.sound c.requires.slack c.requires.number c.in-Ok.ensures.ok c.add.ensures.room
