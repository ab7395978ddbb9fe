use Rattle.core_store_handles.proofs.Ending.{sound_called}
use Rattle.core_store_handles.proofs.calls.add_call.Goals as goal

pub returns-clause-sound : goal.returns-clause-sound
returns-clause-sound c =
    sound_called c.args.store.now c.args.number.0 c.args.from c.add.new.self c.requires.sound c.requires.slack c.requires.given c.in-Ok.ensures.ok c.add.ensures.room
