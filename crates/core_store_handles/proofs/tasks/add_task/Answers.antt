use Rattle.core_store_handles.proofs.Numbered.{sound_task}
use Rattle.core_store_handles.proofs.tasks.add_task.Goals as goal

pub returns-clause-sound : goal.returns-clause-sound
returns-clause-sound c =
    sound_task c.args.store.now c.add.new.self c.args.outcome c.requires.sound c.requires.slack c.requires.number c.in-Ok.ensures.ok c.add.ensures.room
