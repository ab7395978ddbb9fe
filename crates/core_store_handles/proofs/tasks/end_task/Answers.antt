use Rattle.core_store_handles.proofs.Numbered.{sound_no_task}
use Rattle.core_store_handles.proofs.tasks.end_task.Goals as goal

pub returns-clause-sound : goal.returns-clause-sound
returns-clause-sound c =
    sound_no_task c.args.store.now c.remove.new.self c.args.id.0 c.requires c.remove.ensures.removed c.remove.ensures.room
