use Rattle.core_store_handles.proofs.Numbered.{sound_unnumbered}
use Rattle.core_store_handles.proofs.promises.settle_number.Goals as goal

pub returns-clause-sound : goal.returns-clause-sound
returns-clause-sound c =
    sound_unnumbered c.args.store.now c.remove.new.self c.args.id.0 c.requires c.remove.ensures.removed c.remove.ensures.room
