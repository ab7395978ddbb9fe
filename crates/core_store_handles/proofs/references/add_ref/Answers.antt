use Rattle.core_store_handles.proofs.Numbered.{sound_added}
use Rattle.core_store_handles.proofs.references.add_ref.Goals as goal

pub returns-clause-sound : goal.returns-clause-sound
returns-clause-sound c =
    sound_added c.args.store.now c.args.node c.add-2.new.self c.add.new.self c.requires.sound c.requires.slack c.requires.number c.in-Ok-add.ensures.ok c.add-2.ensures.room c.in-Ok.ensures.ok
