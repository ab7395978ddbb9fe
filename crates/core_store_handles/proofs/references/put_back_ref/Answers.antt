use Rattle.core_store_handles.proofs.Numbered.{sound_again}
use Rattle.core_store_handles.proofs.references.put_back_ref.Goals as goal

pub returns-clause-sound : goal.returns-clause-sound
returns-clause-sound c =
    sound_again c.args.store.now c.add-2.new.self c.args.id.0 c.args.reference c.add.new.self c.requires.sound c.requires.slack c.requires.given c.requires.free c.requires.made c.in-Ok-add.ensures.ok c.add-2.ensures.room c.in-Ok.ensures.ok
