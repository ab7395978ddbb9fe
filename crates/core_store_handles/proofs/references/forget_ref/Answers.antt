use Rattle.std.proofs.Common.{sym}
use Rattle.core_store_handles.proofs.Numbered.{sound_absent, sound_forgotten}
use Rattle.core_store_handles.proofs.references.forget_ref.Goals as goal

pub returns-in_err-reference-clause-sound : goal.returns-in_err-reference-clause-sound
returns-in_err-reference-clause-sound c =
    sound_absent c.args.store.now c.remove.new.self c.args.id.0 c.requires c.remove.ensures.removed c.remove.ensures.room (sym c.in_err-reference.ensures.value)

pub returns-clause-sound : goal.returns-clause-sound
returns-clause-sound c =
    sound_forgotten c.args.store.now c.remove.new.self c.args.id.0 c.in_ok-reference.reference c.sub.new.self c.requires c.remove.ensures.removed c.remove.ensures.room (sym c.in_ok-reference.ensures.value) c.sub.ensures
