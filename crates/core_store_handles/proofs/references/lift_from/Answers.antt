use Rattle.std.proofs.Common.{None, refl}
use Rattle.core_store_handles.proofs.Numbered.{made_below, sound_kept}
use Rattle.core_store_handles.proofs.references.lift_from.Goals as goal

pub returns-clause-sound : goal.returns-clause-sound
returns-clause-sound c =
    let x = c.args.store.now in
    let found = c.in-Some.reference.now in
    sound_kept x c.args.id.0 found (record found { embargo = None }) c.requires c.in-Some.ensures.value refl (made_below x c.args.id.0 found c.requires c.in-Some.ensures.value)
