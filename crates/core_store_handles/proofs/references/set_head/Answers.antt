use Rattle.std.proofs.Common.{refl}
use Rattle.core_store_handles.proofs.Numbered.{sound_led}
use Rattle.core_store_handles.proofs.references.set_head.Goals as goal

pub returns-clause-sound : goal.returns-clause-sound
returns-clause-sound c =
    sound_led c.args.store.now c.args.id.0 c.in-Some.reference.now (record (c.in-Some.reference.now) { head = c.args.node }) c.add.new.self c.sub.new.self c.requires.sound c.requires.slack c.in-Some.ensures.value refl c.in-Ok.ensures.ok c.sub.ensures
