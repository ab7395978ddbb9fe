use Rattle.std.proofs.Common.{Some, refl}
use Rattle.core_store_handles.proofs.Numbered.{sound_led}
use Rattle.core_store_handles.proofs.references.turn_under.Goals as goal

pub returns-clause-sound : goal.returns-clause-sound
returns-clause-sound c =
    sound_led c.args.store.now c.args.id.0 c.in-Some.reference.now (record { head = c.args.node; embargo = Some c.args.embargo; made = c.in-Some.reference.now.made }) c.add.new.self c.sub.new.self c.requires.sound c.requires.slack c.in-Some.ensures.value refl c.in-Ok.ensures.ok c.sub.ensures
