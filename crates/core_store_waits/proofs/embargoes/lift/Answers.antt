use Rattle.core_store_waits.proofs.Lifting.{sound_lifted}
use Rattle.core_store_waits.proofs.embargoes.lift.Goals as goal

pub returns-clause-sound : goal.returns-clause-sound
returns-clause-sound c =
    sound_lifted c.args.store.now c.args.id.0 c.in_ok-reference.reference c.in_ok-reference.node c.lift.new.self c.sub.new.self c.requires c.in_ok-reference.ensures.handed_out c.in_ok-reference.ensures.ok c.sub.ensures
