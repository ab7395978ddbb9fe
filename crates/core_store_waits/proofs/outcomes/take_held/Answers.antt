use Rattle.core_store_waits.proofs.Knowing.{sound_taken}
use Rattle.core_store_waits.proofs.outcomes.take_held.Goals as goal

pub returns-clause-sound : goal.returns-clause-sound
returns-clause-sound c =
    sound_taken c.args.store.now c.args.key c.take_held.new.self c.note_unnamed.new.names c.requires.sound c.requires.slack c.in_ok-take_held.ensures.handed_out c.in_ok-take_held.ensures.ok c.note_unnamed.ensures
