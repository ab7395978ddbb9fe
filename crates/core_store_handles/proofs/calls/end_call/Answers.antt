use Rattle.std.proofs.Common.{sym}
use Rattle.core_store_handles.proofs.Ending.{sound_uncalled, sound_ended}
use Rattle.core_store_handles.proofs.calls.end_call.Goals as goal

pub returns-in_err-from-clause-sound : goal.returns-in_err-from-clause-sound
returns-in_err-from-clause-sound c =
    sound_uncalled c.args.store.now c.args.id.0 c.remove.new.self c.requires.sound c.requires.slack c.remove.ensures.removed c.remove.ensures.room (sym c.in_err-from.ensures.value)

pub returns-clause-sound : goal.returns-clause-sound
returns-clause-sound c =
    sound_ended c.args.store.now c.args.id.0 c.in_ok-from.from c.remove.new.self c.note_for.new.names c.requires.sound c.requires.slack c.remove.ensures.removed c.remove.ensures.room (sym c.in_ok-from.ensures.value) c.requires.own c.note_for.ensures
