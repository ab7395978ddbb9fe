use Rattle.std.proofs.Common.{sym}
use Rattle.core_store_tables.proofs.Answering.{sound_absent, sound_forgotten}
use Rattle.core_store_tables.proofs.answers.forget_answer.Goals as goal

pub returns-in_default-clause-sound : goal.returns-in_default-clause-sound
returns-in_default-clause-sound c =
    sound_absent c.args.store.now c.close.new.self c.args.q.0 c.requires.sound c.requires.slack c.close.ensures.closed c.close.ensures.room (sym c.in_default.ensures.value)

pub returns-clause-sound : goal.returns-clause-sound
returns-clause-sound c =
    sound_forgotten c.args.store.now c.close.new.self c.args.q.0 c.in-Some.answer c.note_outcome.new.names c.unname_answer.new.names c.requires.sound c.requires.slack c.close.ensures.closed c.close.ensures.room
    (sym c.in-Some.ensures.value) c.note_outcome.ensures c.unname_answer.ensures
