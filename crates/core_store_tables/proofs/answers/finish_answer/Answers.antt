use Rattle.std.proofs.Common.{sym}
use Rattle.core_store_tables.proofs.Answering.{sound_finished}
use Rattle.core_store_tables.proofs.answers.finish_answer.Goals as goal

pub returns-clause-sound : goal.returns-clause-sound
returns-clause-sound c =
    sound_finished c.args.store.now c.args.q.0 c.in-Some-get_mut.answer.now c.requires.sound c.requires.slack (sym c.in-Some-get_mut.ensures.value)
