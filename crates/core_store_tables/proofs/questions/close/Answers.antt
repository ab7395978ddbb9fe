use Rattle.std.proofs.Common.{sym}
use Rattle.core_store_tables.proofs.Asking.{sound_sent}
use Rattle.core_store_tables.proofs.questions.close.Goals as goal

pub returns-clause-sound : goal.returns-clause-sound
returns-clause-sound c = sound_sent c.args.store.now c.args.q.0 c.in-Some-get_mut.question.now c.requires (sym c.in-Some-get_mut.ensures.value)
