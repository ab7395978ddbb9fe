use Rattle.std.proofs.Common.{sym}
use Rattle.core_store_tables.proofs.Asking.{sound_waived}
use Rattle.core_store_tables.proofs.questions.waive.Goals as goal

pub returns-clause-sound : goal.returns-clause-sound
returns-clause-sound c =
    sound_waived c.args.store.now c.args.q.0 c.in-Some.question.now c.without_finish-question.result c.requires (sym c.in-Some.ensures.value) c.without_finish-question.ensures
