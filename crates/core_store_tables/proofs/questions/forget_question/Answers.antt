use Rattle.std.proofs.Common.{sym}
use Rattle.core_store_tables.proofs.Asking.{sound_absent, sound_forgotten}
use Rattle.core_store_tables.proofs.questions.forget_question.Goals as goal

pub returns-in_err-question-clause-sound : goal.returns-in_err-question-clause-sound
returns-in_err-question-clause-sound c =
    sound_absent c.args.store.now c.close.new.self c.args.q.0 c.requires c.close.ensures.closed c.close.ensures.room (sym c.in_err-question.ensures.value)

pub returns-clause-sound : goal.returns-clause-sound
returns-clause-sound c =
    sound_forgotten c.args.store.now c.close.new.self c.args.q.0 c.in_ok-question.question c.unname_returned.new.names c.requires c.close.ensures.closed c.close.ensures.room (sym c.in_ok-question.ensures.value) c.unname_returned.ensures
