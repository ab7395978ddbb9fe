use Rattle.std.proofs.Common.{sym, ap}
use Rattle.finite_maps.proofs.Gets.{remove_absent}
use Rattle.core_store.specs.Holding.{state_of}
use Rattle.core_store_tables.proofs.Asking.{sound_forgotten}
use Rattle.core_store_tables.proofs.questions.drop_question.Goals as goal

pub returns-in_default-clause-state : goal.returns-in_default-clause-state
returns-in_default-clause-state c =
    let x = c.args.store.now in
    ap (λ m. record (state_of x) { questions = m }) (sym (remove_absent x.questions.entries c.args.q.0 (sym c.in_default.ensures)))

pub returns-clause-sound : goal.returns-clause-sound
returns-clause-sound c =
    sound_forgotten c.args.store.now c.close.new.self c.args.q.0 c.in-Some.question.now c.unname_returned.new.names c.requires c.close.ensures.closed c.close.ensures.room (sym c.in-Some.ensures) c.unname_returned.ensures
