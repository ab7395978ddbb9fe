use Rattle.std.proofs.Common.{sym, ap, subst, ◌∙◌}
use Rattle.std.specs.FinMap as map
use Rattle.rpc_machine.specs.declared.entries.AnswerEntry.{AnswerEntry}
use Rattle.rpc_machine.specs.Progress.{numbers}
use Rattle.vat_tables.specs.Table.{Table}
use Rattle.core_store.specs.Holding.{state_of, IsSound}
use Rattle.core_store_tables.proofs.Answering.{same_answer, sound_returned, state_finished, state_returned}
use Rattle.core_store_tables.proofs.answers.set_answer_returned.Goals as goal

pub returns-clause-state : goal.returns-clause-state
returns-clause-state c =
    state_returned (state_of c.args.store.now) c.args.q.0 c.in-Some.answer.now c.in-Some.answer.now c.args.ids c.in-Some.ensures.value c.in-Some.ensures.value c.if-answer.false

pub returns-clause-sound : goal.returns-clause-sound
returns-clause-sound c =
    sound_returned c.args.store.now c.args.q.0 c.in-Some.answer.now c.in-Some.answer.now c.args.ids c.unname_answer.new.names c.requires.sound c.requires.slack
    c.in-Some.ensures.value c.in-Some.ensures.value c.unname_answer.ensures

pub forget_answer-requires-clause-sound : goal.forget_answer-requires-clause-sound
forget_answer-requires-clause-sound c =
    let x = c.args.store.now in
    subst (λ (t : Table AnswerEntry). IsSound (record x { answers = t })) (sym (same_answer x.answers c.args.q.0 c.in-Some.answer.now c.in-Some.ensures.value)) c.requires.sound

pub returns-then-answer-clause-state : goal.returns-then-answer-clause-state
returns-then-answer-clause-state c =
    let x = c.args.store.now in
    let q = c.args.q.0 in
    c.forget_answer.ensures.state ∙ ap (λ (t : Table AnswerEntry). record (state_of x) { answers = map.remove t.entries q }) (same_answer x.answers q c.in-Some.answer.now c.in-Some.ensures.value)
    ∙ state_finished (state_of x) q c.in-Some.answer.now (numbers c.args.ids) c.in-Some.ensures.value c.if-answer.true
