use Rattle.std.proofs.Common.{ap, ◌∙◌}
use Rattle.core_refcounts.specs.Names.{Names}
use Rattle.core_store.specs.declared.store.Store.{Store}
use Rattle.core_store.specs.Noted.{Notes, noted_of}
use Rattle.core_step_sweeps.proofs.Unnoted.{question_passed, question_again}
use Rattle.core_step_sweeps.proofs.notes.rest_questions.Goals as goal

pub returns-then-is_to_be_finished-clause-sound : goal.returns-then-is_to_be_finished-clause-sound
returns-then-is_to_be_finished-clause-sound c =
    let none = ap (λ (x : Store). x.waits.taken) c.loop-id.invariant.same ∙ c.requires.none_taken in
    question_again c.loop-id.store none c.loop-id.invariant.sound c.take_question.new.self c.note_question.new.self c.in-Some.id.0 c.in-Some.ensures c.in-Ok.ensures.ok

pub loop-id-preserved : goal.loop-id-preserved
loop-id-preserved c =
    let none = ap (λ (x : Store). x.waits.taken) c.loop-id.invariant.same ∙ c.requires.none_taken in record {
      same = ap (λ (x : Store). record x { names = c.take_question.new.self }) c.loop-id.invariant.same;
      sound = question_passed c.loop-id.store none c.loop-id.invariant.sound c.take_question.new.self c.in-Some.id.0 c.in-Some.ensures c.if-is_to_be_finished.ensures;
      noted = ap (λ (n : Names). record (noted_of n) { questions = c.take_question.new.self.questions.noted }) c.in-Some.ensures.2 ∙ ap (λ (n : Notes). record n { questions = c.take_question.new.self.questions.noted }) c.loop-id.invariant.noted;
    }
