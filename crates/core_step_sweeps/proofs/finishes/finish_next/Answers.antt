use Rattle.std.proofs.Common.{refl, ap, ◌∙◌, arith}
use Rattle.std.specs.FinMap as map
use Rattle.finite_maps.specs.Tally.{Map}
use Rattle.rpc_machine.specs.declared.entries.Question.{Question}
use Rattle.core_step_sweeps.specs.Ending.{finishing_of}
use Rattle.core_step_sweeps.proofs.Closed.{below_later, others_stay}
use Rattle.core_step_sweeps.proofs.Turning.{next_one}
use Rattle.core_step_sweeps.proofs.finishes.finish_next.Goals as goal

pub returns-in_default-clause-below : goal.returns-in_default-clause-below
returns-in_default-clause-below c = λ k less. below_later c.args.q.0 k (map.entries c.args.step.now.outbox.finishes) (omega (arith, less)) c.requires.last

pub returns-clause-one : goal.returns-clause-one
returns-clause-one c =
    next_one c.args.step.now c.collect_ending.new.step c.finish_one.new.step c.args.q.0 (map.get c.args.step.now.store.questions.entries c.args.q.0) c.in-Some.ensures
    c.collect_ending.ensures.rest c.collect_ending.ensures.collects c.finish_one.ensures.said refl

pub returns-clause-others : goal.returns-clause-others
returns-clause-others c = λ k h.
    others_stay (finishing_of c.collect_ending.new.step) (finishing_of c.finish_one.new.step) c.args.q.0 (map.get c.collect_ending.new.step.store.questions.entries c.args.q.0) c.finish_one.ensures.said k h
    ∙ ap (λ (m : Map Question). map.get m k) c.collect_ending.ensures.rest.questions
