use Rattle.std.proofs.Common.{sym, subst}
use Rattle.rpc_machine.specs.Sweeping.{Sweeps}
use Rattle.core_store.specs.declared.store.Store.{Store}
use Rattle.core_step.specs.InProgress.{progress_of}
use Rattle.core_step_sweeps.specs.Ending.{swept_of}
use Rattle.core_step_sweeps.proofs.Turning.{left_all, sweeps, swept_state}
use Rattle.core_step_sweeps.proofs.sweeps.sweep_over.Goals as goal

pub finish_any-requires-clause-left : goal.finish_any-requires-clause-left
finish_any-requires-clause-left c = left_all c.args.step.now c.args.over.now c.requires.ready c.requires.over

pub returns-clause-swept : goal.returns-clause-swept
returns-clause-swept c =
    let x = c.args.step.now in
    let y = c.collect_ending.new.step in
    subst (λ (s : Store). Sweeps (progress_of x) (swept_of (record y { store = s }))) (sym c.forget_questions.ensures.same)
    (sweeps x c.finish_any.new.step y c.args.over.now c.requires.ready c.requires.over
    c.finish_any.ensures.each c.collect_ending.ensures.rest c.collect_ending.ensures.collects)

pub returns-clause-state : goal.returns-clause-state
returns-clause-state c = swept_state (record (c.collect_ending.new.step) { store = c.forget_questions.new.store })
