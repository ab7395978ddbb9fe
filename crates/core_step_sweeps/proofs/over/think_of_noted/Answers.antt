use Rattle.core_store.specs.Holding.{state_of}
use Rattle.core_step_sweeps.specs.Thinking.{nodes_of, promise_node, field_node, import_node, pipe_node}
use Rattle.core_step_sweeps.proofs.Thoughts.{considered_four}
use Rattle.core_step_sweeps.proofs.Ending.{thought_begins, is_over}
use Rattle.core_step_sweeps.proofs.over.think_of_noted.Goals as goal

pub think-requires-clause-thought : goal.think-requires-clause-thought
think-requires-clause-thought c =
    let x = c.args.store.now in
    let y = c.clear.new.self in
    considered_four (state_of x) y c.consider_promises.new.thought c.consider_outcomes.new.thought c.consider_imports.new.thought c.consider_questions.new.thought
    (nodes_of promise_node x.names.promises.noted) (nodes_of field_node x.names.outcomes.noted) (nodes_of import_node x.names.imports.noted) (nodes_of pipe_node x.names.questions.noted)
    c.in_ok-consider_promises.ensures.thought c.in_ok-consider_outcomes.ensures.thought c.in_ok-consider_imports.ensures.thought c.in_ok-consider_questions.ensures.thought
    (thought_begins x c.requires.sound.counted c.requires.none_taken c.requires.sound.covered y.pending.items y c.clear.ensures.gone c.clear.ensures.last c.clear.ensures.marks c.clear.ensures.over c.clear.ensures.less)

pub returns-clause-over : goal.returns-clause-over
returns-clause-over c =
    is_over (state_of c.args.store.now) c.think.new.thought c.sort_unstable.new.self.items c.in_ok-think.ensures.thought c.sort_unstable.ensures.permutation c.sort_unstable.ensures.sorted
