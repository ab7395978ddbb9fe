use Rattle.std.proofs.Common.{List, ◌++◌, drop}
use Rattle.rpc_machine.specs.declared.node.Node.{Node}
use Rattle.core_store.specs.Holding.{state_of}
use Rattle.core_step_sweeps.specs.Thinking.{IsThought, IsStill, IsQuiet, nodes_of, field_node}
use Rattle.core_step_sweeps.proofs.search.consider_outcomes.Given as goal

abbrev pub invariant-loop-key : goal.invariant-loop-key
invariant-loop-key l = record {
  thought : (rest : List Node) → IsThought (state_of l.store) l.fn.thought (nodes_of field_node l.store.names.outcomes.noted ++ (rest ++ l.fn.thought.pending.items)) → IsThought (state_of l.store) l.thought (nodes_of field_node (drop l.key-index l.store.names.outcomes.noted) ++ (rest ++ l.thought.pending.items));
  still : IsQuiet (state_of l.store) → IsStill l.fn.thought → IsStill l.thought;
}
