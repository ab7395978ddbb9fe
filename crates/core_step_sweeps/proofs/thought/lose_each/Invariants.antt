use Rattle.std.proofs.Common.{◌≡◌, ◌++◌, take}
use Rattle.core_refcounts.specs.Names.{named_all}
use Rattle.core_step_sweeps.proofs.thought.lose_each.Given as goal

abbrev pub invariant-loop-node : goal.invariant-loop-node
invariant-loop-node l = record {
  less : l.less ≡ named_all l.fn.less (take l.node-index l.nodes);
  pending : l.pending.items ≡ l.fn.pending.items ++ take l.node-index l.nodes;
}
