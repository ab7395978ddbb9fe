use Rattle.std.proofs.Common.{◌≡◌, ◌++◌, take}
use Rattle.rpc_machine.specs.Places.{nodes}
use Rattle.core_refcounts.specs.Names.{named_all}
use Rattle.core_step_sweeps.proofs.thought.lose_beside.Given as goal

abbrev pub invariant-loop-cap : goal.invariant-loop-cap
invariant-loop-cap l = record {
  less : l.less ≡ named_all l.fn.less (nodes (take l.cap-index l.caps));
  pending : l.pending.items ≡ l.fn.pending.items ++ nodes (take l.cap-index l.caps);
}
