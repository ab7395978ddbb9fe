use Rattle.std.proofs.Common.{◌+◌, ◌<◌, ◌^◌, All, take, length}
use Rattle.core_refcounts.specs.Names.{times_named}
use Rattle.core_refcounts.proofs.names.Names.can_add.Given as goal

abbrev pub invariant-loop-node : goal.invariant-loop-node
invariant-loop-node l = All (λ n. times_named l.self n + length l.nodes < 2 ^ 64) (take l.node-index l.nodes)
