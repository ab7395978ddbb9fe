use Rattle.std.proofs.Common.{◌≡◌, take}
use Rattle.core_refcounts.specs.Names.{unnamed_all}
use Rattle.core_refcounts.proofs.names.Names.sub_all.Given as goal

abbrev pub invariant-loop-node : goal.invariant-loop-node
invariant-loop-node l = l.self ≡ unnamed_all l.fn.self (take l.node-index l.nodes)
