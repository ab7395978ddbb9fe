use Rattle.std.proofs.Common.{◌≡◌, ◌-◌, take, length}
use Rattle.core_refcounts.specs.Names.{named_all, all_roomier, HasRoom}
use Rattle.core_refcounts.proofs.names.Names.add_each.Given as goal

abbrev pub invariant-loop-node : goal.invariant-loop-node
invariant-loop-node l = record {
  named : l.self ≡ named_all (all_roomier (length l.nodes) l.fn.self) (take l.node-index l.nodes);
  room : HasRoom (length l.nodes - l.node-index) l.self;
}
