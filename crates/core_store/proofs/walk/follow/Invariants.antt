use Rattle.std.proofs.Common.{◌≡◌}
use Rattle.rpc_machine.specs.Nodes.{link, follow, settle}
use Rattle.core_waits.specs.Links.{IsHop}
use Rattle.core_store.specs.Holding.{state_of}
use Rattle.core_store.proofs.walk.follow.Given as goal

abbrev pub invariant-loop-next : goal.invariant-loop-next
invariant-loop-next l = record {
  next : IsHop (link (state_of l.store)) l.left l.at l.next;
  leads : follow (state_of l.store) l.left l.at ≡ settle (state_of l.store) l.fn.node;
}

abbrev pub decreases-loop-next : goal.decreases-loop-next
decreases-loop-next l = l.left
