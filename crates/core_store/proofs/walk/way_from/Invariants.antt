use Rattle.std.proofs.Common.{◌-◌, ◌≤◌}
use Rattle.rpc_machine.specs.Nodes.{link}
use Rattle.core_waits.specs.Links.{Leads, IsHop}
use Rattle.core_store.specs.Holding.{state_of}
use Rattle.core_store.proofs.walk.way_from.Given as goal

abbrev pub invariant-loop-next : goal.invariant-loop-next
invariant-loop-next l = record {
  next : IsHop (link (state_of l.store)) (l.store.links - l.far) l.at l.next;
  way : Leads (link (state_of l.store)) l.far l.fn.node l.at;
  within : l.far ≤ l.store.links;
}

abbrev pub decreases-loop-next : goal.decreases-loop-next
decreases-loop-next l = l.store.links - l.far
