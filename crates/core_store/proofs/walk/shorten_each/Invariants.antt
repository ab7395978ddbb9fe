use Rattle.std.proofs.Common.{◌≡◌}
use Rattle.rpc_machine.specs.Nodes.{link}
use Rattle.core_waits.specs.Links.{Leads}
use Rattle.core_store.specs.Holding.{state_of}
use Rattle.core_store.proofs.walk.shorten_each.Given as goal

abbrev pub invariant-loop-left : goal.invariant-loop-left
invariant-loop-left l = record {
  same : l.store ≡ l.fn.store;
  rest : Leads (link (state_of l.fn.store)) l.left l.at l.way.to;
}

abbrev pub decreases-loop-left : goal.decreases-loop-left
decreases-loop-left l = l.left
