use Rattle.std.proofs.Common.{◌≡◌}
use Rattle.peer_overload.specs.Overloading.{cleared, cleared_all}
use Rattle.peer_overload.proofs.Cleared.{now_and_then}
use Rattle.peer_overload.proofs.clearance.clear_each.Given as goal

-- those that were cleared, and the others to be, are all
abbrev pub invariant-loop-at : goal.invariant-loop-at
invariant-loop-at l = cleared_all l.refused l.fn.descriptors ≡ now_and_then (cleared l.refused) l.at l.descriptors
