use Rattle.std.proofs.Common.{◌≡◌, List, length}
use Rattle.capn_fronts.specs.Parts.{Part}
use Rattle.vat_connection.specs.Speaking.{Speaking}
use Rattle.vat_connection.specs.Hearing.{HearsInTurn}
use Rattle.vat_connection.proofs.arrivals.hear_all.Given as goal

abbrev pub invariant-loop-limits : goal.invariant-loop-limits
invariant-loop-limits l =
    ((new : Speaking) (left : List Part) → HearsInTurn l.limits new left l.speaker l.inflow.unheard → HearsInTurn l.limits new left l.fn.speaker l.fn.inflow.unheard)
    × (l.inflow ≡ record (l.fn.inflow) { unheard = l.inflow.unheard })

abbrev pub decreases-loop-limits : goal.decreases-loop-limits
decreases-loop-limits l = length l.inflow.unheard
