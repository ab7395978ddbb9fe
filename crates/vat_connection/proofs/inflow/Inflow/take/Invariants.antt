use Rattle.std.proofs.Common.{◌-◌, ◌≤◌, drop, length}
use Rattle.vat_connection.specs.Hearing.{Inflow as In, IsParted, PartsOn}
use Rattle.vat_connection.proofs.inflow.Inflow.take.Given as goal

abbrev pub invariant-loop-at : goal.invariant-loop-at
invariant-loop-at l = ((new : In) → PartsOn l.self (drop l.at l.bytes) new → IsParted l.fn.self l.bytes new) × (l.at ≤ length l.bytes)

abbrev pub decreases-loop-at : goal.decreases-loop-at
decreases-loop-at l = length l.bytes - l.at
