use Rattle.std.proofs.Common.{◌≡◌, ◌≤◌}
use Rattle.chart_parts.specs.Labels.{widths}
use Rattle.chart_parts.proofs.text.is_cut.Given as goal

abbrev pub invariant-loop-letter : goal.invariant-loop-letter
invariant-loop-letter l = (l.width ≡ widths l.yielded) × (l.width ≤ l.fn.place)
