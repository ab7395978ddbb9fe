use Rattle.std.proofs.Common.{◌≡◌}
use Rattle.look_chart_lib.specs.Arrows.{arrows_of}
use Rattle.look_chart_lib.proofs.chart.Chart.draw_breaches.Given as goal

abbrev pub invariant-loop-breach : goal.invariant-loop-breach
invariant-loop-breach l = arrows_of l.self.rows.items ≡ arrows_of l.fn.self.rows.items
