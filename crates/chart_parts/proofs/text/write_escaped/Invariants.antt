use Rattle.std.proofs.Common.{◌≡◌, ◌++◌, string_bytes}
use Rattle.chart_parts.specs.Escapes.{escaped}
use Rattle.chart_parts.proofs.text.write_escaped.Given as goal

abbrev pub invariant-loop-letter : goal.invariant-loop-letter
invariant-loop-letter l = string_bytes l.svg ≡ string_bytes l.fn.svg ++ escaped l.yielded
