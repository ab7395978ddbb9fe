use Rattle.std.proofs.Common.{take}
use Rattle.vat_trace_lib.specs.Playing.{Plays}
use Rattle.vat_trace_lib.proofs.lines.play_lines.Given as goal

abbrev pub invariant-loop-i : goal.invariant-loop-i
invariant-loop-i l = Plays l.fn.world l.fn.names (take l.i l.lines) l.world l.names
