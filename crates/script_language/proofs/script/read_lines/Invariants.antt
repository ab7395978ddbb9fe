use Rattle.std.proofs.Common.{◌≡◌, ◌+◌, length}
use Rattle.script_language.specs.Scripts.{lines_from, texts_of}
use Rattle.script_language.proofs.Going.{behind}
use Rattle.script_language.proofs.script.read_lines.Given as goal

-- the lines so far, and those of the rest, are all lines
abbrev pub invariant-loop-next : goal.invariant-loop-next
invariant-loop-next l = behind l.lines (lines_from l.program (length l.lines + 1) (texts_of l.rest)) ≡ lines_from l.program 1 (texts_of l.script)

abbrev pub decreases-loop-next : goal.decreases-loop-next
decreases-loop-next l = length l.rest
