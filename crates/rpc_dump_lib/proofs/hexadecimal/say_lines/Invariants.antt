use Rattle.std.proofs.Common.{length}
use Rattle.rpc_dump_lib.specs.Conversations.{Said, IsLines, digits_line}
use Rattle.rpc_dump_lib.proofs.hexadecimal.say_lines.Given as goal

abbrev pub invariant-lines : goal.invariant-lines
invariant-lines g l = Said (IsLines l.input) (digits_line l.form) l.rest l.number (g.W.Write.contents l.fn.out) (g.W.Write.contents l.out)

abbrev pub decreases-lines : goal.decreases-lines
decreases-lines g l = length l.rest
