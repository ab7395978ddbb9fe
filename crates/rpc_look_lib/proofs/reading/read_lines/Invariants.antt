use Rattle.std.proofs.Common.{[]}
use Rattle.rpc_look_lib.specs.Capturing.{scene_of}
use Rattle.rpc_look_lib.proofs.Logs.{Begun, log_start}
use Rattle.rpc_look_lib.proofs.reading.read_lines.Given as goal

-- what came of the log so far
abbrev pub invariant-reads : goal.invariant-reads
invariant-reads g l = Begun l.at (g.R.Read.remaining l.fn.reader) (g.R.Read.remaining l.reader) (log_start, scene_of l.fn.capture) l.lines.begun.items (l.lines.log, scene_of l.capture)
