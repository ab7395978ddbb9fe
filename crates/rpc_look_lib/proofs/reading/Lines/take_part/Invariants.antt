use Rattle.std.proofs.Common.{ℕ, ◌-◌, ◌≤◌, ◌++◌, length, drop}
use Rattle.rpc_look_lib.specs.Capturing.{scene_of}
use Rattle.rpc_look_lib.specs.Reading.{IsLine, Front}
use Rattle.rpc_look_lib.proofs.reading.Lines.take_part.Given as goal

-- the lines that came so far
abbrev pub invariant-lines : goal.invariant-lines
invariant-lines g l = record {
  within : l.from ≤ length l.part;
  line : IsLine l.self.begun.items;
  front : Front l.at (l.fn.self.begun.items ++ l.part) (l.fn.self.log, scene_of l.fn.capture) (l.self.begun.items ++ drop l.from l.part) (l.self.log, scene_of l.capture);
}

abbrev pub decreases-lines : goal.decreases-lines
decreases-lines g l = length l.part - l.from
