use Rattle.std.proofs.Common.{ℕ, ◌-◌, ◌≤◌, length}
use Rattle.rpc_look_lib.specs.Talking.{stand_of}
use Rattle.rpc_look_lib.proofs.Pieces.{Midway}
use Rattle.rpc_look_lib.proofs.capture.tell_stream.Given as goal

-- what came of the piece so far
abbrev pub invariant-parts : goal.invariant-parts
invariant-parts g l = record {
  within : l.from ≤ length l.bytes;
  midway : Midway l.at l.side l.time l.bytes l.fn.stream (stand_of l.fn.talk) l.from l.stream (stand_of l.talk);
}

abbrev pub decreases-parts : goal.decreases-parts
decreases-parts g l = length l.bytes - l.from
