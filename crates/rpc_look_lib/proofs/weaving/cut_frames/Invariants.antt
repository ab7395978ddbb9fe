use Rattle.std.proofs.Common.{◌≡◌, ◌-◌, ◌≤◌, length}
use Rattle.rpc_look_lib.specs.Talking.{stand_of}
use Rattle.rpc_look_lib.proofs.Orders.{CutTo}
use Rattle.rpc_look_lib.proofs.weaving.cut_frames.Given as goal

-- the bytes that were cut so far
abbrev pub invariant-bytes : goal.invariant-bytes
invariant-bytes g l = record {
  within : l.from ≤ length l.bytes;
  same : stand_of l.talk ≡ stand_of l.fn.talk;
  cut : CutTo l.bytes l.frames.items l.stream l.from;
}

abbrev pub decreases-bytes : goal.decreases-bytes
decreases-bytes g l = length l.bytes - l.from
