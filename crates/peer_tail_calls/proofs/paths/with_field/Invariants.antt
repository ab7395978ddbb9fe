use Rattle.std.proofs.Common.{◌≡◌, take, length}
use Rattle.peer_tail_calls.proofs.paths.with_field.Given as goal

-- the first steps are there
abbrev pub invariant-loop-index : goal.invariant-loop-index
invariant-loop-index l = record {
  same : take l.index l.ops ≡ take l.index l.taken;
  whole : length l.ops ≡ 16;
}
