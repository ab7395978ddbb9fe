use Rattle.std.proofs.Common.{◌≡◌, drop, take, length}
use Rattle.rpc_codec_parts.proofs.Lists.{with_front, ops_left}
use Rattle.rpc_codec_parts.proofs.targets.path_of_few.Given as goal

abbrev pub invariant-loop-step : goal.invariant-loop-step
invariant-loop-step l = record {
  same : with_front (take l.len l.ops) (ops_left (drop l.step-index l.steps)) ≡ ops_left l.steps;
  count : l.len ≡ l.step-index;
  whole : length l.ops ≡ 16;
}
