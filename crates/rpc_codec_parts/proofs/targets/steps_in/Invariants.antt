use Rattle.std.proofs.Common.{◌≡◌, length, map, take}
use Rattle.std.specs.Vec.{vec_len, vec_capacity}
use Rattle.capn_trees.specs.Views.{fields_view}
use Rattle.rpc_codec_parts.specs.Targets.{step_of}
use Rattle.rpc_codec_parts.proofs.targets.steps_in.Given as goal

abbrev pub invariant-loop-op : goal.invariant-loop-op
invariant-loop-op l = record {
  same : map fields_view l.steps.items ≡ map step_of (take l.op-index l.path);
  count : vec_len l.steps ≡ l.op-index;
  room : vec_capacity l.steps ≡ length l.path;
}
