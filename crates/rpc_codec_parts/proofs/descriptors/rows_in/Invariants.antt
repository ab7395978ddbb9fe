use Rattle.std.proofs.Common.{◌≡◌, length, map, take}
use Rattle.std.specs.Vec.{vec_len, vec_capacity}
use Rattle.capn_trees.specs.Views.{fields_view}
use Rattle.rpc_codec_parts.specs.Descriptors.{row_of}
use Rattle.rpc_codec_parts.proofs.descriptors.rows_in.Given as goal

abbrev pub invariant-loop-descriptor : goal.invariant-loop-descriptor
invariant-loop-descriptor l = record {
  same : map fields_view l.rows.items ≡ map row_of (take l.descriptor-index l.descriptors);
  count : vec_len l.rows ≡ l.descriptor-index;
  room : vec_capacity l.rows ≡ length l.descriptors;
}
