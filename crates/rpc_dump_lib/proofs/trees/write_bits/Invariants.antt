use Rattle.std.proofs.Common.{◌≡◌, length, map, take}
use Rattle.std.specs.Vec.{vec_len, vec_capacity}
use Rattle.serde_json.specs.Data.{boolean}
use Rattle.serde_json.specs.View.{view}
use Rattle.rpc_dump_lib.proofs.trees.write_bits.Given as goal

abbrev pub invariant-loop-bit : goal.invariant-loop-bit
invariant-loop-bit l = record {
  same : map view l.values.items ≡ map boolean (take l.bit-index l.bits);
  count : vec_len l.values ≡ l.bit-index;
  room : vec_capacity l.values ≡ length l.bits;
}
