use Rattle.std.proofs.Common.{◌≡◌, length, map, take}
use Rattle.std.specs.Str.{IsAscii}
use Rattle.std.specs.Vec.{vec_len, vec_capacity}
use Rattle.rpc_codec_parts.specs.Exceptions.{plain_byte}
use Rattle.rpc_codec_parts.proofs.exceptions.text_in_ascii.Given as goal

abbrev pub invariant-loop-byte : goal.invariant-loop-byte
invariant-loop-byte l = record {
  same : l.ascii.items ≡ map plain_byte (take l.byte-index l.bytes);
  ascii : IsAscii l.ascii.items;
  count : vec_len l.ascii ≡ l.byte-index;
  room : vec_capacity l.ascii ≡ length l.bytes;
}
