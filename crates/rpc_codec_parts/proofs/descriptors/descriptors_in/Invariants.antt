use Rattle.std.proofs.Common.{◌≡◌, drop}
use Rattle.rpc_codec_parts.proofs.Lists.{with_front, descriptors_left}
use Rattle.rpc_codec_parts.proofs.descriptors.descriptors_in.Given as goal

abbrev pub invariant-loop-row : goal.invariant-loop-row
invariant-loop-row l = with_front l.descriptors.items (descriptors_left (drop l.row-index l.rows)) ≡ descriptors_left l.rows
