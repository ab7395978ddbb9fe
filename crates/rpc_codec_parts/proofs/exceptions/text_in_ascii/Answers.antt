use Rattle.std.proofs.lemmas.Str.{IsUtf8-from_ascii}
use Rattle.rpc_codec_parts.proofs.Texts.{never}
use Rattle.rpc_codec_parts.proofs.exceptions.text_in_ascii.Goals as goal

pub unreachable-requires : goal.unreachable-requires
unreachable-requires c = never (c.in-Err.ensures.succeeds (IsUtf8-from_ascii c.loop-byte.ascii.items c.loop-byte.invariant.ascii))
