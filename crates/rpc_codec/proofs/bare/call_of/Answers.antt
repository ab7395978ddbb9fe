use Rattle.std.proofs.Common.{subst, rules}
use Rattle.rpc_codec.specs.Bares.{IsOnly}
use Rattle.rpc_codec.proofs.bare.call_of.Goals as goal

pub returns-clause-frame : goal.returns-clause-frame
returns-clause-frame c = subst (IsOnly c.args.message.now) c.call_words.ensures (c.is_segment.ensures (search rules))
