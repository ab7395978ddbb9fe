use Rattle.rpc_codec.proofs.OneSegment.{sized, only_one, fits_same}
use Rattle.std.proofs.Common.{rules}
use Rattle.rpc_codec.proofs.bare.is_segment.Goals as goal

pub are_words-requires-clause-there : goal.are_words-requires-clause-there
are_words-requires-clause-there c = (sized c.args.message.now c.in-Some.size c.in-Some.ensures.size).1

pub returns : goal.returns
returns c = λ yes.
    (only_one c.args.message.now c.args.words.now (search rules) (sized c.args.message.now c.in-Some.size c.in-Some.ensures.size).0 (c.are_words.ensures yes), fits_same c.args.words.now c.fit.ensures)
