use Rattle.rpc_codec.specs.Bares.{bare_return}
use Rattle.rpc_codec.proofs.BareFrames.{return_can, return_fits, words_say, words_few, words_made}
use Rattle.rpc_codec.proofs.OneSegment.{fits_same}
use Rattle.rpc_codec.proofs.bare.return_frame.Goals as goal

pub of_segment-requires : goal.of_segment-requires
of_segment-requires c =
    let t = bare_return c.args.said in
    record {
      few = words_few t c.return_words-words.result c.return_words-words.ensures (return_can c.args.said) (return_fits c.args.said) (fits_same c.return_words-words.result c.fit.ensures);
      encoded = (words_say t c.return_words-words.result c.return_words-words.ensures (return_can c.args.said) (return_fits c.args.said) (fits_same c.return_words-words.result c.fit.ensures)).0;
    }

pub returns : goal.returns
returns c =
    let t = bare_return c.args.said in
    words_made t c.return_words-words.result c.return_words-words.ensures (return_can c.args.said) (return_fits c.args.said) (fits_same c.return_words-words.result c.fit.ensures) c.in_ok-frame.frame c.in_ok-frame.ensures
