use Rattle.rpc_codec.specs.Bares.{bare_finish}
use Rattle.rpc_codec.proofs.BareFrames.{finish_can, finish_fits, words_say, words_few, words_made}
use Rattle.rpc_codec.proofs.OneSegment.{fits_same}
use Rattle.rpc_codec.proofs.bare.finish_frame.Goals as goal

pub of_segment-requires : goal.of_segment-requires
of_segment-requires c =
    let t = bare_finish c.args.finish in
    record {
      few = words_few t c.finish_words-words.result c.finish_words-words.ensures (finish_can c.args.finish) (finish_fits c.args.finish) (fits_same c.finish_words-words.result c.fit.ensures);
      encoded = (words_say t c.finish_words-words.result c.finish_words-words.ensures (finish_can c.args.finish) (finish_fits c.args.finish) (fits_same c.finish_words-words.result c.fit.ensures)).0;
    }

pub returns : goal.returns
returns c =
    let t = bare_finish c.args.finish in
    words_made t c.finish_words-words.result c.finish_words-words.ensures (finish_can c.args.finish) (finish_fits c.args.finish) (fits_same c.finish_words-words.result c.fit.ensures) c.in_ok-frame.frame c.in_ok-frame.ensures
