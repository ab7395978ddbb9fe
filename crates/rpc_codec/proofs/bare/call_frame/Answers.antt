use Rattle.rpc_codec.specs.Bares.{bare_call}
use Rattle.rpc_codec.proofs.BareFrames.{call_can, call_fits, words_say, words_few, words_made}
use Rattle.rpc_codec.proofs.OneSegment.{fits_same}
use Rattle.rpc_codec.proofs.bare.call_frame.Goals as goal

pub of_segment-requires : goal.of_segment-requires
of_segment-requires c =
    let t = bare_call c.args.call in
    record {
      few = words_few t c.call_words-words.result c.call_words-words.ensures (call_can c.args.call) (call_fits c.args.call) (fits_same c.call_words-words.result c.fit.ensures);
      encoded = (words_say t c.call_words-words.result c.call_words-words.ensures (call_can c.args.call) (call_fits c.args.call) (fits_same c.call_words-words.result c.fit.ensures)).0;
    }

pub returns : goal.returns
returns c =
    let t = bare_call c.args.call in
    words_made t c.call_words-words.result c.call_words-words.ensures (call_can c.args.call) (call_fits c.args.call) (fits_same c.call_words-words.result c.fit.ensures) c.in_ok-frame.frame c.in_ok-frame.ensures
