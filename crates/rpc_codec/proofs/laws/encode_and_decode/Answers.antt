use Rattle.std.proofs.Common.{List, ℕ, ap, ◌∙◌}
use Rattle.rpc_codec.specs.Decoding.{envelope_at}
use Rattle.rpc_codec.proofs.Decoded.{decoded, framed_caps, gives_that}
use Rattle.rpc_codec.proofs.laws.encode_and_decode.Goals as goal

pub returns : goal.returns
returns c = λ fits.
    let p = c.in_ok-frame.frame in
    let is = decoded c.args.stamp c.args.message.now p (framed_caps c.args.message.now p c.in_ok-frame.ensures.frame) c.in_ok-frame.ensures.says.0 c.in_ok-frame.ensures.says.1 fits in
    gives_that c.decode.result _ _ c.decode.ensures (ap (λ (bs : List ℕ). envelope_at c.args.stamp bs) c.bytes.ensures.value ∙ is)
