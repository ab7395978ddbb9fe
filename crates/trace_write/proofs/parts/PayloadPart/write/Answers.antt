use Rattle.std.proofs.Common.{arith}
use Rattle.trace_write.specs.Fits.{FitsPayload}
use Rattle.trace_write.proofs.Results.{on_ok}
use Rattle.trace_write.proofs.parts.PayloadPart.write.Goals as goal

pub returns-clause-fits : goal.returns-clause-fits
returns-clause-fits c =
    let fits : FitsPayload c.args.self.now = record {
      encoded = c.bytes.ensures.payload.encoded;
      bytes = λ i. c.bytes.ensures.payload.bytes i;
      caps = omega (arith, c.caps-caps.type_inv, c.caps-caps.ensures);
    } in
    on_ok _ fits
