use Rattle.capn_wire.proofs.Within.{fits_within}
use Rattle.capn_wire.proofs.payload.Payload.words_within.Goals as goal

pub returns-in-Ok-clause-fits : goal.returns-in-Ok-clause-fits
returns-in-Ok-clause-fits c =
    rw c.saturating_sub.ensures (fits_within c.args.self.now c.args.levels c.in-Ok.counted c.requires c.bytes.ensures.payload (rw (c.bytes.ensures.value, c.caps.ensures) at c.in-Ok.ensures))
