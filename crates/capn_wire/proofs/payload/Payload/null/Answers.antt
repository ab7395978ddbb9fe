use Rattle.std.proofs.Common.{ap, ◌∙◌}
use Rattle.capn_wire.specs.Payloads.{tree_of, null_payload}
use Rattle.capn_wire.proofs.Constant.{null_says}
use Rattle.capn_wire.proofs.payload.Payload.null.Goals as goal

pub of_bytes-requires : goal.of_bytes-requires
of_bytes-requires c = null_says.0

pub returns : goal.returns
returns c = (c.in_ok-payload.ensures, ap tree_of c.in_ok-payload.ensures ∙ null_says.1)
