use Rattle.laws_vat_order.proofs.Steps.{waits_once}
use Rattle.laws_vat_order.proofs.laws.waits_once.Goals as goal

pub returns : goal.returns
returns c = waits_once
