use Rattle.laws_vat_order.proofs.Steps.{none_passes}
use Rattle.laws_vat_order.proofs.laws.none_passes.Goals as goal

pub returns : goal.returns
returns c = none_passes
