use Rattle.std.proofs.Common.{sym, subst}
use Rattle.capn_fronts.specs.Parts.{IsShort, Part, front_of}
use Rattle.vat_connection.proofs.Pushing.{none_short}
use Rattle.vat_connection.proofs.inflow.Inflow.new.Goals as goal

pub invariant_of-result : goal.invariant_of-result
invariant_of-result c = subst (λ (p : Part). IsShort (front_of p)) (sym c.new-2.ensures) none_short
