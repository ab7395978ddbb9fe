use Rattle.std.proofs.Common.{sym, subst}
use Rattle.capn_fronts.specs.Parts.{IsShort, Part, front_of}
use Rattle.vat_connection.proofs.Pushing.{none_short}
use Rattle.vat_connection.proofs.inflow.Inflow.end.Goals as goal

pub invariant_of-self : goal.invariant_of-self
invariant_of-self c = subst (λ (p : Part). IsShort (front_of p)) (sym c.new.ensures) none_short
