use Rattle.std.proofs.Common.{ℕ, List, sym, subst}
use Rattle.capn_fronts.specs.Parts.{IsHeld}
use Rattle.capn_fronts.proofs.Held.{nothing_held}
use Rattle.capn_fronts.proofs.reader.FrontReader.new.Goals as goal

pub invariant_of-result : goal.invariant_of-result
invariant_of-result c = subst (λ (bytes : List ℕ). IsHeld (record { kept = bytes; dropped = 0 })) (sym c.new.ensures.items) nothing_held
