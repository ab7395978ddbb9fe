use Rattle.std.proofs.Common.{ℕ, zero, suc, ◌<◌, Bool, true, false, map, List, [], ◌∷◌, slice_index_or, arith}
use Rattle.capn_trees.specs.Views.{bit}
use Rattle.capn_trees.proofs.element.BoolElement.fit.Goals as goal

below : (bs : List Bool) (i : ℕ) → slice_index_or (map bit bs) i 0 < 2
below [] i = omega arith
below (true ∷ bs) zero = omega arith
below (false ∷ bs) zero = omega arith
below (b ∷ bs) (suc i) = below bs i

pub returns : goal.returns
returns c = below c.args._elements.now
