use Rattle.std.proofs.Common.{ℕ, ◌^◌, ◌<◌, List, slice_index_or, sym, subst, arith}
use Rattle.std.proofs.lemmas.List.{map-id}
use Rattle.capn_trees.proofs.element.U64Element.fit.Goals as goal

pub returns : goal.returns
returns c = λ i. subst (λ (xs : List ℕ). slice_index_or xs i 0 < 2 ^ 64) (sym (map-id c.args._elements.now)) (omega (arith, c.type_inv._elements i))
