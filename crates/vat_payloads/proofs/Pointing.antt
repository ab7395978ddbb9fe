-- One more pointer to a capability.
use Rattle.std.proofs.Common.{◌≡◌, ℕ, ◌+◌, List, [], ◌∷◌, ◌++◌, map, sym, ap, ◌∙◌, arith}
use Rattle.std.specs.List.{range_with_len}
use Rattle.std.proofs.lemmas.List.{map_push, append_assoc}
use Rattle.std.proofs.lemmas.List.FromFn.{map-range_with_len_more}
use Rattle.capn_trees.specs.declared.tree.Tree as program
use Rattle.capn_trees.specs.Trees.{Tree, capability}
use Rattle.capn_trees.specs.Views.{view}

pub caps_more : (us : List Tree) (ts now : List program.Tree) (t : program.Tree) (i : ℕ) → now ≡ ts ++ t ∷ [] → view t ≡ capability i
    → map view ts ≡ us ++ map capability (range_with_len 0 i) → map view now ≡ us ++ map capability (range_with_len 0 (i + 1))
caps_more us ts now t i pushed seen so_far =
    ap (map view) pushed ∙ map_push view ts t ∙ ap (λ x. map view ts ++ x ∷ []) seen ∙ ap (λ xs. xs ++ capability i ∷ []) so_far
    ∙ append_assoc us (map capability (range_with_len 0 i)) (capability i ∷ []) ∙ ap (λ xs. us ++ xs) (sym (map-range_with_len_more capability 0 i i (omega arith)))
