-- The tree of a payload that carries capabilities.
use Rattle.std.proofs.Common.{◌≡◌, ℕ, zero, suc, ◌+◌, ◌<◌, List, [], ◌∷◌, ◌++◌, map, Result, Ok, Err, refl, sym, ap, ◌∙◌, arith}
use Rattle.std.specs.Prelude.{IfOk}
use Rattle.rpc_msg.specs.Memory.{Memory}
use Rattle.std.specs.List.{range_with_len}
use Rattle.std.proofs.lemmas.List.FromFn.{map-range_with_len_more}
use Rattle.capn_trees.specs.declared.tree.Tree as program
use Rattle.rpc_msg.specs.Payloads.{Contents}
use Rattle.capn_trees.specs.Trees.{Tree, capability}
use Rattle.capn_trees.specs.Views.{view}
use Rattle.capn_writing.specs.Placing.{written}
use Rattle.script_language.specs.Carried.{caps_tree, carrying}

map_pushed : {X Y : Type 0} (f : X → Y) (xs : List X) (x : X) → map f (xs ++ x ∷ []) ≡ map f xs ++ f x ∷ []
map_pushed f [] x = refl
map_pushed f (y ∷ xs) x = ap (λ ys. f y ∷ ys) (map_pushed f xs x)

-- One more capability.
pub caps_more : (ts now : List program.Tree) (t : program.Tree) (i : ℕ) → now ≡ ts ++ t ∷ [] → view t ≡ capability i → map view ts ≡ map capability (range_with_len 0 i) → map view now ≡ map capability (range_with_len 0 (i + 1))
caps_more ts now t i pushed seen so_far =
    ap (map view) pushed ∙ map_pushed view ts t ∙ ap (λ u. map view ts ++ u ∷ []) seen ∙ ap (λ xs. xs ++ capability i ∷ []) so_far
    ∙ sym (map-range_with_len_more capability 0 i i (omega arith))

pub carrying_some : (n : ℕ) → 0 < n → carrying n ≡ record { bytes = written (caps_tree n); caps = n }
carrying_some zero h = absurd (omega (arith, h))
carrying_some (suc n) h = refl

-- What is written of the tree of so many capabilities carries them.
pub carried : (r : Result Contents Memory) (t : program.Tree) (n : ℕ) → IfOk r (λ p. p ≡ record { bytes = written (view t); caps = n }) → view t ≡ caps_tree n → 0 < n → IfOk r (λ p. p ≡ carrying n)
carried (Ok p) t n is seen some = is ∙ ap (λ (u : Tree). record { bytes = written u; caps = n }) seen ∙ sym (carrying_some n some)
carried (Err e) t n is seen some = tt
