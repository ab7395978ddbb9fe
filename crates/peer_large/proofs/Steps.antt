-- The steps of a path, counted.
use Rattle.std.proofs.Common.{◌≡◌, ℕ, List, [], ◌∷◌, length, Ok, refl, ap, ◌∙◌, arith}
use Rattle.capn_trees.specs.declared.tree.Fields.{Fields}
use Rattle.capn_trees.specs.Trees.{Structs, structs_count}
use Rattle.capn_trees.specs.Views.{structs_view}
use Rattle.rpc_codec_parts.specs.Blocks.{Block, block_at, structs_at}
use Rattle.rpc_codec_parts.specs.Reading.{Read, ◌>>=◌}
use Rattle.peer_large.specs.Opening.{steps_by}

count_is : (fs : List Fields) → structs_count (structs_view fs) ≡ length fs
count_is [] = refl
count_is (f ∷ fs) = let e = count_is fs in omega (arith, e)

counted : (read : Read Structs) (fs : List Fields) → read ≡ Ok (structs_view fs) → (read >>= λ steps. Ok (structs_count steps)) ≡ Ok (length fs)
counted read fs e = ap (λ (r : Read Structs). r >>= λ steps. Ok (structs_count steps)) e ∙ ap Ok (count_is fs)

pub steps_is : (which : ℕ) (b answer : Block) (fs : List Fields) → which ≡ 1 → block_at 0 b ≡ Ok answer → structs_at 0 answer ≡ Ok (structs_view fs) → steps_by which b ≡ Ok (length fs)
steps_is which b answer fs one block steps =
    ap (λ (n : ℕ). steps_by n b) one
    ∙ ap (λ (r : Read Block). r >>= λ answer. structs_at 0 answer >>= λ steps. Ok (structs_count steps)) block
    ∙ counted (structs_at 0 answer) fs steps
