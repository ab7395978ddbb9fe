-- The payloads of one word each that are made of constant bytes.
use Rattle.std.proofs.Common.{◌≡◌, ℕ, zero, suc, ◌<◌, List, [], ◌∷◌, refl, arith}
use Rattle.capn_trees.specs.Trees.{null, capability}
use Rattle.capn_trees.specs.Widths.{AreOf}
use Rattle.capn_wire.specs.Payloads.{IsEncoded, tree_of, null_payload, root_payload}
use Rattle.capn_wire.proofs.Written.{says_written}

one_word : (w : ℕ) → w < 4 → AreOf 64 (w ∷ [])
one_word w lt zero = omega (arith, lt)
one_word w lt (suc i) = omega arith

-- a null pointer
pub null_says : IsEncoded null_payload × (tree_of null_payload ≡ null)
null_says = says_written null 0 null_payload.bytes refl tt (one_word 0 (omega arith)) refl

-- a pointer to the only capability
pub root_says : IsEncoded root_payload × (tree_of root_payload ≡ capability 0)
root_says = says_written (capability 0) 1 root_payload.bytes refl (omega arith) (one_word 3 (omega arith)) refl
