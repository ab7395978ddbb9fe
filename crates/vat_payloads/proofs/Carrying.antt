-- What is found at the pointers of contents.
use Rattle.std.proofs.Common.{◌≡◌, ℕ, zero, suc, ◌+◌, ◌<◌, List, [], ◌∷◌, ◌++◌, map, length, Some, refl, sym, ap, ◌∙◌, arith}
use Rattle.std.specs.List.{range_with_len, slice_get}
use Rattle.capn_trees.specs.declared.tree.Tree as program
use Rattle.capn_trees.specs.Trees.{Tree, struct, list, packed, capability, pointer_at}
use Rattle.capn_trees.specs.Views.{view, trees_of}
use Rattle.rpc_msg.specs.Payloads.{Contents, tree_of}
use Rattle.rpc_msg.specs.Walking.{capability_at, found_at}
use Rattle.rpc_msg.specs.Op.TheVariants.{Field}
use Rattle.rpc_msg.specs.declared.ids.RefId.{RefId}
use Rattle.vat_payloads.specs.Contents.{AreFound, ref_of, said}

-- Each capability stands at its pointer.
cap_at : (a n i j : ℕ) → i < n → a + i ≡ j → pointer_at (trees_of (map capability (range_with_len a n))) i ≡ capability j
cap_at a zero i j h e = absurd (omega (arith, h))
cap_at a (suc n) zero j h e = ap capability (omega (arith, e))
cap_at a (suc n) (suc i) j h e = cap_at (a + 1) n i j (omega (arith, h)) (omega (arith, e))

all_found : (p : Contents) (came refs : List RefId) (numbers text : List ℕ) → tree_of p ≡ said numbers text (length refs) → came ≡ refs → AreFound p came refs
all_found p came refs numbers text says same i h =
    ap (λ t. ref_of (capability_at t (Field (suc i) ∷ [])) came) says
    ∙ ap (λ t. ref_of (found_at (Some t)) came) (cap_at 0 (length refs) i i h (omega arith))
    ∙ ap (λ rs. slice_get rs i) same

-- The same of what was written.
pub as_written : (p : Contents) (came refs : List RefId) (words numbers text : List ℕ) (ps : List program.Tree) → tree_of p ≡ struct words (trees_of (map view ps)) → words ≡ numbers
    → map view ps ≡ list (packed 8 (text ++ 0 ∷ [])) ∷ map capability (range_with_len 0 (length refs)) → came ≡ refs → AreFound p came refs
as_written p came refs words numbers text ps says counted made same =
    all_found p came refs numbers text (says ∙ ap (λ ws. struct ws (trees_of (map view ps))) counted ∙ ap (λ ts. struct numbers (trees_of ts)) made) same
