-- The capabilities of a payload, and the paths that lead to them (PromisedAnswer.transform).
use Rattle.std.specs.Prelude.{◌≡◌, ◌<◌, ℕ, ◌+◌, ◌==◌, if◌then◌else◌, nat_le, nat_lt, List, [], ◌∷◌, ◌++◌, length, slice_index_or, Option, Some, None}
use Rattle.capn_trees.specs.Trees.{Tree, null, struct, list, capability, Trees, no_trees, tree}
use Rattle.rpc_msg.specs.Op.{Op}
use Rattle.rpc_msg.specs.Op.TheVariants.{Field}

-- a capability, and steps that lead to it
abbrev pub Find : Type 0
Find = ℕ × List Op

-- The capabilities of a tree to which these steps lead, in the order of the pointers: those in structs, with at most 16 steps
-- in all. The pointers of a struct have numbers of 16 bits.
abbrev mutual
  pub finds : List Op → Tree → List Find
  finds steps null = []
  finds steps (list elements) = []
  finds steps (capability i) = (i, steps) ∷ []
  finds steps (struct words ts) = if length steps == 16 then [] else finds_each steps 0 ts

  pub finds_each : List Op → ℕ → Trees → List Find
  finds_each steps number no_trees = []
  finds_each steps number (tree t ts) =
      finds (steps ++ Field number ∷ []) t ++ (if nat_lt (number + 1) 65536 then finds_each steps (number + 1) ts else [])

-- those that lead to one capability
abbrev pub leading_to : ℕ → List Find → List (List Op)
leading_to k [] = []
leading_to k (x ∷ xs) = if x.0 == k then x.1 ∷ leading_to k xs else leading_to k xs

abbrev pub no_longer : List Op → Option (List Op) → List Op
no_longer p None = p
no_longer p (Some q) = if nat_le (length p) (length q) then p else q

-- the first of the shortest
abbrev pub shortest : List (List Op) → Option (List Op)
shortest [] = None
shortest (p ∷ ps) = Some (no_longer p (shortest ps))

-- The shortest path of at most 16 steps to a capability, if there is one.
abbrev pub path_to : Tree → ℕ → Option (List Op)
path_to t k = shortest (leading_to k (finds [] t))

-- These are the shortest paths to the first capabilities of a tree.
abbrev pub AreShortest : Tree → List (Option (List Op)) → Type 0
AreShortest t found = (k : ℕ) → k < length found → slice_index_or found k None ≡ path_to t k
