-- What a payload says: structs, lists and capabilities, without where they lie in memory.
use Rattle.std.specs.Prelude.{ℕ, zero, suc, List}

mutual
  pub data Tree : Type 0 where
    null : Tree
    struct : (data_words : List ℕ) → (pointers : Trees) → Tree
    list : Elements → Tree
    capability : ℕ → Tree

  pub data Trees : Type 0 where
    no_trees : Trees
    tree : Tree → Trees → Trees

  -- elements without pointers are of 0, 1, 8, 16, 32 or 64 bits each
  pub data Elements : Type 0 where
    packed : (bits : ℕ) → List ℕ → Elements
    pointers : Trees → Elements
    structs : (data_words pointer_words : ℕ) → Structs → Elements

  pub data Structs : Type 0 where
    no_structs : Structs
    struct_of : (data_words : List ℕ) → (pointers : Trees) → Structs → Structs

-- pointer i of a pointer section, which is null past the end
abbrev pub pointer_at : Trees → ℕ → Tree
pointer_at no_trees i = null
pointer_at (tree t ts) zero = t
pointer_at (tree t ts) (suc i) = pointer_at ts i

-- how many trees, and how many structs
abbrev pub trees_count : Trees → ℕ
trees_count no_trees = 0
trees_count (tree t ts) = suc (trees_count ts)

abbrev pub structs_count : Structs → ℕ
structs_count no_structs = 0
structs_count (struct_of words ts ss) = suc (structs_count ss)
