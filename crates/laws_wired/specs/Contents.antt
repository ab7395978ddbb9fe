-- Contents that went over a wire: laid out anew, and with null in the place of some capabilities.
use Rattle.std.specs.Prelude.{◌≡◌, ℕ, zero, suc, Bool, true, if◌then◌else◌, List, [], ◌∷◌}
use Rattle.capn_trees.specs.Trees.{Tree, null, struct, list, capability, Trees, no_trees, tree, Elements, packed, pointers, structs, Structs, no_structs, struct_of}
use Rattle.rpc_msg.specs.declared.parts.Descriptor.{Descriptor}
use Rattle.rpc_msg.specs.declared.parts.Descriptor.TheVariants as descriptor
use Rattle.rpc_msg.specs.Payloads.{Contents, tree_of}

-- A tree with null in the place of each pointer to one of these capabilities.
abbrev mutual
  pub without : (ℕ → Bool) → Tree → Tree
  without lost null = null
  without lost (struct words ts) = struct words (without_each lost ts)
  without lost (list elements) = list (without_elements lost elements)
  without lost (capability i) = if lost i then null else capability i

  pub without_each : (ℕ → Bool) → Trees → Trees
  without_each lost no_trees = no_trees
  without_each lost (tree t ts) = tree (without lost t) (without_each lost ts)

  pub without_elements : (ℕ → Bool) → Elements → Elements
  without_elements lost (packed bits ns) = packed bits ns
  without_elements lost (pointers ts) = pointers (without_each lost ts)
  without_elements lost (structs data_words pointer_words ss) = structs data_words pointer_words (without_structs lost ss)

  pub without_structs : (ℕ → Bool) → Structs → Structs
  without_structs lost no_structs = no_structs
  without_structs lost (struct_of words ts ss) = struct_of words (without_each lost ts) (without_structs lost ss)

-- The first contents say what the others say, but for null in the place of the capabilities that are lost.
pub record SayWithout (lost : ℕ → Bool) (p q : Contents) : Type 0 where
  pub caps : p.caps ≡ q.caps
  pub tree : tree_of p ≡ without lost (tree_of q)

-- The descriptor says that there is no capability.
abbrev pub SaysNone : Descriptor → Type 0
SaysNone d = d ≡ descriptor.None

-- What stands at that index of a list has that property.
abbrev pub HoldsAt : {X : Type 0} → (X → Type 0) → List X → ℕ → Type 0
HoldsAt P [] i = ⊥
HoldsAt P (x ∷ xs) zero = P x
HoldsAt P (x ∷ xs) (suc i) = HoldsAt P xs i

-- Each that is lost has that property.
abbrev pub EachLost : {X : Type 0} → (X → Type 0) → List X → (ℕ → Bool) → Type 0
EachLost P xs lost = (i : ℕ) → lost i ≡ true → HoldsAt P xs i

-- What is heard of contents that were said with these descriptors: what they say, but for null in the place of capabilities that
-- are none by their descriptors.
pub record IsHeardOf (ds : List Descriptor) (said heard : Contents) : Type 0 where
  pub lost : ℕ → Bool
  pub none : EachLost SaysNone ds lost
  pub like : SayWithout lost heard said
