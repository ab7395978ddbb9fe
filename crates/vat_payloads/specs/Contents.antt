-- What the contents of an application's calls and answers say (docs/embedding.md, "Payloads").
use Rattle.std.specs.Prelude.{◌≡◌, ◌<◌, ◌⊎◌, ℕ, suc, nat_lt, if◌then◌else◌, List, [], ◌∷◌, ◌++◌, length, map, Option, Some, None, IsSome}
use Rattle.std.specs.List.{range_with_len, slice_get}
use Rattle.rpc_msg.specs.Payloads.{Contents, tree_of}
use Rattle.rpc_msg.specs.Walking.{capability_at}
use Rattle.rpc_msg.specs.declared.ids.RefId.{RefId}
use Rattle.rpc_msg.specs.Op.TheVariants.{Field}
use Rattle.rpc_msg.specs.CapAt.{CapAt}
use Rattle.rpc_msg.specs.CapAt.TheVariants.{Cap, Null, NotCap}
use Rattle.capn_trees.specs.Trees.{Tree, struct, list, packed, capability}
use Rattle.capn_trees.specs.Views.{trees_of}
use Rattle.capn_trees.specs.Writable.{refusal}
use Rattle.capn_trees.specs.declared.faults.WriteFault.{WriteFault}
use Rattle.capn_trees.specs.declared.faults.WriteFault.TheVariants.{TooLarge}

-- A struct of these numbers, with a pointer to a text, and behind it one to each of so many capabilities.
abbrev pub said : List ℕ → List ℕ → ℕ → Tree
said numbers text n = struct numbers (trees_of (list (packed 8 (text ++ 0 ∷ [])) ∷ map capability (range_with_len 0 n)))

-- A pointer to the text, if there is one.
abbrev pub to_text : Option (List ℕ) → List Tree
to_text None = []
to_text (Some text) = list (packed 8 (text ++ 0 ∷ [])) ∷ []

-- A struct of these numbers, with a pointer to the text, if there is one, and behind it one to each of so many capabilities.
abbrev pub saying : List ℕ → Option (List ℕ) → ℕ → Tree
saying numbers text caps = struct numbers (trees_of (to_text text ++ map capability (range_with_len 0 caps)))

-- A struct has no more than 65,535 pointers, and a payload no more than its limits allow.
abbrev pub IsTooMuch : List ℕ → Option (List ℕ) → ℕ → Type 0
IsTooMuch numbers text caps = (65535 < caps) ⊎ IsSome (refusal (saying numbers text caps) caps)

-- Why what is said can't be written, if there is a reason: a struct has no more than 65,535 pointers.
abbrev pub fault_of : List ℕ → List ℕ → ℕ → Option WriteFault
fault_of numbers text n = if nat_lt 65534 n then Some TooLarge else refusal (said numbers text n) n

-- The reference of what stands at a place, if that is a capability.
abbrev pub ref_of : CapAt → List RefId → Option RefId
ref_of (Cap i) refs = slice_get refs i
ref_of Null refs = None
ref_of NotCap refs = None

-- At pointer 1 is the capability of the first of these references, at pointer 2 that of the second, and so on.
abbrev pub AreFound : Contents → List RefId → List RefId → Type 0
AreFound p came refs = (i : ℕ) → i < length refs → ref_of (capability_at (tree_of p) (Field (suc i) ∷ [])) came ≡ slice_get refs i
