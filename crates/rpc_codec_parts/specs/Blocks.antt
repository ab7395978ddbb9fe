-- The structs of an envelope: "Structs" of the encoding specification. What is past the end of the data is zero, and what
-- is past the pointers is null.
use Rattle.std.specs.Prelude.{ℕ, List, [], Ok, Err}
use Rattle.capn_trees.specs.Trees.{Tree, null, struct, list, capability, Trees, no_trees, tree, Elements, packed, pointers, structs, Structs, no_structs, pointer_at}
use Rattle.capn_trees.specs.declared.tree.Tree as program
use Rattle.capn_trees.specs.Views.{trees_view}
use Rattle.rpc_codec_parts.specs.declared.faults.EnvelopeFault.TheVariants.{WrongKind}
use Rattle.rpc_codec_parts.specs.Reading.{Read, fault}

pub record Block : Type 0 where
  pub words : List ℕ
  pub pointers : Trees

-- what a struct of the program stands for
abbrev pub seen : List ℕ → List program.Tree → Block
seen words ts = record { words = words; pointers = trees_view ts }

abbrev pub empty : Block
empty = record { words = []; pointers = no_trees }

abbrev pub of_fields : List ℕ × Trees → Block
of_fields f = record { words = f.0; pointers = f.1 }

-- the struct that a tree is
abbrev pub block_of : Tree → Read Block
block_of null = Ok empty
block_of (struct words ts) = Ok (record { words = words; pointers = ts })
block_of (list elements) = Err (fault WrongKind)
block_of (capability index) = Err (fault WrongKind)

-- the struct that pointer n leads to
abbrev pub block_at : ℕ → Block → Read Block
block_at n b = block_of (pointer_at b.pointers n)

-- the structs of a list
abbrev pub structs_in : Elements → Read Structs
structs_in (packed bits xs) = Err (fault WrongKind)
structs_in (pointers ts) = Err (fault WrongKind)
structs_in (structs data_words pointer_words ss) = Ok ss

abbrev pub structs_of : Tree → Read Structs
structs_of null = Ok no_structs
structs_of (list elements) = structs_in elements
structs_of (struct words ts) = Err (fault WrongKind)
structs_of (capability index) = Err (fault WrongKind)

abbrev pub structs_at : ℕ → Block → Read Structs
structs_at n b = structs_of (pointer_at b.pointers n)

-- ---- pointers of a struct that is written

abbrev pub one : Tree → Trees
one t = tree t no_trees

abbrev pub two : Tree → Tree → Trees
two t u = tree t (tree u no_trees)

abbrev pub three : Tree → Tree → Tree → Trees
three t u v = tree t (tree u (tree v no_trees))
