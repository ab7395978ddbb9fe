-- What the types of a program's tree say of its numbers.
use Rattle.std.specs.Prelude.{◌≡◌, ◌^◌, ◌<◌, ⊤}
use Rattle.capn_trees.specs.declared.width.Width.{Width}
use Rattle.capn_trees.specs.Widths.{bits_of, AreOf}
use Rattle.capn_trees.specs.Trees.{Tree, null, struct, list, capability, Trees, no_trees, tree, Elements, packed, pointers, structs, Structs, no_structs, struct_of}

abbrev mutual
  -- the elements of each list have the bits of one of the widths, and the sizes of its structs 16
  pub Fits : Tree → Type 0
  Fits null = ⊤
  Fits (capability index) = index < 2 ^ 32
  Fits (struct data_words ts) = FitsAll ts
  Fits (list elements) = FitsList elements

  pub FitsAll : Trees → Type 0
  FitsAll no_trees = ⊤
  FitsAll (tree t ts) = Fits t × FitsAll ts

  pub FitsList : Elements → Type 0
  FitsList (packed bits xs) = ((w : Width) × (bits ≡ bits_of w)) × AreOf bits xs
  FitsList (pointers ts) = FitsAll ts
  FitsList (structs data_words pointer_words ss) = ((data_words < 2 ^ 16) × (pointer_words < 2 ^ 16)) × FitsStructs ss

  pub FitsStructs : Structs → Type 0
  FitsStructs no_structs = ⊤
  FitsStructs (struct_of data_words ts ss) = FitsAll ts × FitsStructs ss
