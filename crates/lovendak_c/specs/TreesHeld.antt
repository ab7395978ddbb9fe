-- What a handle of trees owns.
use base.Fml.{Fml, ftrue}
use denote.RawPtr.{Ptr}
use Rattle.std.specs.Box.Ownership.{box_owns}
use Rattle.std.specs.Prelude.{Bool, true, false}
use Rattle.std.specs.declared.option.Option.{Option}
use Rattle.std.specs.declared.option.Option.TheVariants.{None, Some}
use Rattle.lovendak_c_trees.specs.contracts.trees.Trees.{the_row}
use Rattle.lovendak_c.specs.Held.{token}

-- nothing, or the boxed trees at p
abbrev pub held : Ptr → Option the_row.Denot → Fml
held p None = ftrue
held p (Some x) = box_owns token the_row p x

-- whether there are trees
abbrev pub are_there : Option the_row.Denot → Bool
are_there None = false
are_there (Some x) = true
