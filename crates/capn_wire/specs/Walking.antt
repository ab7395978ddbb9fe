-- The walk of a path on a tree: `PromisedAnswer.Op` of rpc.capnp.
use Rattle.std.specs.Prelude.{List, [], ◌∷◌, Option, Some, None}
use Rattle.std.specs.Option.{option_and_then}
use Rattle.capn_wire.specs.declared.path.Op.{Op}
use Rattle.capn_wire.specs.declared.path.Op.TheVariants as op
use Rattle.capn_wire.specs.declared.path.CapAt.{CapAt}
use Rattle.capn_wire.specs.declared.path.CapAt.TheVariants as cap_at
use Rattle.capn_trees.specs.Trees.{Tree, null, struct, list, capability}
pub use Rattle.capn_reading.specs.Looking.{field}

abbrev pub walk : Tree → List Op → Option Tree
walk t [] = Some t
walk t (op.Noop ∷ ops) = walk t ops
walk t (op.Field n ∷ ops) = option_and_then (λ u. walk u ops) (field t n)

abbrev pub found_at : Option Tree → CapAt
found_at (Some null) = cap_at.Null
found_at (Some (capability index)) = cap_at.Cap index
found_at (Some (struct data_words pointers)) = cap_at.NotCap
found_at (Some (list elements)) = cap_at.NotCap
found_at None = cap_at.NotCap

abbrev pub capability_at : Tree → List Op → CapAt
capability_at t path = found_at (walk t path)
