-- How an import of a vat stands.
use Rattle.std.specs.Prelude.{Bool, true, false, is_some, Option, Some, None}
use Rattle.std.specs.FinMap as map
use Rattle.rpc_machine.specs.declared.entries.Import.{Import}
use Rattle.rpc_machine.specs.declared.entries.SenderKind.{SenderKind}
use Rattle.rpc_machine.specs.declared.entries.SenderKind.TheVariants as kind
use Rattle.rpc_machine.specs.State.{State}
use Rattle.peer_kinds.specs.declared.standing.Standing.{Standing}
use Rattle.peer_kinds.specs.declared.standing.Standing.TheVariants as standing
use Rattle.peer_kinds.specs.Kinds.{Standings}

abbrev pub stands_as : SenderKind → Bool → Standing
stands_as kind.Hosted false = standing.Hosted
stands_as kind.Promise false = standing.Promise
stands_as kind.Hosted true = standing.Resolved
stands_as kind.Promise true = standing.Resolved

abbrev pub standing_of : Option Import → Option Standing
standing_of None = None
standing_of (Some x) = Some (stands_as x.kind (is_some x.resolution))

-- The imports of a vat in that state.
abbrev pub standings_in : State → Standings
standings_in s = λ e. standing_of (map.get s.imports e.0)
