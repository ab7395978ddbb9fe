-- The kinds that are noted while the descriptors of a message are heard one after the other.
use Rattle.std.specs.Prelude.{◌≡◌, List, None}
use Rattle.std.specs.FinMap as map
use Rattle.finite_maps.specs.Tally.{Map}
use Rattle.rpc_msg.specs.declared.ids.ExportId.{ExportId}
use Rattle.rpc_msg.specs.declared.parts.Descriptor.{Descriptor}
use Rattle.rpc_machine.specs.declared.entries.SenderKind.{SenderKind}
use Rattle.peer_kinds.specs.Kinds.{Standings, first_kind}

-- Of exports that the vat does not have, the kind of the first name among these.
abbrev pub Follows : Standings → Map SenderKind → List Descriptor → Type 0
Follows stands noted ds = (e : ExportId) → stands e ≡ None → map.get noted e.0 ≡ first_kind e ds
