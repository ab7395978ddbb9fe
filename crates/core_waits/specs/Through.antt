-- The calls of a reference among those that wait.
use Rattle.std.specs.Prelude.{Bool, List, ◌++◌}
use Rattle.std.specs.List.{list_any}
use Rattle.rpc_msg.specs.declared.ids.Vat.{Vat}
use Rattle.rpc_msg.specs.declared.ids.RefId.{RefId}
use Rattle.rpc_msg.specs.declared.ids.Stamp.{Stamp}
use Rattle.rpc_machine.specs.declared.calls.HeldCall.{HeldCall}
use Rattle.rpc_machine.specs.Lists.{of_map}
use Rattle.rpc_machine.specs.Queries.{stamps_of_held, stamps_at_promise, stamps_at_outcome, stamps_under, is_through}
use Rattle.core_waits.specs.Waiting.{Waiting}

-- The call was made through that reference of that vat.
abbrev pub is_by : Vat → RefId → Stamp → Bool
is_by vat reference = is_through (record { vat = vat; number = reference.0 })

-- So was one of these calls.
abbrev pub is_among : Vat → RefId → List HeldCall → Bool
is_among vat reference calls = list_any (is_by vat reference) (stamps_of_held calls)

-- The stamps of all calls that wait, without those that were taken out.
abbrev pub stamps_waiting : Waiting → List Stamp
stamps_waiting w = of_map stamps_at_promise w.promises ++ of_map stamps_at_outcome w.outcomes ++ of_map stamps_under w.embargoes
