-- The checks of a message's descriptors and of its flag, before any descriptor is taken.
use Rattle.std.specs.Prelude.{◌≡◌, ℕ, Bool, false, not, ◌||◌, Option, None, Some, is_some, List}
use Rattle.std.specs.BTreeMap.{get}
use Rattle.std.specs.Ordering.{nat_cmp}
use Rattle.std.specs.FinMap as map
use Rattle.rpc_msg.specs.declared.ids.ExportId.{ExportId}
use Rattle.rpc_msg.specs.declared.parts.Descriptor.{Descriptor}
use Rattle.rpc_msg.specs.declared.parts.Descriptor.TheVariants as descriptor
use Rattle.rpc_machine.specs.declared.fault.Fault.{Fault}
use Rattle.rpc_machine.specs.declared.entries.SenderKind.{SenderKind}
use Rattle.rpc_machine.specs.declared.entries.SenderKind.TheVariants as kind
use Rattle.rpc_machine.specs.declared.entries.Import.{Import}
use Rattle.rpc_machine.specs.State.{State}
use Rattle.rpc_machine.specs.Numbers.{fault_number}
use Rattle.rpc_machine.specs.Faults.{same_kind, kind_clashes}
use Rattle.finite_maps.specs.Tally.{Map}
use Rattle.rpc_machine.specs.declared.entries.Export.{Export}
use Rattle.rpc_machine.specs.Limits.{export_count}
use Rattle.core_step_messages.specs.declared.kinds.Kinds.{Kinds}
use Rattle.core_step_messages.specs.declared.remainders.Remaining.{Remaining}

-- As what an export was given.
abbrev pub kind_of : Kinds → ℕ → Option SenderKind
kind_of x e = get nat_cmp x.by_id e

abbrev pub clash_before : SenderKind → Option SenderKind → Bool
clash_before k None = false
clash_before k (Some j) = not (same_kind k j)

-- Whether an export of which there is that import, and which was given as that before, may not be given as that kind.
abbrev pub clash_with : SenderKind → Option Import → Option SenderKind → Bool
clash_with k None before = clash_before k before
clash_with k (Some x) before = not (same_kind k x.kind) || is_some x.resolution

-- What is known of these descriptors says which kinds clash behind them.
abbrev pub Knows : State → List Descriptor → Kinds → Type 0
Knows s before x = (k : SenderKind) (e : ℕ) → kind_clashes k e before (map.get s.imports e) ≡ clash_with k (map.get s.imports e) (kind_of x e)

abbrev pub number_of : Option Fault → Option ℕ
number_of None = None
number_of (Some f) = Some (fault_number f)

-- The descriptor that gives an export as that kind.
abbrev pub given_as : SenderKind → ExportId → Descriptor
given_as kind.Hosted e = descriptor.SenderHosted e
given_as kind.Promise e = descriptor.SenderPromise e

-- It gives no export.
abbrev pub IsOther : Descriptor → Type 0
IsOther descriptor.None = Unit {0}
IsOther (descriptor.SenderHosted e) = ⊥
IsOther (descriptor.SenderPromise e) = ⊥
IsOther (descriptor.ReceiverHosted e) = Unit {0}
IsOther (descriptor.ReceiverAnswer q path) = Unit {0}

-- ---- The flag

abbrev pub left_with : Option Export → Option ℕ → ℕ
left_with x None = export_count x
left_with x (Some n) = n

-- What was kept of an export's count, where some were given back.
abbrev pub kept_of : Remaining → ℕ → Option ℕ
kept_of x e = get nat_cmp x.by_id e

-- What is left of it.
abbrev pub left_of : State → Remaining → ℕ → ℕ
left_of s x e = left_with (map.get s.exports e) (kept_of x e)

-- It is left in these exports, of which some were given back.
abbrev pub Remains : State → Map Export → Remaining → Type 0
Remains s m x = (e : ℕ) → export_count (map.get m e) ≡ left_of s x e
