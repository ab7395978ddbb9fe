-- What can be asked of a core without a step (docs/protocol.md, "Questions to a core").
use Rattle.std.specs.Prelude.{ℕ, ◌==◌, Bool, ◌&&◌, is_none, List, [], ◌∷◌, ◌++◌}
use Rattle.std.specs.List.{list_any}
use Rattle.std.specs.FinMap as map
use Rattle.rpc_journal.specs.rpc_msg.specs.declared.ids.ExportId.{ExportId}
use Rattle.rpc_journal.specs.rpc_msg.specs.declared.ids.Stamp.{Stamp}
use Rattle.rpc_journal.specs.declared.entry.Counts.{Counts}
use Rattle.rpc_journal.specs.History.{Ref, same_ref, caller}
use Rattle.rpc_machine.specs.declared.calls.WaitingCall.{WaitingCall}
use Rattle.rpc_machine.specs.declared.calls.HeldCall.{HeldCall}
use Rattle.rpc_machine.specs.declared.calls.Promise.{Promise}
use Rattle.rpc_machine.specs.declared.calls.Promise.TheVariants as promise
use Rattle.rpc_machine.specs.declared.calls.KeptOutcome.{KeptOutcome}
use Rattle.rpc_machine.specs.declared.entries.Embargo.{Embargo}
use Rattle.rpc_machine.specs.declared.entries.Import.{Import}
use Rattle.rpc_machine.specs.declared.entries.Export.{Export}
use Rattle.rpc_machine.specs.Lists.{of_map}
use Rattle.rpc_machine.specs.State.{State}

-- ---- Calls that wait

abbrev pub stamps_of_calls : List WaitingCall → List Stamp
stamps_of_calls [] = []
stamps_of_calls (c ∷ cs) = c.request.stamp ∷ stamps_of_calls cs

abbrev pub stamps_of_held : List HeldCall → List Stamp
stamps_of_held [] = []
stamps_of_held (h ∷ hs) = h.call.request.stamp ∷ stamps_of_held hs

abbrev pub stamps_at_promise : ℕ → Promise → List Stamp
stamps_at_promise p (promise.Open calls) = stamps_of_calls calls
stamps_at_promise p (promise.Fixed to) = []

abbrev pub stamps_at_outcome : ℕ → KeptOutcome → List Stamp
stamps_at_outcome o x = stamps_of_held x.waiting

abbrev pub stamps_under : ℕ → Embargo → List Stamp
stamps_under e x = stamps_of_calls x.waiting

-- The stamps of the calls that are held or embargoed.
abbrev pub waiting : State → List Stamp
waiting s = of_map stamps_at_promise s.promises ++ of_map stamps_at_outcome s.outcomes ++ of_map stamps_under s.embargoes

abbrev pub is_through : Ref → Stamp → Bool
is_through r s = same_ref r (caller s)

-- A call of that reference is held or embargoed here.
abbrev pub holds : State → Ref → Bool
holds s r = list_any (is_through r) (waiting s)

-- ---- Counts

abbrev pub import_counts : ℕ → Import → List (ExportId × ℕ)
import_counts e x = (record { 0 = e }, x.count) ∷ []

abbrev pub export_counts : ℕ → Export → List (ExportId × ℕ)
export_counts e x = (record { 0 = e }, x.count) ∷ []

-- The counts of its exports and imports, by rising id.
abbrev pub counts_of : State → Counts
counts_of s = record { exports = of_map export_counts s.exports; imports = of_map import_counts s.imports }

-- ---- New

abbrev pub has_no_numbers : State → Bool
has_no_numbers s = (s.next_ref == 0) && (s.next_call == 0) && (s.next_task == 0) && (s.next_promise == 0)

abbrev pub has_no_tables : State → Bool
has_no_tables s = (map.len s.questions == 0) && (map.len s.answers == 0) && (map.len s.imports == 0) && (map.len s.exports == 0)

abbrev pub has_nothing_else : State → Bool
has_nothing_else s =
    (map.len s.refs == 0) && (map.len s.calls == 0) && (map.len s.tasks == 0) && (map.len s.unsettled == 0)
    && (map.len s.promises == 0) && (map.len s.outcomes == 0) && (map.len s.embargoes == 0)

-- The state is that of a new core.
abbrev pub is_new : State → Bool
is_new s = has_no_numbers s && has_no_tables s && has_nothing_else s && is_none s.down
