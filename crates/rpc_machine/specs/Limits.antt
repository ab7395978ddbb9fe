-- The limits of a vat (docs/protocol.md, "Limits").
use Rattle.std.specs.Prelude.{ℕ, ◌+◌, ◌<◌, ◌≤◌, ◌^◌, Option, None, Some, length}
use Rattle.std.specs.FinMap as map
use Rattle.finite_maps.specs.Tally.{tally}
use Rattle.rpc_machine.specs.declared.calls.Promise.{Promise}
use Rattle.rpc_machine.specs.declared.calls.Promise.TheVariants as promise
use Rattle.rpc_machine.specs.declared.calls.KeptOutcome.{KeptOutcome}
use Rattle.rpc_machine.specs.declared.entries.Embargo.{Embargo}
use Rattle.rpc_machine.specs.declared.entries.Import.{Import}
use Rattle.rpc_machine.specs.declared.entries.Export.{Export}
use Rattle.rpc_machine.specs.declared.entries.Reference.{Reference}
use Rattle.rpc_machine.specs.State.{State}

-- Entries in each of the four tables, and embargoes.
abbrev pub table_limit : ℕ
table_limit = 4096

-- Held and embargoed calls in a vat.
abbrev pub held_limit : ℕ
held_limit = 65536

-- Counts of exports and imports stay below this.
abbrev pub count_limit : ℕ
count_limit = 2 ^ 32

-- Numbers stay below this: the next ones, and of calls made through a reference.
abbrev pub number_limit : ℕ
number_limit = 2 ^ 64

abbrev pub held_for_promise : Promise → ℕ
held_for_promise (promise.Open calls) = length calls
held_for_promise (promise.Fixed to) = 0

abbrev pub held_for_outcome : KeptOutcome → ℕ
held_for_outcome x = length x.waiting

abbrev pub held_under : Embargo → ℕ
held_under x = length x.waiting

-- How many calls are held and embargoed.
abbrev pub held : State → ℕ
held s = tally held_for_promise s.promises + tally held_for_outcome s.outcomes + tally held_under s.embargoes

-- An entry that is not there counts nothing.
abbrev pub import_count : Option Import → ℕ
import_count None = 0
import_count (Some x) = x.count

abbrev pub export_count : Option Export → ℕ
export_count None = 0
export_count (Some x) = x.count

abbrev pub made_through : Option Reference → ℕ
made_through None = 0
made_through (Some x) = x.made

-- No limit is passed.
pub record IsWithin (s : State) : Type 0 where
  pub questions : map.len s.questions ≤ table_limit
  pub answers : map.len s.answers ≤ table_limit
  pub imports : map.len s.imports ≤ table_limit
  pub exports : map.len s.exports ≤ table_limit
  pub embargoes : map.len s.embargoes ≤ table_limit
  pub held : held s ≤ held_limit
  pub import_counts : (e : ℕ) → import_count (map.get s.imports e) < count_limit
  pub export_counts : (e : ℕ) → export_count (map.get s.exports e) < count_limit
  pub refs : s.next_ref < number_limit
  pub calls : s.next_call < number_limit
  pub tasks : s.next_task < number_limit
  pub promises : s.next_promise < number_limit
  pub made : (r : ℕ) → made_through (map.get s.refs r) < number_limit
