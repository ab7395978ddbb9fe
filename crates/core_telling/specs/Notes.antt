-- What a command writes of itself, as it is noted before its step.
use Rattle.std.specs.Prelude.{ℕ, ◌≤◌, Option, None, Some, List, [], ◌∷◌, length}
use Rattle.std.specs.FinMap as map
use Rattle.rpc_msg.specs.declared.ids.Vat.{Vat}
use Rattle.rpc_msg.specs.declared.ids.RefId.{RefId}
use Rattle.rpc_msg.specs.declared.ids.TaskId.{TaskId}
use Rattle.rpc_journal.specs.declared.report.Outcome.{Outcome}
use Rattle.rpc_journal.specs.declared.report.Outcome.TheVariants as outcome
use Rattle.rpc_journal.specs.declared.entry.Origin.{Origin}
use Rattle.rpc_journal.specs.declared.entry.Origin.TheVariants as origin
use Rattle.rpc_journal.specs.declared.entry.MadeCall.{MadeCall}
use Rattle.rpc_journal.specs.declared.entry.JournalEntry.{JournalEntry}
use Rattle.rpc_journal.specs.declared.entry.JournalEntry.TheVariants as entry
use Rattle.rpc_machine.specs.declared.command.CallCommand.{CallCommand}
use Rattle.rpc_machine.specs.declared.command.Command.{Command}
use Rattle.rpc_machine.specs.declared.command.Command.TheVariants as command
use Rattle.rpc_machine.specs.declared.command.Granted.{Granted}
use Rattle.rpc_machine.specs.declared.command.Granted.TheVariants as granted
use Rattle.rpc_machine.specs.State.{State}
use Rattle.rpc_machine.specs.Journal.{born, born_promise, asked_entries, advanced_entries, granted_entries}
use Rattle.vat_core.specs.Counting.{made_of as count_of}
use Rattle.core_telling.specs.declared.notes.Note.{Note}
use Rattle.core_telling.specs.declared.notes.Note.TheVariants as note

abbrev pub or_zero : Option ℕ → ℕ
or_zero None = 0
or_zero (Some n) = n

-- How many calls the vat counts through the reference of a call.
abbrev pub index_of : State → Command → ℕ
index_of s (command.Call c) = or_zero (count_of (map.get s.refs c.reference.0))
index_of s c = 0

-- A made call whose number is still to be filled in.
abbrev pub made_of : ℕ → CallCommand → MadeCall
made_of index c = record {
  reference = c.reference;
  index = index;
  call = record { 0 = 0 };
  interface = c.interface;
  method = c.method;
  payload = c.payload;
  refs = c.refs;
}

abbrev pub made_entries : Vat → MadeCall → Granted → List JournalEntry
made_entries v m (granted.Call id) = entry.Made v (record m { call = id }) ∷ []
made_entries v m answer = []

-- What a note writes with this answer.
abbrev pub note_entries : Vat → Note → Granted → List JournalEntry
note_entries v (note.Born o) answer = born v o answer
note_entries v note.Promise answer = born_promise v answer
note_entries v note.Asked answer = asked_entries v answer
note_entries v (note.Made m) answer = made_entries v m answer
note_entries v (note.Advanced r) answer = advanced_entries v r answer
note_entries v (note.Resolved p r) answer = entry.Resolved v p r ∷ []
note_entries v (note.Rejected p e) answer = entry.Rejected v p e ∷ []
note_entries v (note.Answered t o rs) answer = entry.Answered v t o rs ∷ []
note_entries v (note.Dropped r) answer = entry.Dropped v r ∷ []
note_entries v (note.Finished c) answer = entry.Finished v c ∷ []
note_entries v note.Nothing answer = []

-- What a command writes, a call with that index.
abbrev pub granted_by : ℕ → Vat → Command → Granted → List JournalEntry
granted_by index v (command.Call c) answer = made_entries v (made_of index c) answer
granted_by index v c answer = granted_entries [] v c answer

-- A path that is not too long.
abbrev pub IsShort : Command → Type 0
IsShort (command.Field c path) = length path ≤ 16
IsShort c = Unit {0}

-- The call of which it was noted.
abbrev pub call_in : MadeCall → CallCommand
call_in m = record { reference = m.reference; interface = m.interface; method = m.method; payload = m.payload; refs = m.refs }

-- The commands of which a note has all, with what they hand over.
abbrev pub IsWholeInNote : Command → Type 0
IsWholeInNote (command.Field c path) = ⊥
IsWholeInNote (command.Shut n) = ⊥
IsWholeInNote c = Unit {0}

abbrev pub back_in_born : Origin → Option Command
back_in_born (origin.Object o) = Some (command.Host o)
back_in_born (origin.Clone r) = Some (command.CloneRef r)
back_in_born (origin.Promise p) = None
back_in_born (origin.Field c path) = None

abbrev pub back_in_answered : TaskId → Outcome → List RefId → Command
back_in_answered t (outcome.Results payload) rs = command.Answer t payload rs
back_in_answered t (outcome.Exception e) rs = command.Fail t e

-- The command of which the note was made.
abbrev pub back_in : Note → Option Command
back_in (note.Born o) = back_in_born o
back_in note.Promise = Some command.Promise
back_in note.Asked = Some command.Bootstrap
back_in (note.Made m) = Some (command.Call (call_in m))
back_in (note.Advanced r) = Some (command.Advance r)
back_in (note.Resolved p r) = Some (command.Resolve p r)
back_in (note.Rejected p e) = Some (command.Reject p e)
back_in (note.Answered t o rs) = Some (back_in_answered t o rs)
back_in (note.Dropped r) = Some (command.DropRef r)
back_in (note.Finished c) = Some (command.Finish c)
back_in note.Nothing = None
