-- The steps of an end: those of its core, with what it writes of them.
use Rattle.std.specs.Prelude.{◌≡◌, List, ◌++◌, length}
use Rattle.rpc_msg.specs.declared.ids.Vat.{Vat}
use Rattle.rpc_msg.specs.declared.message.Message.{Message}
use Rattle.rpc_journal.specs.declared.entry.JournalEntry.{JournalEntry}
use Rattle.rpc_machine.specs.declared.command.Command.{Command}
use Rattle.rpc_machine.specs.State.{State}
use Rattle.rpc_machine.specs.World.{Happening}
use Rattle.rpc_machine.specs.Journal.{event_entries}
use Rattle.laws_merge.specs.Machine.{Input}
use Rattle.laws_runs.specs.MadeCalls.{NumbersItsCalls}
use Rattle.laws_runs.specs.Sides.{TakesStep, event_by}
use Rattle.link_logs.specs.declared.note.Told.{Told}
use Rattle.link_logs.specs.declared.note.Note.{Note}
use Rattle.link_logs.specs.Notes.{input_by, sends_by, answer_by, room_by, noted}

-- The core of a vat, and the entries that its end wrote.
pub record Held : Type 0 where
  pub core : State
  pub journal : List JournalEntry

abbrev pub input_of : Note → Input Command Message
input_of n = input_by n.told

abbrev pub sends_of : Note → List Message
sends_of n = sends_by n.told

-- What happened at the vat v.
abbrev pub happening : Vat → Told → Happening
happening v t = record { event = event_by v (input_by t) (noted t); answer = answer_by t; had_room = room_by t }

-- The entries that it writes behind these.
abbrev pub entries_behind : List JournalEntry → Vat → Told → List JournalEntry
entries_behind h v t = event_entries h (happening v t).event (happening v t).had_room (happening v t).answer

-- The core takes the step that was noted. The end writes so many entries: those that the step writes behind any journal
-- that says how many calls were made as the core counts them.
pub record StepsSo (old : Held) (n : Note) (new : Held) : Type 0 where
  pub takes : TakesStep old.core (input_of n) (noted n.told) (sends_of n) new.core
  pub wrote : List JournalEntry
  pub journal : new.journal ≡ old.journal ++ wrote
  pub counted : n.entries ≡ length wrote
  pub wrote_is : (h : List JournalEntry) → NumbersItsCalls old.core.vat old.core h → wrote ≡ entries_behind h old.core.vat n.told
