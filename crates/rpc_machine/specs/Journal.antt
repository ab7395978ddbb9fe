-- The journal of two vats: a function of what happened (docs/protocol.md, "Two vats"; docs/trace.md).
use Rattle.std.specs.Prelude.{ℕ, Bool, cond, Option, None, Some, Result, Ok, Err, List, [], ◌∷◌, ◌++◌, map, length}
use Rattle.rpc_journal.specs.rpc_msg.specs.declared.ids.Vat.{Vat}
use Rattle.rpc_journal.specs.rpc_msg.specs.declared.ids.RefId.{RefId}
use Rattle.rpc_journal.specs.declared.report.Outcome.TheVariants as outcome
use Rattle.rpc_journal.specs.declared.entry.Origin.{Origin}
use Rattle.rpc_journal.specs.declared.entry.Origin.TheVariants as origin
use Rattle.rpc_journal.specs.declared.entry.JournalEntry.{JournalEntry}
use Rattle.rpc_journal.specs.declared.entry.JournalEntry.TheVariants as entry
use Rattle.rpc_journal.specs.History.{made}
use Rattle.rpc_machine.specs.declared.command.CallCommand.{CallCommand}
use Rattle.rpc_machine.specs.declared.command.Command.{Command}
use Rattle.rpc_machine.specs.declared.command.Command.TheVariants as command
use Rattle.rpc_machine.specs.declared.command.Granted.{Granted}
use Rattle.rpc_machine.specs.declared.command.Granted.TheVariants as granted
use Rattle.rpc_machine.specs.declared.command.Refusal.{Refusal}
use Rattle.rpc_machine.specs.declared.command.Refusal.TheVariants as refusal
use Rattle.rpc_machine.specs.declared.command.Effects.{Effects}
use Rattle.rpc_machine.specs.declared.event.Event.{Event}
use Rattle.rpc_machine.specs.declared.event.Event.TheVariants as event
use Rattle.rpc_machine.specs.World.{World, StepAnswer, Answered, Handled, Empty, Happening}

-- ---- What effects write

abbrev pub went_down : Vat → Option ℕ → List JournalEntry
went_down v None = []
went_down v (Some n) = entry.Down v n ∷ []

-- What was sent, then the deliveries, then the calls that ended, and down last.
abbrev pub effect_entries : Vat → Effects → List JournalEntry
effect_entries v e = map (entry.Sent v) e.sends ++ map (entry.Delivered v) e.deliveries ++ map (entry.Ended v) e.answers ++ went_down v e.down

-- ---- What a command writes of itself

abbrev pub refusal_number : Refusal → ℕ
refusal_number refusal.Memory = 1
refusal_number refusal.Full = 2
refusal_number refusal.Down = 3
refusal_number refusal.UnknownRef = 4
refusal_number refusal.UnknownCall = 5
refusal_number refusal.UnknownTask = 6
refusal_number refusal.UnknownPromise = 7
refusal_number refusal.Cycle = 8
refusal_number refusal.CapCount = 9
refusal_number refusal.LongPath = 10
refusal_number refusal.Level = 11

-- A vat that is down writes nothing.
abbrev pub refused_entries : Vat → Refusal → List JournalEntry
refused_entries v refusal.Down = []
refused_entries v r = entry.Refused v (refusal_number r) ∷ []

abbrev pub born : Vat → Origin → Granted → List JournalEntry
born v o (granted.Reference r) = entry.Born v r o ∷ []
born v o answer = []

abbrev pub born_promise : Vat → Granted → List JournalEntry
born_promise v (granted.Promise p r) = entry.Born v r (origin.Promise p) ∷ []
born_promise v answer = []

abbrev pub asked_entries : Vat → Granted → List JournalEntry
asked_entries v (granted.Call c) = entry.Asked v c ∷ []
asked_entries v answer = []

-- How many calls were made through the reference before.
abbrev pub index_in : List JournalEntry → Vat → RefId → ℕ
index_in before v r = length (made before (record { vat = v; number = r.0 }))

abbrev pub made_entries : List JournalEntry → Vat → CallCommand → Granted → List JournalEntry
made_entries before v c (granted.Call id) =
    entry.Made v (record {
      reference = c.reference;
      index = index_in before v c.reference;
      call = id;
      interface = c.interface;
      method = c.method;
      payload = c.payload;
      refs = c.refs;
    })
    ∷ []
made_entries before v c answer = []

abbrev pub advanced_entries : Vat → RefId → Granted → List JournalEntry
advanced_entries v r (granted.Advanced a) = entry.Advanced v r a ∷ []
advanced_entries v r answer = []

-- Of a command that was not refused. A shut writes nothing of itself.
abbrev pub granted_entries : List JournalEntry → Vat → Command → Granted → List JournalEntry
granted_entries before v (command.Host o) answer = born v (origin.Object o) answer
granted_entries before v (command.CloneRef r) answer = born v (origin.Clone r) answer
granted_entries before v (command.DropRef r) answer = entry.Dropped v r ∷ []
granted_entries before v command.Bootstrap answer = asked_entries v answer
granted_entries before v (command.Call c) answer = made_entries before v c answer
granted_entries before v (command.Field c path) answer = born v (origin.Field c path) answer
granted_entries before v command.Promise answer = born_promise v answer
granted_entries before v (command.Resolve p r) answer = entry.Resolved v p r ∷ []
granted_entries before v (command.Reject p exception) answer = entry.Rejected v p exception ∷ []
granted_entries before v (command.Answer t payload refs) answer = entry.Answered v t (outcome.Results payload) refs ∷ []
granted_entries before v (command.Fail t exception) answer = entry.Answered v t (outcome.Exception exception) [] ∷ []
granted_entries before v (command.Finish c) answer = entry.Finished v c ∷ []
granted_entries before v (command.Advance r) answer = advanced_entries v r answer
granted_entries before v (command.Shut n) answer = []

abbrev pub own_entries : List JournalEntry → Vat → Command → Result Granted Refusal → List JournalEntry
own_entries before v c (Ok answer) = granted_entries before v c answer
own_entries before v c (Err r) = refused_entries v r

-- ---- What an event writes

-- A command's own entry, and what its effects say. Where there was no room, the effects alone.
abbrev pub command_entries : List JournalEntry → Vat → Command → Bool → StepAnswer → List JournalEntry
command_entries before v c room (Answered answer told) = cond room (own_entries before v c answer) [] ++ effect_entries v told
command_entries before v c room (Handled told) = []
command_entries before v c room Empty = []

abbrev pub deliver_entries : Vat → StepAnswer → List JournalEntry
deliver_entries v (Answered answer told) = []
deliver_entries v (Handled told) = entry.Got v ∷ effect_entries v told
deliver_entries v Empty = []

abbrev pub event_entries : List JournalEntry → Event → Bool → StepAnswer → List JournalEntry
event_entries before (event.Command v c) room answer = command_entries before v c room answer
event_entries before (event.Deliver v) room answer = deliver_entries v answer

-- The entries of what happened, behind these.
abbrev pub journal_from : List JournalEntry → List Happening → List JournalEntry
journal_from before [] = before
journal_from before (x ∷ xs) = journal_from (before ++ event_entries before x.event x.had_room x.answer) xs

abbrev pub journal : List Happening → List JournalEntry
journal xs = journal_from [] xs

-- A world with its journal.
pub record Journaled : Type 0 where
  pub world : World
  pub journal : List JournalEntry
