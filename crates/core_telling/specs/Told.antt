-- What is told of a step, and written of it.
use Rattle.std.specs.Prelude.{◌≡◌, ◌⊎◌, ℕ, Bool, true, false, Result, Ok, Err, List, [], ◌++◌}
use Rattle.rpc_msg.specs.Memory.{Memory}
use Rattle.rpc_msg.specs.declared.ids.Vat.{Vat}
use Rattle.rpc_journal.specs.declared.entry.JournalEntry.{JournalEntry}
use Rattle.rpc_machine.specs.declared.command.Command.{Command}
use Rattle.rpc_machine.specs.declared.command.Granted.{Granted}
use Rattle.rpc_machine.specs.declared.command.Refusal.{Refusal}
use Rattle.rpc_machine.specs.declared.command.Effects.{Effects}
use Rattle.rpc_machine.specs.Down.{falling, silent}
use Rattle.vat_core.specs.declared.commands.Answer.{Answer}
use Rattle.vat_core.specs.declared.commands.Answer.TheVariants.{Done, Refused}
use Rattle.core_telling.specs.declared.notes.Note.{Note}
use Rattle.core_telling.specs.Notes.{note_entries}

-- What is answered of the effects: all but the messages, which are on their way.
abbrev pub without_sends : Effects → Effects
without_sends e = record e { sends = [] }

-- What is answered of a command. One that is refused is handed back.
abbrev pub given_of : Command → Result Granted Refusal → Effects → Answer
given_of c (Ok g) told = Done g (without_sends told)
given_of c (Err r) told = Refused r c

-- The effects of a step that took the vat down with that number.
abbrev pub IsFall : Effects → ℕ → Type 0
IsFall e n = (e ≡ falling n) ⊎ (e ≡ silent n)

-- What is behind the entries that stood there.
abbrev pub Extends : List JournalEntry → List JournalEntry → Type 0
Extends xs ys = (more : List JournalEntry) × (ys ≡ xs ++ more)

-- The entries that a note gives, where there is one.
abbrev pub noted_entries : Vat → Result Note Memory → Granted → List JournalEntry
noted_entries v (Ok note) answer = note_entries v note answer
noted_entries v (Err m) answer = []

-- There was room, so there is a note.
abbrev pub HadNote : Bool → Result Note Memory → Type 0
HadNote true (Ok note) = Unit {0}
HadNote true (Err m) = ⊥
HadNote false note = Unit {0}
