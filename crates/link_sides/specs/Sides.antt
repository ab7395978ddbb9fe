-- A real vat as a side of a pair on threads (docs/threads.md).
use Rattle.std.specs.Prelude.{◌≡◌, ℕ, true, false, Option, None, Some, Result}
use Rattle.rpc_msg.specs.declared.ids.Vat.{Vat}
use Rattle.rpc_machine.specs.declared.command.Command.{Command}
use Rattle.rpc_machine.specs.declared.command.Command.TheVariants as command
use Rattle.rpc_machine.specs.declared.command.Granted.{Granted}
use Rattle.rpc_machine.specs.declared.command.Granted.TheVariants as granted
use Rattle.rpc_machine.specs.declared.command.Refusal.{Refusal}
use Rattle.rpc_machine.specs.State.{State}
use Rattle.rpc_machine.specs.declared.command.Refusal.TheVariants as refusal
use Rattle.rpc_machine.specs.declared.command.Effects.{Effects}
use Rattle.rpc_machine.specs.Progress.{quiet}
use Rattle.rpc_machine.specs.Refusals.{is_shut}
use Rattle.core_telling.specs.Answer.{Answer}
use Rattle.core_telling.specs.Answer.TheVariants.{Done, Refused}
use Rattle.core_telling.specs.Told.{given_of, without_sends}
use Rattle.core_telling.specs.Notes.{index_of, note_entries, granted_by, back_in, IsShort, IsWholeInNote}
use Rattle.core_telling.specs.declared.notes.Note as own
use Rattle.link_logs.specs.declared.note.Told.{Told}
use Rattle.link_logs.specs.declared.note.Told.TheVariants as told
use Rattle.link_logs.specs.declared.note.Note.{Note}
use Rattle.link_logs.specs.Notes.{effects_by}
use Rattle.link_logs.specs.Steps.{Held}

abbrev pub down_by : Held → Option ℕ
down_by h = (h.core).down

-- What only makes a reference or a promise says nothing.
abbrev pub IsQuiet : Command → Effects → Type 0
IsQuiet (command.Host o) effects = effects ≡ quiet
IsQuiet (command.CloneRef r) effects = effects ≡ quiet
IsQuiet (command.Field c path) effects = effects ≡ quiet
IsQuiet command.Promise effects = effects ≡ quiet
IsQuiet c effects = Unit {0}

-- What is answered to a command: what its core answers, with the effects but for the messages, which are in the frames; there
-- was room for all of it. Where the end was shut in its place, with 33, that it is down, with the command, which is no shut.
abbrev pub AnswersBy : Command → Told → Answer → Type 0
AnswersBy c (told.Obeyed d a e room) given = (room ≡ true) × IsQuiet c e.value × (given ≡ given_of c a.value e.value)
AnswersBy c (told.Shut e) given = (is_shut c ≡ false) × (given ≡ Refused refusal.Down c) × ((e.value).down ≡ Some 33)
AnswersBy c (told.Received m e room) given = ⊥

abbrev pub AnswersSo : Command → Note → Answer → Type 0
AnswersSo c n given = AnswersBy c n.told given

-- It tells of a shut with that number.
abbrev pub IsShutBy : ℕ → Told → Type 0
IsShutBy n (told.Obeyed d a e room) = ⊥
IsShutBy n (told.Shut e) = (e.value).down ≡ Some n
IsShutBy n (told.Received m e room) = ⊥

-- What a vat that is down answers.
abbrev pub when_down : Command → Answer
when_down (command.Shut n) = Done granted.Done quiet
when_down c = Refused refusal.Down c

-- What is told of a message that it received.
abbrev pub TellsSo : Note → Effects → Type 0
TellsSo n given = given ≡ without_sends (effects_by n.told)

-- The note of a step that obeyed this command, with that answer and these effects, and room for them.
abbrev pub IsToldBy : Command → Result Granted Refusal → Effects → Told → Type 0
IsToldBy c answer effects (told.Obeyed d a e room) = (d.value ≡ c) × (a.value ≡ answer) × (e.value ≡ effects) × (room ≡ true)
IsToldBy c answer effects (told.Shut e) = ⊥
IsToldBy c answer effects (told.Received m e room) = ⊥

abbrev pub IsTold : Command → Result Granted Refusal → Effects → Note → Type 0
IsTold c answer effects n = IsToldBy c answer effects n.told

-- The command was noted so, to a core in this state.
abbrev pub IsOwn : State → Command → own.Note → Type 0
IsOwn s c note = (v : Vat) → IsShort c → (answer : Granted) → note_entries v note answer ≡ granted_by (index_of s c) v c answer

-- A copy of the command, or none where its note has all of it.
abbrev pub IsSpare : Option Command → Command → Type 0
IsSpare None c = IsWholeInNote c
IsSpare (Some d) c = d ≡ c

-- The command is at hand: by its copy, or by its note.
abbrev pub HasBack : Option Command → own.Note → Command → Type 0
HasBack None note c = back_in note ≡ Some c
HasBack (Some d) note c = d ≡ c
