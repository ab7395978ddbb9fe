-- The step of one vat: it, the messages to its peer, and the journal.
use Rattle.std.specs.Prelude.{◌≡◌, ◌⊎◌, ℕ, Bool, true, false, cond, ◌&&◌, Option, None, Some, is_some, Result, Ok, Err, List, [], ◌∷◌, ◌++◌}
use Rattle.rpc_msg.specs.Memory.{Memory}
use Rattle.rpc_msg.specs.declared.ids.Vat.{Vat}
use Rattle.rpc_msg.specs.declared.message.Message.{Message}
use Rattle.rpc_journal.specs.declared.entry.JournalEntry.{JournalEntry}
use Rattle.rpc_journal.specs.declared.entry.JournalEntry.TheVariants as entry
use Rattle.rpc_machine.specs.declared.command.Command.{Command}
use Rattle.rpc_machine.specs.declared.command.Granted.{Granted}
use Rattle.rpc_machine.specs.declared.command.Refusal.{Refusal}
use Rattle.rpc_machine.specs.declared.command.Effects.{Effects}
use Rattle.rpc_machine.specs.State.{State}
use Rattle.rpc_machine.specs.Down.{falling, silent}
use Rattle.rpc_machine.specs.Refusals.{is_shut}
use Rattle.rpc_machine.specs.Steps.{Obeys}
use Rattle.rpc_machine.specs.World.{Side, Tells, CommandTold, MessageTold, given_up}
use Rattle.rpc_machine.specs.Progress.{quiet}
use Rattle.rpc_machine.specs.Journal.{effect_entries, own_entries, refused_entries}
use Rattle.core_telling.specs.Answers.{AnswersTo}
use Rattle.core_telling.specs.Answer.{Answer}
use Rattle.core_telling.specs.Answer.TheVariants.{Done, Refused}
use Rattle.core_telling.specs.declared.notes.Note.{Note}
use Rattle.vat_world.specs.declared.answer.StepAnswer.{StepAnswer}
use Rattle.vat_world.specs.declared.answer.StepAnswer.TheVariants as step
use Rattle.core_telling.specs.Told.{without_sends, given_of, noted_entries, HadNote}

-- What one vat's step may change.
pub record Stage : Type 0 where
  pub acting : Side
  pub peer : Side
  pub journal : List JournalEntry

-- The vat's core comes to this state; what is told to be sent is behind what was on its way, and what is written is at the
-- end of the journal.
abbrev pub stepped : Vat → Stage → State → Effects → List JournalEntry → Stage
stepped v g s told own = record {
  acting = record (g.acting) { core = s };
  peer = record (g.peer) { inbox = g.peer.inbox ++ told.sends };
  journal = g.journal ++ (own ++ effect_entries v told);
}

-- A command at a vat that is up.
pub record ObeysUp (v : Vat) (g : Stage) (c : Command) (given : Answer) (new : Stage) : Type 0 where
  pub answer : Result Granted Refusal
  pub told : Effects
  pub room : Bool
  pub s : State
  pub told_so : CommandTold g.acting.core c answer told room s
  pub new_is : new ≡ stepped v g s told (cond room (own_entries g.journal v c answer) [])
  pub given_is : given ≡ given_of c answer told

-- At one that is down.
pub record ObeysDown (g : Stage) (c : Command) (given : Answer) (new : Stage) : Type 0 where
  pub answer : Result Granted Refusal
  pub told : Effects
  pub obeys : Obeys g.acting.core c answer told g.acting.core
  pub new_is : new ≡ g
  pub given_is : given ≡ given_of c answer told

abbrev pub ObeysBy : Option ℕ → Vat → Stage → Command → Answer → Stage → Type 0
ObeysBy None v g c given new = ObeysUp v g c given new
ObeysBy (Some n) v g c given new = ObeysDown g c given new

-- What a step answers to a command.
abbrev pub ObeysSo : Option ℕ → Vat → Stage → Command → StepAnswer → Stage → Type 0
ObeysSo down v g c given new = (answer : Answer) × (given ≡ step.Answered answer) × ObeysBy down v g c answer new

abbrev pub ObeysUpSo : Vat → Stage → Command → StepAnswer → Stage → Type 0
ObeysUpSo v g c given new = (answer : Answer) × (given ≡ step.Answered answer) × ObeysUp v g c answer new

-- What the core alone answers to it.
abbrev pub AnswersSo : State → Command → StepAnswer → State → Type 0
AnswersSo old c given new = (answer : Answer) × (given ≡ step.Answered answer) × AnswersTo old c answer new

-- A message at a vat that is up.
pub record HandlesUp (v : Vat) (g : Stage) (m : Message) (given : Effects) (new : Stage) : Type 0 where
  pub told : Effects
  pub room : Bool
  pub s : State
  pub told_so : MessageTold g.acting.core m told room s
  pub new_is : new ≡ stepped v g s told (entry.Got v ∷ [])
  pub given_is : given ≡ without_sends told

abbrev pub taken : Stage → List Message → Stage
taken g rest = record g { acting = record (g.acting) { inbox = rest } }

-- It is the oldest on its way. Nothing happens where there is none, or the vat is down.
abbrev pub DeliversBy : List Message → Option ℕ → Vat → Stage → StepAnswer → Stage → Type 0
DeliversBy [] down v g given new = (given ≡ step.Empty) × (new ≡ g)
DeliversBy (m ∷ ms) (Some n) v g given new = (given ≡ step.Empty) × (new ≡ g)
DeliversBy (m ∷ ms) None v g given new = (effects : Effects) × (given ≡ step.Handled effects) × HandlesUp v (taken g ms) m effects new

-- ---- How a step is told

-- A core's step with these effects is told: with its own entries where there was room for it, and without them where there
-- was none.
pub record Logs (v : Vat) (g : Stage) (effects : Effects) (own : List JournalEntry) (room : Bool) (given : Effects) (new : Stage) : Type 0 where
  pub told : Effects
  pub s : State
  pub tells : Tells effects g.acting.core room told s
  pub new_is : new ≡ stepped v g s told (cond room own [])
  pub given_is : given ≡ without_sends told

-- There was no room: the step's own entries are gone, and the vat goes down.
pub record Overflows (v : Vat) (g : Stage) (effects : Effects) (given : Effects) (new : Stage) : Type 0 where
  pub told : Effects
  pub s : State
  pub tells : Tells effects g.acting.core false told s
  pub new_is : new ≡ stepped v g s told []
  pub given_is : given ≡ without_sends told

-- A step that was done is told, and this is left of what it granted.
pub record TellsDone (v : Vat) (g : Stage) (note : Result Note Memory) (granted : Granted) (effects : Effects) (left : Granted) (given : Effects) (new : Stage) : Type 0 where
  pub room : Bool
  pub had_note : HadNote room note
  pub logs : Logs v g effects (noted_entries v note granted) room given new
  pub left_is : Ok left ≡ cond room (Ok granted) (given_up (Ok granted))

-- A step that was refused is told.
pub record TellsRefused (v : Vat) (g : Stage) (refusal : Refusal) (new : Stage) : Type 0 where
  pub room : Bool
  pub given : Effects
  pub logs : Logs v g quiet (refused_entries v refusal) room given new

-- The command was a shut that took down a vat which was up.
abbrev pub takes_down : Option ℕ → Command → Option ℕ → Bool
takes_down None c new = is_shut c && is_some new
takes_down (Some n) c new = false
