-- A step of a command in a scene keeps what nodes mean at its vat; and each entry that it writes is as what leads to an
-- object, or to broken, says.
use Rattle.std.specs.Prelude.{◌≡◌, true, false, None, Ok, Option, List, ◌∷◌, ◌++◌}
use Rattle.rpc_msg.specs.declared.ids.Vat.{Vat}
use Rattle.rpc_msg.specs.declared.ids.ObjectId.{ObjectId}
use Rattle.rpc_journal.specs.declared.entry.JournalEntry.{JournalEntry}
use Rattle.rpc_machine.specs.declared.command.Command.{Command}
use Rattle.rpc_machine.specs.declared.command.Granted.{Granted}
use Rattle.rpc_machine.specs.declared.command.Granted.TheVariants as granted
use Rattle.rpc_machine.specs.declared.command.Effects.{Effects}
use Rattle.rpc_machine.specs.State.{State}
use Rattle.rpc_machine.specs.Limits.{IsWithin}
use Rattle.rpc_machine.specs.Refusals.{refused}
use Rattle.rpc_machine.specs.Progress.{quiet}
use Rattle.rpc_machine.specs.Steps.{Does}
use Rattle.rpc_machine.specs.World.{core, Answered}
use Rattle.rpc_machine.specs.Journal.{granted_entries, command_entries}
use Rattle.rpc_machine.specs.Claims.{history}
use Rattle.laws_runs.specs.Scenes.{Scene, IsScene, is_over}
use Rattle.laws_meanings.specs.NodeMeanings.{IfLedToObject, IfLedToBroken}
use Rattle.laws_meanings.specs.NodeLabels.{Labels, Places}

-- Each of these entries, with what is before it.
abbrev pub AllLed : Option ObjectId → Option ObjectId → List JournalEntry → List JournalEntry → Type 0
AllLed root_a root_b h es =
    (before behind : List JournalEntry) (y : JournalEntry) → es ≡ before ++ y ∷ behind
    → IfLedToObject (history root_a root_b (h ++ before)) y × IfLedToBroken (history root_a root_b (h ++ before)) y

abbrev pub ScenesCommandsKeep : Type 0
ScenesCommandsKeep =
    (root_a root_b : Option ObjectId) (x : Scene) (v : Vat) (l : Labels) (c : Command) (g : Granted) (e : Effects) (t : State)
    → IsScene root_a root_b x → is_over x v ≡ false → (core x.world v).down ≡ None → refused (core x.world v) c ≡ None → Does (core x.world v) c g e t → IsWithin t
    → Places (history root_a root_b x.journal) v l quiet (core x.world v)
    → ((m : Labels) × Places (history root_a root_b (x.journal ++ command_entries x.journal v c true (Answered (Ok g) e))) v m quiet t)
    × AllLed root_a root_b x.journal (command_entries x.journal v c true (Answered (Ok g) e))

-- The last words of a vat that takes no more steps deliver and end nothing.
abbrev pub LastWordsAreLed : Type 0
LastWordsAreLed = (root_a root_b : Option ObjectId) (h : List JournalEntry) (v : Vat) (c : Command) → AllLed root_a root_b h (granted_entries h v c granted.Done)
