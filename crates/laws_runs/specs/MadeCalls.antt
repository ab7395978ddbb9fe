-- The calls made through a reference are numbered from 0, and its vat counts them as the journal does (docs/history.md,
-- "Calls").
use Rattle.std.specs.Prelude.{◌≡◌, ℕ, Option, None, Some, List, length}
use Rattle.std.specs.FinMap as map
use Rattle.rpc_msg.specs.declared.ids.Vat.{Vat}
use Rattle.rpc_msg.specs.declared.ids.ObjectId.{ObjectId}
use Rattle.rpc_journal.specs.declared.entry.JournalEntry.{JournalEntry}
use Rattle.rpc_journal.specs.History.{made}
use Rattle.rpc_machine.specs.declared.command.CallCommand.{CallCommand}
use Rattle.rpc_machine.specs.declared.entries.Reference.{Reference}
use Rattle.rpc_machine.specs.State.{State}
use Rattle.rpc_machine.specs.Commands.{request}
use Rattle.rpc_machine.specs.World.{Happening, core}
use Rattle.rpc_machine.specs.Journal.{index_in, journal}
use Rattle.rpc_machine.specs.Claims.{AreNumbered, EveryRun}
use Rattle.laws_runs.specs.Scenes.{Scene, IsScene}

-- Whatever happened.
abbrev pub CallsAreNumbered : Type 0
CallsAreNumbered = (xs : List Happening) → AreNumbered (journal xs)

-- Each reference of that vat counts as many calls as were made through it; so the stamp that the next one gets is the one
-- under which the journal will have it.
pub record NumbersItsCalls (v : Vat) (s : State) (h : List JournalEntry) : Type 0 where
  pub counts : (r : ℕ) (y : Reference) → map.get s.refs r ≡ Some y → y.made ≡ length (made h (record { vat = v; number = r }))
  pub stamps : (c : CallCommand) (y : Reference) → map.get s.refs c.reference.0 ≡ Some y → (request s c y).stamp ≡ record { vat = v; reference = c.reference; index = index_in h v c.reference }

abbrev pub ScenesCount : Type 0
ScenesCount =
    (root_a root_b : Option ObjectId) (x : Scene) → IsScene root_a root_b x → (v : Vat) → NumbersItsCalls v (core x.world v) x.journal

-- So at each vat of a run that is up.
abbrev pub RunsCount : Type 0
RunsCount = EveryRun (λ h xs w. (v : Vat) → (core w v).down ≡ None → NumbersItsCalls v (core w v) h.journal)
