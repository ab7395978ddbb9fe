-- Two vats that never go down: what a run of two vats is, seen without refusals and falls (docs/protocol.md, "Scenes"). A
-- vat that falls in the run takes no more steps here, and stays as it was before the step in which it fell.
use Rattle.std.specs.Prelude.{◌≡◌, ◌⊎◌, Bool, true, false, None, Option, IsSome, Ok, List, [], ◌∷◌, ◌++◌}
use Rattle.rpc_msg.specs.declared.ids.Vat.{Vat}
use Rattle.rpc_msg.specs.declared.ids.Vat.TheVariants.{A, B}
use Rattle.rpc_msg.specs.declared.ids.ObjectId.{ObjectId}
use Rattle.rpc_msg.specs.declared.exception.Exception.{Exception}
use Rattle.rpc_msg.specs.declared.message.PlainMessage.TheVariants as plain
use Rattle.rpc_msg.specs.declared.message.Message.{Message}
use Rattle.rpc_msg.specs.declared.message.Message.TheVariants as message
use Rattle.rpc_journal.specs.declared.entry.JournalEntry.{JournalEntry}
use Rattle.rpc_machine.specs.declared.command.Command.{Command}
use Rattle.rpc_machine.specs.declared.command.Granted.{Granted}
use Rattle.rpc_machine.specs.declared.command.Granted.TheVariants as granted
use Rattle.rpc_machine.specs.declared.command.Effects.{Effects}
use Rattle.rpc_machine.specs.State.{State}
use Rattle.rpc_machine.specs.Limits.{IsWithin}
use Rattle.rpc_machine.specs.Refusals.{refused}
use Rattle.rpc_machine.specs.Faults.{fault_of}
use Rattle.rpc_machine.specs.Steps.{Does, Handles, MayFall}
use Rattle.rpc_machine.specs.World.{World, core, inbox, put_inbox, after, new_world, Answered, Handled}
use Rattle.rpc_machine.specs.Journal.{granted_entries, command_entries, deliver_entries}
use Rattle.laws_runs.specs.Telling.{telling}

-- Two vats that are up, what they wrote, and which of them takes no more steps.
pub record Scene : Type 0 where
  pub world : World
  pub journal : List JournalEntry
  pub over_a : Bool
  pub over_b : Bool

abbrev pub is_over : Scene → Vat → Bool
is_over x A = x.over_a
is_over x B = x.over_b

abbrev pub begins : Option ObjectId → Option ObjectId → Scene
begins root_a root_b = record { world = new_world root_a root_b; journal = []; over_a = false; over_b = false }

-- The world, and what was written behind.
abbrev pub goes_on : Scene → World → List JournalEntry → Scene
goes_on x w es = record x { world = w; journal = x.journal ++ es }

-- The vat takes no more steps; these were its last words.
abbrev pub stopped : Scene → Vat → List JournalEntry → Scene
stopped x A es = record x { journal = x.journal ++ es; over_a = true }
stopped x B es = record x { journal = x.journal ++ es; over_b = true }

-- A vat is commanded, or receives its oldest message, and that is done; or it takes no more steps. A command that was not
-- refused and fell for want of room left its entry: those are the last words of its vat.
pub data Steps (x new : Scene) : Type 0 where
  Commanded : (v : Vat) (c : Command) (given : Granted) (effects : Effects) (s : State) → is_over x v ≡ false → (core x.world v).down ≡ None → refused (core x.world v) c ≡ None → Does (core x.world v) c given effects s → IsWithin s → new ≡ goes_on x (after x.world v effects s) (command_entries x.journal v c true (Answered (Ok given) effects)) → Steps x new
  Received : (v : Vat) (m : Message) (ms : List Message) (effects : Effects) (s : State) → is_over x v ≡ false → (core x.world v).down ≡ None → inbox x.world v ≡ m ∷ ms → fault_of (core x.world v) m ≡ None → Handles (core x.world v) m effects s → IsWithin s → new ≡ goes_on x (after (put_inbox x.world v ms) v effects s) (deliver_entries v (Handled effects)) → Steps x new
  GivesUp : (v : Vat) (c : Command) → is_over x v ≡ false → refused (core x.world v) c ≡ None → MayFall c → new ≡ stopped x v (granted_entries x.journal v c granted.Done) → Steps x new
  Stops : (v : Vat) → is_over x v ≡ false → new ≡ stopped x v [] → Steps x new

-- Steps, one after the other.
pub data LeadsTo (last : Scene) : Scene → Type 0 where
  NoMore : LeadsTo last last
  Then : {x mid : Scene} → Steps x mid → LeadsTo last mid → LeadsTo last x

-- A scene to which two new vats come.
abbrev pub IsScene : Option ObjectId → Option ObjectId → Scene → Type 0
IsScene root_a root_b x = LeadsTo x (begins root_a root_b)

-- ---- What a scene shows of a run

-- What a vat left on the link when it went down: one Abort, or nothing. One that is up left nothing of the kind.
abbrev pub IsLast : Bool → List Message → Type 0
IsLast false ms = ms ≡ []
IsLast true ms = (ms ≡ []) ⊎ ((x : Exception) × (ms ≡ message.Plain (plain.Abort x) ∷ []))

-- A vat that takes no more steps is down in the run. The other is as it is there, and so is what is on its way to it, but
-- for the Abort of the other.
abbrev pub AtVat : Bool → Bool → State → List Message → State → List Message → Type 0
AtVat true other s ms t ns = IsSome s.down
AtVat false other s ms t ns = (s.down ≡ None) × (s ≡ t) × ((last : List Message) × IsLast other last × (ms ≡ ns ++ last))

-- The scene shows the world and its journal.
pub record Shows (x : Scene) (h : List JournalEntry) (w : World) : Type 0 where
  pub history : telling h ≡ telling x.journal
  pub at_a : AtVat x.over_a x.over_b w.a.core w.a.inbox x.world.a.core x.world.a.inbox
  pub at_b : AtVat x.over_b x.over_a w.b.core w.b.inbox x.world.b.core x.world.b.inbox
