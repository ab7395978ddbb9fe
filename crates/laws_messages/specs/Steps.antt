-- What a step does in the session of each export (docs/protocol.md, "Sessions of ids"; rpc.capnp, Resolve).
use Rattle.std.specs.Prelude.{◌≡◌, ℕ, ◌+◌, None, List, [], ◌∷◌}
use Rattle.std.specs.FinMap as map
use Rattle.finite_maps.specs.Tally.{Map}
use Rattle.rpc_msg.specs.declared.message.Message.{Message}
use Rattle.rpc_machine.specs.declared.command.Command.{Command}
use Rattle.rpc_machine.specs.declared.command.Granted.{Granted}
use Rattle.rpc_machine.specs.declared.command.Effects.{Effects}
use Rattle.rpc_machine.specs.declared.entries.Export.{Export}
use Rattle.rpc_machine.specs.State.{State}
use Rattle.rpc_machine.specs.Limits.{export_count}
use Rattle.rpc_machine.specs.Refusals.{refused}
use Rattle.rpc_machine.specs.Faults.{fault_of}
use Rattle.rpc_machine.specs.Steps.{Does, Handles}
use Rattle.laws_runs.specs.Exports as export
use Rattle.laws_runs.specs.Exports.{Exporter, Out, gives, Seen, LearnsAll, Fits}
use Rattle.laws_nodes.specs.Settling.{AllStop}
use Rattle.laws_messages.specs.Kinds.{Stays}
use Rattle.laws_messages.specs.ExportViews.{exporter_of, outs_in}

-- What an importer may know of the export before, it may know of it afterwards, once all that is sent has come.
abbrev pub StillFits : Exporter → List Out → Exporter → Type 0
StillFits x ms y = (a : Seen) → Fits a x → (b : Seen) × LearnsAll a ms b × Fits b y

-- How many Resolves of it are sent.
abbrev pub told_in : List Out → ℕ
told_in [] = 0
told_in (export.Give k ∷ ms) = told_in ms
told_in (export.Resolve ∷ ms) = 1 + told_in ms

abbrev pub if_told : Exporter → ℕ
if_told export.Gone = 0
if_told (export.Has n export.IsObject) = 0
if_told (export.Has n export.IsOpen) = 0
if_told (export.Has n export.Owes) = 0
if_told (export.Has n export.HasTold) = 1

-- Of an export that is there: one where it is open and leads on afterwards; else none. (Between steps none is owed.)
abbrev pub ToldOnce : Exporter → List Out → Exporter → Type 0
ToldOnce export.Gone ms y = Unit {0}
ToldOnce (export.Has n export.IsObject) ms y = told_in ms ≡ 0
ToldOnce (export.Has n export.IsOpen) ms y = told_in ms ≡ if_told y
ToldOnce (export.Has n export.Owes) ms y = Unit {0}
ToldOnce (export.Has n export.HasTold) ms y = told_in ms ≡ 0

-- From the exports `left` that a received message leaves (a command leaves all): each that is given counts one more for each
-- time, is given as what its node is, and never once that leads on; and where that comes to lead on, it is told so, once.
pub record Tells (s : State) (left : Map Export) (x : Effects) (t : State) : Type 0 where
  pub stays : (e : ℕ) → Stays (map.get s.exports e) (map.get left e)
  pub counts : (e : ℕ) → export_count (map.get t.exports e) ≡ export_count (map.get left e) + gives (outs_in e x.sends)
  pub fits : (e : ℕ) → StillFits (exporter_of s (map.get left e)) (outs_in e x.sends) (exporter_of t (map.get t.exports e))
  pub once : (e : ℕ) → ToldOnce (exporter_of s (map.get left e)) (outs_in e x.sends) (exporter_of t (map.get t.exports e))
  pub stops : AllStop t

pub record SettledExportsAreTold : Type 0 where
  pub commands : (s : State) (c : Command) (g : Granted) (x : Effects) (t : State) → AllStop s → refused s c ≡ None → Does s c g x t → Tells s s.exports x t
  pub messages : (s : State) (m : Message) (x : Effects) (t : State) → AllStop s → fault_of s m ≡ None → Handles s m x t → (left : Map Export) × Tells s left x t
