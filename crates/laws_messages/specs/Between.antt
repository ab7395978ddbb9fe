-- Between two vats the session of each export stands (docs/protocol.md, "Sessions of ids").
use Rattle.std.specs.Prelude.{ℕ, List}
use Rattle.std.specs.FinMap as map
use Rattle.rpc_machine.specs.State.{State}
use Rattle.laws_acts.specs.Sent.{Noted}
use Rattle.laws_runs.specs.Exports.{Stands}
use Rattle.laws_runs.specs.Between.{InSteadyWorlds, HoldsIn}
use Rattle.laws_runs.specs.SceneSessions.{InScenes}
use Rattle.laws_messages.specs.Views.{importer_of, outs_for, backs_for}
use Rattle.laws_messages.specs.ExportViews.{exporter_of}

-- Of the exports of the vat s and the imports of the vat t.
abbrev pub AreStanding : State → List Noted → State → List Noted → Type 0
AreStanding s to_s t to_t = (e : ℕ) → Stands (exporter_of s (map.get s.exports e)) (outs_for e to_t) (importer_of (map.get t.imports e)) (backs_for e to_s)

-- And of those of both.
abbrev pub BothStand : State → List Noted → State → List Noted → Type 0
BothStand s to_s t to_t = AreStanding s to_s t to_t × AreStanding t to_t s to_s

pub record ExportsStand : Type 0 where
  pub steady : InSteadyWorlds BothStand
  pub scenes : InScenes (HoldsIn BothStand)
