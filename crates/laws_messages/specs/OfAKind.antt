-- Between two vats an export is of one kind (docs/protocol.md, "Sessions of ids").
use Rattle.std.specs.Prelude.{◌≡◌, ℕ, Option, None, Some, List, [], ◌∷◌}
use Rattle.std.specs.FinMap as map
use Rattle.rpc_machine.specs.declared.entries.Import.{Import}
use Rattle.rpc_machine.specs.declared.entries.Export.{Export}
use Rattle.rpc_machine.specs.State.{State}
use Rattle.laws_acts.specs.Sent.{Noted}
use Rattle.laws_runs.specs.Exports as export
use Rattle.laws_runs.specs.Exports.{Kind, Out}
use Rattle.laws_runs.specs.Between.{InSteadyWorlds, HoldsIn}
use Rattle.laws_runs.specs.SceneSessions.{InScenes}
use Rattle.laws_messages.specs.Views.{kind_of, outs_for}
use Rattle.laws_messages.specs.Kinds.{kind_given}

-- Each descriptor of it that is on the way.
abbrev pub AllOf : Option Kind → List Out → Type 0
AllOf k [] = Unit {0}
AllOf k (export.Give j ∷ ms) = (k ≡ Some j) × AllOf k ms
AllOf k (export.Resolve ∷ ms) = AllOf k ms

abbrev pub ImportOf : Option Kind → Option Import → Type 0
ImportOf k None = Unit {0}
ImportOf k (Some y) = k ≡ Some (kind_of y.kind)

-- They, and the import, are of the kind of the export's node.
abbrev pub FitsExport : Option Export → List Out → Option Import → Type 0
FitsExport None ms y = Unit {0}
FitsExport (Some x) ms y = AllOf (kind_given x.node) ms × ImportOf (kind_given x.node) y

-- Of the exports of the vat s and the imports of the vat t.
abbrev pub AreOfKind : State → State → List Noted → Type 0
AreOfKind s t to_t = (e : ℕ) → FitsExport (map.get s.exports e) (outs_for e to_t) (map.get t.imports e)

-- And of those of both.
abbrev pub BothOfKind : State → List Noted → State → List Noted → Type 0
BothOfKind s to_s t to_t = AreOfKind s t to_t × AreOfKind t s to_s

pub record ExportsAreOfOneKind : Type 0 where
  pub steady : InSteadyWorlds BothOfKind
  pub scenes : InScenes (HoldsIn BothOfKind)
