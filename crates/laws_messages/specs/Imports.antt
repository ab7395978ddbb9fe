-- What a vat does by itself with the imports that it holds.
use Rattle.std.specs.Prelude.{◌≡◌, ℕ, Option, None, Some, List, [], ◌∷◌}
use Rattle.std.specs.FinMap as map
use Rattle.rpc_machine.specs.declared.entries.Import.{Import}
use Rattle.rpc_machine.specs.Progress.{Progress}
use Rattle.laws_acts.specs.Acts.{Acts}
use Rattle.laws_acts.specs.Sent.{all_sent}
use Rattle.laws_runs.specs.Exports.{Importer, Back, Answers}
use Rattle.laws_runs.specs.Views.{IsReady}
use Rattle.laws_runs.specs.Imports.{IsCovered}
use Rattle.laws_runs.specs.Entries.{IsCounted}
use Rattle.laws_messages.specs.Mentions.{AllName}
use Rattle.laws_messages.specs.Views.{importer_of, backs_for}

-- One that is left is of its kind, and says what its Resolve said.
abbrev pub KeepsImport : Option Import → Option Import → Type 0
KeepsImport x None = Unit {0}
KeepsImport None (Some y) = ⊥
KeepsImport (Some x) (Some y) = (y.kind ≡ x.kind) × (y.resolution ≡ x.resolution)

-- One thing after the other, each as the session allows.
abbrev pub AnswersAll : Importer → List Back → Importer → Type 0
AnswersAll x [] y = x ≡ y
AnswersAll x (m ∷ ms) y = (z : Importer) × Answers x m z × AnswersAll z ms y

pub record ImportsAnswer : Type 0 where
  pub keeps : (last d : Progress) (list : Acts last d) (e : ℕ) → KeepsImport (map.get d.state.imports e) (map.get last.state.imports e)
  -- where nothing waits for its Release
  pub answers : (last d : Progress) (list : Acts last d) → AllName list → IsReady d.state → IsCovered d.state → IsCounted d → d.released ≡ map.empty → last.released ≡ map.empty
      → (e : ℕ) → AnswersAll (importer_of (map.get d.state.imports e)) (backs_for e (all_sent list)) (importer_of (map.get last.state.imports e))
