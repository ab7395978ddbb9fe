-- An own promise is settled once: one that is not settled at its vat has no fate in the history.
use Rattle.std.specs.Prelude.{◌≡◌, ℕ, false, Option, None, Some}
use Rattle.std.specs.FinMap as map
use Rattle.rpc_msg.specs.declared.ids.Vat.{Vat}
use Rattle.rpc_msg.specs.declared.ids.ObjectId.{ObjectId}
use Rattle.rpc_journal.specs.Sources.{fate}
use Rattle.rpc_machine.specs.World.{core}
use Rattle.laws_runs.specs.Scenes.{Scene, IsScene, is_over}

abbrev pub PromisesAreOpen : Type 0
PromisesAreOpen =
    (root_a root_b : Option ObjectId) (x : Scene)
    → IsScene root_a root_b x → (v : Vat) → is_over x v ≡ false → (k p : ℕ) → map.get (core x.world v).unsettled k ≡ Some p → fate x.journal v k ≡ None
