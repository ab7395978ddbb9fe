-- What each step from a scene keeps holds of each scene.
use Rattle.std.proofs.Common.{Option}
use Rattle.rpc_msg.specs.declared.ids.ObjectId.{ObjectId}
use Rattle.laws_runs.specs.Scenes.{Scene, IsScene, begins, Steps, LeadsTo, NoMore, Then}
use Rattle.laws_runs.proofs.FallsInRuns.{leads_more}

module _ (a b : Option ObjectId) (P : Scene → Type 0) (keeps : (x mid : Scene) → IsScene a b x → Steps x mid → P x → P mid) where
  leads : (last x : Scene) → IsScene a b x → LeadsTo last x → P x → P last
  leads last x k NoMore p = p
  leads last x k (Then {mid = mid} s rest) p = leads last mid (leads_more x mid (begins a b) k s) rest (keeps x mid k s p)

  pub in_each : P (begins a b) → (x : Scene) → IsScene a b x → P x
  in_each p x k = leads x (begins a b) NoMore k p
