-- What is promised of every run follows from what holds of every scene: of two vats that are never refused and never
-- fall (docs/protocol.md, "Scenes").
use Rattle.std.specs.Prelude.{◌≡◌, ℕ, false, Option, None, Some, List, ◌∷◌}
use Rattle.rpc_msg.specs.declared.ids.Vat.{Vat}
use Rattle.rpc_msg.specs.declared.ids.ObjectId.{ObjectId}
use Rattle.rpc_msg.specs.declared.message.Message.{Message}
use Rattle.rpc_journal.specs.Meaning.{History}
use Rattle.rpc_machine.specs.Numbers.{held_past_limit}
use Rattle.rpc_machine.specs.Faults.{fault_of}
use Rattle.rpc_machine.specs.World.{core, inbox}
use Rattle.rpc_machine.specs.Claims.{IsInOrder, IsInFull, CountsAgree, IsInTime, EndsAreSo, EveryRunIsSound, history}
use Rattle.laws_runs.specs.Scenes.{Scene, is_over, IsScene}

-- A message may be refused because it would have to wait where no more may.
abbrev pub MayFault : Option ℕ → Type 0
MayFault None = Unit {0}
MayFault (Some n) = n ≡ held_past_limit

-- So may be the oldest message on its way to a vat that still takes steps, and for nothing else.
abbrev pub OldestAreTaken : Scene → Type 0
OldestAreTaken x = (v : Vat) (m : Message) (ms : List Message) → is_over x v ≡ false → inbox x.world v ≡ m ∷ ms → MayFault (fault_of (core x.world v) m)

-- What is to be shown of a scene.
pub record SceneIsSound (h : History) (x : Scene) : Type 0 where
  pub in_order : IsInOrder h.journal
  pub in_full : x.over_a ≡ false → x.over_b ≡ false → IsInFull h x.world
  pub counts : x.over_a ≡ false → x.over_b ≡ false → CountsAgree x.world
  pub in_time : IsInTime h
  pub ends : EndsAreSo h
  pub oldest : OldestAreTaken x

abbrev pub EverySceneIsSound : Type 0
EverySceneIsSound = (root_a root_b : Option ObjectId) (x : Scene) → IsScene root_a root_b x → SceneIsSound (history root_a root_b x.journal) x

abbrev pub SoundByScenes : Type 0
SoundByScenes = EverySceneIsSound → EveryRunIsSound

-- No more is asked of scenes than what is promised of runs.
abbrev pub ScenesBySound : Type 0
ScenesBySound =
    EveryRunIsSound → (root_a root_b : Option ObjectId) (x : Scene)
    → IsScene root_a root_b x → OldestAreTaken x → SceneIsSound (history root_a root_b x.journal) x
