-- What holds as long as no vat falls and nothing is refused holds in each scene (docs/protocol.md, "Scenes").
use Rattle.std.specs.Prelude.{◌≡◌, Option, List, ◌∷◌}
use Rattle.rpc_msg.specs.declared.ids.Vat.{Vat}
use Rattle.rpc_msg.specs.declared.ids.ObjectId.{ObjectId}
use Rattle.rpc_msg.specs.declared.message.PlainMessage.{PlainMessage}
use Rattle.rpc_msg.specs.declared.message.Message.{Message}
use Rattle.rpc_msg.specs.declared.message.Message.TheVariants as message
use Rattle.rpc_machine.specs.World.{World, new_world, core, inbox}
use Rattle.rpc_machine.specs.Claims.{CountsAgree, EveryRun}
use Rattle.laws_runs.specs.Scenes.{Scene, IsScene}
use Rattle.laws_runs.specs.Between.{Steady, HoldsIn}
use Rattle.laws_runs.specs.Worlds.{Stand}
use Rattle.laws_runs.specs.Agreed.{IsMet}

-- So it is of the world of each scene.
abbrev pub InScenes : (World → Type 0) → Type 0
InScenes P = (root_a root_b : Option ObjectId) (x : Scene) → IsScene root_a root_b x → P x.world

-- Steps in which no vat falls and nothing is refused lead to the world of each scene.
abbrev pub ScenesAreSteady : Type 0
ScenesAreSteady = (root_a root_b : Option ObjectId) (x : Scene) → IsScene root_a root_b x → Steady x.world (new_world root_a root_b)

abbrev pub OldestAreMet : World → Type 0
OldestAreMet w = (v : Vat) (m : Message) (ms : List Message) → inbox w v ≡ m ∷ ms → (p : PlainMessage) × (m ≡ message.Plain p) × IsMet (core w v) p

pub record CountsOfScenes : Type 0 where
  pub steady : ScenesAreSteady
  pub sessions : InScenes (HoldsIn Stand)
  pub counts : InScenes CountsAgree
  pub oldest : InScenes OldestAreMet

-- So in every run of two vats, while neither is down.
abbrev pub CountsOfRuns : Type 0
CountsOfRuns = EveryRun (λ h xs w. CountsAgree w)
