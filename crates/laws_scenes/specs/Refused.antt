-- No check refuses a message of an honest peer, and why a vat goes down (docs/laws.md, "What a message is checked for").
use Rattle.std.specs.Prelude.{◌≡◌, ◌⊎◌, None, Option, List, ◌∷◌}
use Rattle.rpc_msg.specs.declared.ids.ObjectId.{ObjectId}
use Rattle.rpc_msg.specs.declared.ids.Vat.{Vat}
use Rattle.rpc_msg.specs.declared.message.Message.{Message}
use Rattle.rpc_machine.specs.Claims.{EveryRun, FallsAreKnown}
use Rattle.rpc_machine.specs.Faults.{fault_of}
use Rattle.rpc_machine.specs.World.{core, inbox}
use Rattle.laws_runs.specs.Scenes.{Scene, IsScene}
use Rattle.laws_runs.specs.SoundScenes.{MayFault, OldestAreTaken}
use Rattle.laws_runs.specs.SceneSessions.{InScenes}
use Rattle.laws_messages.specs.Left.{IsLastWord}
use Rattle.laws_messages.specs.Taken.{Premises}

-- The target of a Disembargo that is to turn back settles to a wire.
abbrev pub DisembargosTurn : Type 0
DisembargosTurn = InScenes Premises

-- So in each scene no oldest message is refused, but for a call that would have to wait where no more may.
abbrev pub ScenesRefuseNothing : Type 0
ScenesRefuseNothing = (root_a root_b : Option ObjectId) (x : Scene) → IsScene root_a root_b x → OldestAreTaken x

-- So it is in every run at a vat that is up, but for the Abort of the other vat, which is down.
abbrev pub RunsRefuseNothing : Type 0
RunsRefuseNothing = EveryRun (λ h xs w. (v : Vat) (m : Message) (ms : List Message) → (core w v).down ≡ None → inbox w v ≡ m ∷ ms → IsLastWord w v m ⊎ MayFault (fault_of (core w v) m))

-- And in each run it is known why a vat goes down (`FallsAreKnown`).
abbrev pub AllFallsAreKnown : Type 0
AllFallsAreKnown = EveryRun (λ h xs w. FallsAreKnown xs h)
