-- No message of an honest peer is refused (docs/laws.md, "What a message is checked for").
use Rattle.std.specs.Prelude.{◌≡◌, ◌⊎◌, true, Option, None, List, ◌∷◌}
use Rattle.rpc_msg.specs.declared.ids.Vat.{Vat}
use Rattle.rpc_msg.specs.declared.ids.ObjectId.{ObjectId}
use Rattle.rpc_msg.specs.declared.ids.QuestionId.{QuestionId}
use Rattle.rpc_msg.specs.declared.ids.EmbargoId.{EmbargoId}
use Rattle.rpc_msg.specs.declared.parts.Target.{Target}
use Rattle.rpc_msg.specs.declared.message.Call.{Call}
use Rattle.rpc_msg.specs.declared.message.Return.{Return}
use Rattle.rpc_msg.specs.declared.message.Finish.{Finish}
use Rattle.rpc_msg.specs.declared.message.Resolve.{Resolve}
use Rattle.rpc_msg.specs.declared.message.Release.{Release}
use Rattle.rpc_msg.specs.declared.message.DisembargoContext.TheVariants.{SenderLoopback, ReceiverLoopback}
use Rattle.rpc_msg.specs.declared.message.PlainMessage.{PlainMessage}
use Rattle.rpc_msg.specs.declared.message.PlainMessage.TheVariants as plain
use Rattle.rpc_msg.specs.declared.message.Message.{Message}
use Rattle.rpc_msg.specs.declared.message.Message.TheVariants as message
use Rattle.rpc_machine.specs.Nodes.{settle, is_wire}
use Rattle.rpc_machine.specs.Faults.{target_node, fault_of}
use Rattle.rpc_machine.specs.World.{World, core, inbox}
use Rattle.rpc_machine.specs.Claims.{EveryRun, FallsAreKnown}
use Rattle.laws_runs.specs.Scenes.{Scene, IsScene}
use Rattle.laws_runs.specs.SceneSessions.{InScenes}
use Rattle.laws_runs.specs.SoundScenes.{MayFault, OldestAreTaken}
use Rattle.laws_messages.specs.Left.{IsLastWord}

-- The oldest message on its way to a vat is this one.
abbrev pub IsOldest : World → Vat → PlainMessage → Type 0
IsOldest w v m = (ms : List Message) × (inbox w v ≡ message.Plain m ∷ ms)

-- The vat refuses it for nothing.
abbrev pub IsTaken : World → Vat → PlainMessage → Type 0
IsTaken w v m = fault_of (core w v) (message.Plain m) ≡ None

pub record AreTaken (w : World) (v : Vat) : Type 0 where
  pub bootstraps : (q : QuestionId) → IsOldest w v (plain.Bootstrap q) → IsTaken w v (plain.Bootstrap q)
  -- or the call would have to wait where no more may
  pub calls : (c : Call) → IsOldest w v (plain.Call c) → MayFault (fault_of (core w v) (message.Plain (plain.Call c)))
  pub returns : (r : Return) → IsOldest w v (plain.Return r) → IsTaken w v (plain.Return r)
  pub finishes : (f : Finish) → IsOldest w v (plain.Finish f) → IsTaken w v (plain.Finish f)
  pub resolves : (r : Resolve) → IsOldest w v (plain.Resolve r) → IsTaken w v (plain.Resolve r)
  pub releases : (r : Release) → IsOldest w v (plain.Release r) → IsTaken w v (plain.Release r)
  -- those that come back
  pub disembargos : (t : Target) (x : EmbargoId) → let m = plain.Disembargo (record { target = t; context = ReceiverLoopback x }) in IsOldest w v m → IsTaken w v m

abbrev pub MostAreTaken : Type 0
MostAreTaken = InScenes (λ w. (v : Vat) → AreTaken w v)

abbrev pub MostAreTakenInRuns : Type 0
MostAreTakenInRuns = EveryRun (λ h xs w. (v : Vat) → (core w v).down ≡ None → AreTaken w v)

-- ---- Where Disembargos turn back

-- The target of one that is to turn back settles to a wire.
abbrev pub OldestTurn : World → Type 0
OldestTurn w =
    (v : Vat) (t : Target) (x : EmbargoId) → IsOldest w v (plain.Disembargo (record { target = t; context = SenderLoopback x }))
    → is_wire (settle (core w v) (target_node (core w v) t)) ≡ true

-- What is still to be shown of scenes.
pub record Premises (w : World) : Type 0 where
  pub turns : OldestTurn w

-- Then no message is refused, but for a call that would have to wait where no more may.
abbrev pub NoMessageIsRefused : Type 0
NoMessageIsRefused = (root_a root_b : Option ObjectId) (x : Scene) → IsScene root_a root_b x → Premises x.world → OldestAreTaken x

-- So it is in every run at a vat that is up, but for the Abort of the other vat, which is down.
abbrev pub NoneIsRefusedInRuns : Type 0
NoneIsRefusedInRuns =
    InScenes Premises
    → EveryRun (λ h xs w. (v : Vat) (m : Message) (ms : List Message) → (core w v).down ≡ None → inbox w v ≡ m ∷ ms → IsLastWord w v m ⊎ MayFault (fault_of (core w v) m))

-- And in each run it is known why a vat goes down (`FallsAreKnown`).
abbrev pub NoVatTakesTheOtherDown : Type 0
NoVatTakesTheOtherDown = InScenes Premises → EveryRun (λ h xs w. FallsAreKnown xs h)
