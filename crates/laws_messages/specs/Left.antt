-- Of the checks of the oldest message on its way to a vat, those that may still fail (docs/protocol.md, "Checks of received
-- messages"; docs/laws.md, "What a message is checked for").
use Rattle.std.specs.Prelude.{◌≡◌, ◌⊎◌, ℕ, not, Option, None, IsSome, List, ◌∷◌}
use Rattle.rpc_msg.specs.Vats.{other_vat}
use Rattle.rpc_msg.specs.declared.ids.Vat.{Vat}
use Rattle.rpc_msg.specs.declared.exception.Exception.{Exception}
use Rattle.rpc_msg.specs.declared.parts.Target.{Target}
use Rattle.rpc_msg.specs.declared.message.DisembargoContext.{DisembargoContext}
use Rattle.rpc_msg.specs.declared.message.DisembargoContext.TheVariants.{SenderLoopback, ReceiverLoopback}
use Rattle.rpc_msg.specs.declared.message.PlainMessage.{PlainMessage}
use Rattle.rpc_msg.specs.declared.message.PlainMessage.TheVariants as plain
use Rattle.rpc_msg.specs.declared.message.Message.{Message}
use Rattle.rpc_msg.specs.declared.message.Message.TheVariants as message
use Rattle.rpc_journal.specs.History.{if_so}
use Rattle.rpc_machine.specs.State.{State}
use Rattle.rpc_machine.specs.Nodes.{settle, is_wire}
use Rattle.rpc_machine.specs.Numbers.{disembargo_not_loopback}
use Rattle.rpc_machine.specs.Faults.{target_node, held_fault, fault_of}
use Rattle.rpc_machine.specs.World.{World, core, inbox}
use Rattle.rpc_machine.specs.Claims.{EveryRun}
use Rattle.laws_runs.specs.Views.{IsUseful}
use Rattle.laws_runs.specs.SceneSessions.{InScenes}

-- A Disembargo that is to turn back.
abbrev pub turning_fault : State → Target → DisembargoContext → Option ℕ
turning_fault s target (SenderLoopback x) = if_so (not (is_wire (settle s (target_node s target)))) disembargo_not_loopback
turning_fault s target (ReceiverLoopback x) = None

abbrev pub left_of : State → PlainMessage → Option ℕ
left_of s (plain.Abort exception) = None
left_of s (plain.Bootstrap q) = None
left_of s (plain.Call c) = held_fault s c.target
left_of s (plain.Return r) = None
left_of s (plain.Finish f) = None
left_of s (plain.Resolve r) = None
left_of s (plain.Release r) = None
left_of s (plain.Disembargo d) = turning_fault s d.target d.context
left_of s (plain.Other n) = None

-- The message is neither an Abort nor one that isn't understood, and its fault is what these checks say.
abbrev pub IsLeft : State → Message → Type 0
IsLeft s m = (p : PlainMessage) × (m ≡ message.Plain p) × IsUseful p × (fault_of s m ≡ left_of s p)

abbrev pub OldestAreLeft : World → Type 0
OldestAreLeft w = (v : Vat) (m : Message) (ms : List Message) → inbox w v ≡ m ∷ ms → IsLeft (core w v) m

abbrev pub FewChecksAreLeft : Type 0
FewChecksAreLeft = InScenes OldestAreLeft

-- In a run it may also be the Abort of the other vat, which is down.
abbrev pub IsLastWord : World → Vat → Message → Type 0
IsLastWord w v m = (x : Exception) × (m ≡ message.Plain (plain.Abort x)) × IsSome (core w (other_vat v)).down

abbrev pub IsLeftAt : World → Vat → Type 0
IsLeftAt w v = (m : Message) (ms : List Message) → inbox w v ≡ m ∷ ms → IsLastWord w v m ⊎ IsLeft (core w v) m

abbrev pub FewAreLeftInRuns : Type 0
FewAreLeftInRuns = EveryRun (λ h xs w. (v : Vat) → (core w v).down ≡ None → IsLeftAt w v)
