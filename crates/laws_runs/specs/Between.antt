-- Two vats that are never refused and never fall: what holds between them, with what is on the way to each.
use Rattle.std.specs.Prelude.{◌≡◌, Option, None, List, [], ◌∷◌, ◌++◌}
use Rattle.rpc_msg.specs.declared.ids.Vat.{Vat}
use Rattle.rpc_msg.specs.declared.ids.Vat.TheVariants.{A, B}
use Rattle.rpc_msg.specs.declared.ids.ObjectId.{ObjectId}
use Rattle.rpc_msg.specs.declared.message.Message.{Message}
use Rattle.rpc_msg.specs.declared.message.Message.TheVariants as message
use Rattle.rpc_machine.specs.declared.command.Command.{Command}
use Rattle.rpc_machine.specs.declared.command.Granted.{Granted}
use Rattle.rpc_machine.specs.declared.command.Effects.{Effects}
use Rattle.rpc_machine.specs.declared.command.Level.TheVariants.{One}
use Rattle.rpc_machine.specs.State.{State, start}
use Rattle.rpc_machine.specs.Refusals.{refused}
use Rattle.rpc_machine.specs.Faults.{fault_of}
use Rattle.rpc_machine.specs.Steps.{Does, Handles}
use Rattle.rpc_machine.specs.World.{World, new_world, core, inbox, put_inbox, after}
use Rattle.laws_acts.specs.Sent.{Noted, messages}

-- A step in which no vat falls and nothing is refused.
pub data IsSteady (w new : World) : Type 0 where
  Commands : (v : Vat) (c : Command) (g : Granted) (x : Effects) (s : State) → refused (core w v) c ≡ None → Does (core w v) c g x s → new ≡ after w v x s → IsSteady w new
  Receives : (v : Vat) (m : Message) (ms : List Message) (x : Effects) (s : State) → inbox w v ≡ m ∷ ms → fault_of (core w v) m ≡ None → Handles (core w v) m x s → new ≡ after (put_inbox w v ms) v x s → IsSteady w new

-- Such steps lead from one world to the other.
pub data Steady (last : World) : World → Type 0 where
  Stays : Steady last last
  OneMore : {w mid : World} → IsSteady w mid → Steady last mid → Steady last w

-- It holds of a world: of both cores, with notes whose messages are what is on the way.
pub record HoldsIn (R : State → List Noted → State → List Noted → Type 0) (w : World) : Type 0 where
  pub to_a : List Noted
  pub to_b : List Noted
  pub is_a : w.a.inbox ≡ messages to_a
  pub is_b : w.b.inbox ≡ messages to_b
  pub holds : R w.a.core to_a w.b.core to_b

abbrev pub InSteadyWorlds : (State → List Noted → State → List Noted → Type 0) → Type 0
InSteadyWorlds R = (root_a root_b : Option ObjectId) (w : World) → Steady w (new_world root_a root_b) → HoldsIn R w

-- Some notes of what was sent, with which it holds: of the vat that sent them, and of the other, to which they are on
-- their way.
abbrev pub StillHolds : (State → List Noted → State → List Noted → Type 0) → State → List Noted → State → List Noted → Effects → Type 0
StillHolds R s to_s t to_t x = (sent : List Noted) × (x.sends ≡ messages sent) × R s to_s t (to_t ++ sent)

-- It is the same seen from either vat, holds of two new ones, and is kept by each step of the first.
pub record IsKept (R : State → List Noted → State → List Noted → Type 0) : Type 0 where
  pub turned : (s t : State) (to_s to_t : List Noted) → R s to_s t to_t → R t to_t s to_s
  pub starts : (root_a root_b : Option ObjectId) → R (start A One root_a) [] (start B One root_b) []
  pub commands : (s t new : State) (to_s to_t : List Noted) (c : Command) (g : Granted) (x : Effects) → R s to_s t to_t → refused s c ≡ None → Does s c g x new → StillHolds R new to_s t to_t x
  pub receives : (s t new : State) (n : Noted) (to_s to_t : List Noted) (x : Effects) → R s (n ∷ to_s) t to_t → fault_of s (message.Plain n.message) ≡ None → Handles s (message.Plain n.message) x new → StillHolds R new to_s t to_t x
