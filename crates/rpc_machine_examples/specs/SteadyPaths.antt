-- Where a call goes whose path ends at a wire (docs/protocol.md, "Where a node leads", "Routing"; rpc.capnp, Call).
use Rattle.std.specs.Prelude.{◌≡◌, None, Some, List, [], ◌∷◌}
use Rattle.std.specs.FinMap as map
use Rattle.rpc_msg.specs.declared.parts.Target.{Target}
use Rattle.rpc_msg.specs.declared.message.Call.{Call}
use Rattle.rpc_msg.specs.declared.message.PlainMessage.TheVariants as plain
use Rattle.rpc_msg.specs.declared.message.Message.{Message}
use Rattle.rpc_msg.specs.declared.message.Message.TheVariants as message
use Rattle.rpc_machine.specs.declared.command.Command.TheVariants as command
use Rattle.rpc_machine.specs.declared.command.CallCommand.{CallCommand}
use Rattle.rpc_machine.specs.declared.command.Granted.{Granted}
use Rattle.rpc_machine.specs.declared.command.Effects.{Effects}
use Rattle.rpc_machine.specs.declared.entries.Reference.{Reference}
use Rattle.rpc_machine.specs.State.{State}
use Rattle.rpc_machine.specs.Nodes.{settle}
use Rattle.rpc_machine.specs.Advancing.{wire_target}
use Rattle.rpc_machine.specs.Faults.{target_node}
use Rattle.rpc_machine.specs.Steps.{Does, Handles}

-- The targets of the Calls among these messages.
abbrev pub called : List Message → List Target
called [] = []
called (message.Plain (plain.Call c) ∷ ms) = c.target ∷ called ms
called (m ∷ ms) = called ms

-- One Call is sent, to that target, and nothing is delivered here.
pub record GoesOutTo (t : Target) (effects : Effects) : Type 0 where
  pub sent : called effects.sends ≡ t ∷ []
  pub not_here : effects.deliveries ≡ []

-- A call whose path settles at a wire goes to that wire, whatever the wire was resolved to meanwhile: one that is
-- received, as one that is made through a reference.
pub record CallsStopAtWires : Type 0 where
  pub received : (s : State) (c : Call) (effects : Effects) (new : State) (t : Target) → Handles s (message.Plain (plain.Call c)) effects new → wire_target (settle s (target_node s c.target)) ≡ Some t → GoesOutTo t effects
  pub made : (s : State) (c : CallCommand) (answer : Granted) (effects : Effects) (new : State) (x : Reference) (t : Target) → Does s (command.Call c) answer effects new → map.get s.refs c.reference.0 ≡ Some x → x.embargo ≡ None → wire_target (settle s x.head) ≡ Some t → GoesOutTo t effects
