-- What a command of the application gives the peer, and what a message opens to it (docs/laws/authority.md, "What is given").
use Rattle.std.specs.Prelude.{◌≡◌, ◌⊎◌, ℕ, Bool, true, false, ◌&&◌, is_none, Option, None, Some, List, [], ◌∷◌}
use Rattle.std.specs.FinMap as map
use Rattle.rpc_msg.specs.Op.{Op}
use Rattle.rpc_msg.specs.declared.ids.ObjectId.{ObjectId}
use Rattle.rpc_msg.specs.declared.ids.RefId.{RefId}
use Rattle.rpc_msg.specs.declared.message.PlainMessage.TheVariants as plain
use Rattle.rpc_msg.specs.declared.message.Message.{Message}
use Rattle.rpc_msg.specs.declared.message.Message.TheVariants as message
use Rattle.rpc_machine.specs.declared.node.Node.{Node}
use Rattle.rpc_machine.specs.declared.node.Node.TheVariants as node
use Rattle.rpc_machine.specs.declared.command.Command.{Command}
use Rattle.rpc_machine.specs.declared.command.Command.TheVariants as command
use Rattle.rpc_machine.specs.declared.entries.Reference.{Reference}
use Rattle.rpc_machine.specs.State.{State}
use Rattle.rpc_machine.specs.Nodes.{link, settle}
use Rattle.rpc_machine.specs.Commands.{head_of}
use Rattle.laws_authority.specs.Reach.{MayReach}

-- Links within the vat lead from one node to the other.
pub data LeadsTo (s : State) (from : Node) : Node → Type 0 where
  Itself : LeadsTo s from from
  On : (n m : Node) → LeadsTo s from n → link s n ≡ Some m → LeadsTo s from m

-- One of these references leads to the node.
abbrev pub LedToBy : State → List RefId → Node → Type 0
LedToBy s [] n = ⊥
LedToBy s (r ∷ rs) n = LeadsTo s (head_of (map.get s.refs r.0)) n ⊎ LedToBy s rs n

-- A call that comes to the node is delivered, or breaks, at once.
abbrev pub takes_at_once : Node → Bool
takes_at_once (node.Object o) = true
takes_at_once (node.Promise p) = false
takes_at_once (node.Field o path) = false
takes_at_once (node.Import e) = false
takes_at_once (node.Pipe q path) = false
takes_at_once (node.Broken reason) = true

-- A call through the reference is delivered, or breaks, at once.
abbrev pub goes_at_once : State → Option Reference → Bool
goes_at_once s None = false
goes_at_once s (Some x) = is_none x.embargo && takes_at_once (settle s x.head)

-- The command gives the peer the node, if it is done in that state:
-- - a call gives what its references lead to, unless it is delivered, or breaks, at once;
-- - an answer does so if the peer may reach a field of the outcome;
-- - a resolve gives what its reference leads to, if the peer may reach the promise.
abbrev pub Gives : State → Command → Node → Type 0
Gives s (command.Call k) n = (goes_at_once s (map.get s.refs k.reference.0) ≡ false) × LedToBy s k.refs n
Gives s (command.Answer t payload refs) n = (o : ℕ) × (path : List Op) × (map.get s.tasks t.0 ≡ Some o) × MayReach s (node.Field o path) × LedToBy s refs n
Gives s (command.Resolve p r) n = (key : ℕ) × (map.get s.unsettled p.0 ≡ Some key) × MayReach s (node.Promise key) × LedToBy s (r ∷ []) n
Gives s c n = ⊥

-- The message opens the object to the peer: it is a Bootstrap, and that is the bootstrap object.
abbrev pub Opens : State → Message → ObjectId → Type 0
Opens s (message.Plain (plain.Bootstrap q)) o = s.bootstrap ≡ Some o
Opens s m o = ⊥
