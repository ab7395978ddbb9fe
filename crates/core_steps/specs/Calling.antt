-- What a call takes that is made by an application, and when it ends at once.
use Rattle.std.specs.Prelude.{◌≡◌, ◌≤◌, Option, None, Some, IsSome, [], length, vec_capacity, string_capacity}
use Rattle.std.specs.FinMap as map
use Rattle.rpc_msg.specs.declared.exception.Exception.{Exception}
use Rattle.rpc_msg.specs.declared.ids.CallId.{CallId}
use Rattle.rpc_msg.specs.declared.ids.EmbargoId.{EmbargoId}
use Rattle.rpc_machine.specs.declared.command.CallCommand.{CallCommand}
use Rattle.rpc_machine.specs.declared.command.Command.TheVariants as command
use Rattle.rpc_machine.specs.declared.command.Granted.TheVariants as granted
use Rattle.rpc_machine.specs.declared.entries.Reference.{Reference}
use Rattle.rpc_machine.specs.declared.node.Node.{Node}
use Rattle.rpc_machine.specs.declared.node.Node.TheVariants as node
use Rattle.rpc_machine.specs.declared.node.Reason.{Reason}
use Rattle.rpc_machine.specs.Routing.{failed, reason_text}
use Rattle.rpc_machine.specs.State.{State}
use Rattle.rpc_machine.specs.Nodes.{settle}
use Rattle.rpc_machine.specs.Progress.{Progress, begin}
use Rattle.rpc_machine.specs.Commands.{Acts}
use Rattle.rpc_machine.specs.Settling.{Drains}
use Rattle.core_step_commands.specs.Prepared.{reason_limit, IsPrepared}
use Rattle.core_step_commands.specs.AtOnce.{EndsAtOnce}
use Rattle.core_steps.specs.declared.calls.Provided.{Provided}

-- Why a call ends at once that goes to where a node settles.
abbrev pub broken_by : Node → Option Reason
broken_by (node.Object o) = None
broken_by (node.Promise p) = None
broken_by (node.Field o path) = None
broken_by (node.Import e) = None
broken_by (node.Pipe q path) = None
broken_by (node.Broken reason) = Some reason

-- Under an embargo it waits.
abbrev pub broken_through : State → Node → Option EmbargoId → Option Reason
broken_through s head None = broken_by (settle s head)
broken_through s head (Some e) = None

abbrev pub broken_at : State → Option Reference → Option Reason
broken_at s None = None
broken_at s (Some x) = broken_through s x.head x.embargo

-- What the application is told then.
abbrev pub told_of : Option Reason → Option Exception
told_of None = None
told_of (Some reason) = Some (failed (reason_text reason))

-- The lists have room, a call that ends at once has room for why, and what the application is told at once is there.
pub record IsProvided (s : State) (c : CallCommand) (x : Provided) : Type 0 where
  pub prepared : IsPrepared (length c.refs) x.lists
  pub text_room : IsSome (broken_at s (map.get s.refs c.reference.0)) → reason_limit ≤ string_capacity x.lists.text
  pub no_nodes : x.nodes.items ≡ []
  pub room : length c.refs ≤ vec_capacity x.nodes
  pub told : x.told ≡ told_of (broken_at s (map.get s.refs c.reference.0))

-- Nothing arose, or the outcome of that call, which ends with this.
abbrev pub EndsIf : Progress → CallId → Option Exception → Type 0
EndsIf d call None = d.arisen ≡ []
EndsIf d call (Some told) = EndsAtOnce d call told

-- The call was made, and what arose thereby is settled.
abbrev pub IsMade : State → CallCommand → CallId → Progress → Type 0
IsMade s c call d = (acted : Progress) × Acts (begin s) (command.Call c) (granted.Call call) acted × Drains d acted
