-- What a vat holds, is commanded and delivers, with other numbers of its objects: `f` gives each object its other number.
use Rattle.std.specs.Prelude.{Option, None, Some, map}
use Rattle.finite_maps.specs.Tally.{map_values, option_changed}
use Rattle.rpc_msg.specs.declared.ids.ObjectId.{ObjectId}
use Rattle.rpc_msg.specs.declared.parts.Descriptor.{Descriptor}
use Rattle.rpc_journal.specs.declared.report.Delivery.{Delivery}
use Rattle.rpc_machine.specs.declared.node.Node.{Node}
use Rattle.rpc_machine.specs.declared.node.Node.TheVariants as node
use Rattle.rpc_machine.specs.declared.calls.Request.{Request}
use Rattle.rpc_machine.specs.declared.calls.WaitingCall.{WaitingCall}
use Rattle.rpc_machine.specs.declared.calls.HeldCall.{HeldCall}
use Rattle.rpc_machine.specs.declared.calls.Value.{Value}
use Rattle.rpc_machine.specs.declared.calls.Value.TheVariants as value
use Rattle.rpc_machine.specs.declared.calls.KeptOutcome.{KeptOutcome}
use Rattle.rpc_machine.specs.declared.calls.Promise.{Promise}
use Rattle.rpc_machine.specs.declared.calls.Promise.TheVariants as promise
use Rattle.rpc_machine.specs.declared.entries.Returned.{Returned}
use Rattle.rpc_machine.specs.declared.entries.Returned.TheVariants as back
use Rattle.rpc_machine.specs.declared.entries.Question.{Question}
use Rattle.rpc_machine.specs.declared.entries.Embargo.{Embargo}
use Rattle.rpc_machine.specs.declared.entries.Resolution.{Resolution}
use Rattle.rpc_machine.specs.declared.entries.Resolution.TheVariants as resolution
use Rattle.rpc_machine.specs.declared.entries.Import.{Import}
use Rattle.rpc_machine.specs.declared.entries.Export.{Export}
use Rattle.rpc_machine.specs.declared.entries.Reference.{Reference}
use Rattle.rpc_machine.specs.declared.command.Command.{Command}
use Rattle.rpc_machine.specs.declared.command.Command.TheVariants as command
use Rattle.rpc_machine.specs.declared.command.Effects.{Effects}
use Rattle.rpc_machine.specs.State.{State}

module _ (f : ObjectId → ObjectId) where
  abbrev pub root_by : Option ObjectId → Option ObjectId
  root_by None = None
  root_by (Some o) = Some (f o)

  abbrev pub node_by : Node → Node
  node_by (node.Object o) = node.Object (f o)
  node_by (node.Promise p) = node.Promise p
  node_by (node.Field o path) = node.Field o path
  node_by (node.Import e) = node.Import e
  node_by (node.Pipe q path) = node.Pipe q path
  node_by (node.Broken reason) = node.Broken reason

  abbrev pub request_by : Request → Request
  request_by r = record r { caps = map node_by r.caps }

  abbrev pub waiting_by : WaitingCall → WaitingCall
  waiting_by c = record c { request = request_by c.request }

  abbrev pub held_by : HeldCall → HeldCall
  held_by h = record h { call = waiting_by h.call }

  abbrev pub value_by : Value → Value
  value_by (value.Results payload caps) = value.Results payload (map node_by caps)
  value_by (value.Exception exception) = value.Exception exception

  abbrev pub kept_by : KeptOutcome → KeptOutcome
  kept_by x = record { caller = x.caller; value = option_changed value_by x.value; waiting = map held_by x.waiting }

  abbrev pub promise_by : Promise → Promise
  promise_by (promise.Open calls) = promise.Open (map waiting_by calls)
  promise_by (promise.Fixed to) = promise.Fixed (node_by to)

  abbrev pub embargo_by : Embargo → Embargo
  embargo_by x = record { reference = x.reference; node = node_by x.node; waiting = map waiting_by x.waiting }

  -- A descriptor, and its node.
  abbrev pub beside_by : Descriptor × Node → Descriptor × Node
  beside_by c = (c.0, node_by c.1)

  abbrev pub returned_by : Returned → Returned
  returned_by (back.Results payload caps) = back.Results payload (map beside_by caps)
  returned_by (back.Exception exception) = back.Exception exception

  abbrev pub question_by : Question → Question
  question_by x = record x { returned = option_changed returned_by x.returned }

  abbrev pub reference_by : Reference → Reference
  reference_by x = record x { head = node_by x.head }

  abbrev pub resolution_by : Resolution → Resolution
  resolution_by (resolution.To d n) = resolution.To d (node_by n)
  resolution_by (resolution.Exception exception) = resolution.Exception exception

  abbrev pub import_by : Import → Import
  import_by x = record x { resolution = option_changed resolution_by x.resolution }

  abbrev pub export_by : Export → Export
  export_by x = record x { node = node_by x.node }

  abbrev pub state_by : State → State
  state_by s = record s {
    bootstrap = root_by s.bootstrap;
    questions = map_values question_by s.questions;
    imports = map_values import_by s.imports;
    exports = map_values export_by s.exports;
    refs = map_values reference_by s.refs;
    promises = map_values promise_by s.promises;
    outcomes = map_values kept_by s.outcomes;
    embargoes = map_values embargo_by s.embargoes;
  }

  -- A call is delivered to the object by its other number.
  abbrev pub delivery_by : Delivery → Delivery
  delivery_by d = record d { object = f d.object }

  -- The messages that are sent stay as they are, and so do the ends of calls.
  abbrev pub effects_by : Effects → Effects
  effects_by e = record e { deliveries = map delivery_by e.deliveries }

  -- A Host is of the object by its other number.
  abbrev pub command_by : Command → Command
  command_by (command.Host o) = command.Host (f o)
  command_by (command.CloneRef r) = command.CloneRef r
  command_by (command.DropRef r) = command.DropRef r
  command_by command.Bootstrap = command.Bootstrap
  command_by (command.Call c) = command.Call c
  command_by (command.Field c path) = command.Field c path
  command_by command.Promise = command.Promise
  command_by (command.Resolve p r) = command.Resolve p r
  command_by (command.Reject p exception) = command.Reject p exception
  command_by (command.Answer t payload refs) = command.Answer t payload refs
  command_by (command.Fail t exception) = command.Fail t exception
  command_by (command.Finish c) = command.Finish c
  command_by (command.Advance r) = command.Advance r
  command_by (command.Shut n) = command.Shut n
