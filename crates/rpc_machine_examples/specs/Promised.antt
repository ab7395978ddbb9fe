-- A run: B answers a call with what a call of its own will give, and tells A what that is once it knows. A's reference
-- switches to it, and the promise goes by a flag (docs/protocol.md, "Settling" and "Shortening a path").
use Rattle.std.specs.Prelude.{true, false, Option, None, Some, List, [], ◌∷◌}
use Rattle.rpc_msg.specs.Op.{Op}
use Rattle.rpc_msg.specs.Op.TheVariants.{Field}
use Rattle.rpc_msg.specs.declared.ids.Vat.TheVariants.{A, B}
use Rattle.rpc_msg.specs.declared.parts.Descriptor.{Descriptor}
use Rattle.rpc_msg.specs.declared.parts.Descriptor.TheVariants as descriptor
use Rattle.rpc_msg.specs.declared.message.ReturnBody.TheVariants as body
use Rattle.rpc_msg.specs.declared.message.ResolvedTo.TheVariants as resolved
use Rattle.rpc_msg.specs.declared.message.PlainMessage.TheVariants as plain
use Rattle.rpc_msg.specs.declared.message.Message.{Message}
use Rattle.rpc_msg.specs.declared.message.Message.TheVariants as message
use Rattle.rpc_journal.specs.declared.report.Advanced.TheVariants as advanced
use Rattle.rpc_journal.specs.declared.report.Delivery.{Delivery}
use Rattle.rpc_journal.specs.declared.report.Ended.{Ended}
use Rattle.rpc_journal.specs.declared.report.Outcome.TheVariants as outcome
use Rattle.rpc_machine.specs.declared.node.Node.{Node}
use Rattle.rpc_machine.specs.declared.node.Node.TheVariants as node
use Rattle.rpc_machine.specs.declared.command.CallCommand.{CallCommand}
use Rattle.rpc_machine.specs.declared.command.Command.TheVariants as command
use Rattle.rpc_machine.specs.declared.command.Effects.{Effects}
use Rattle.rpc_machine.specs.declared.command.Granted.TheVariants as granted
use Rattle.rpc_machine.specs.declared.entries.Export.{Export}
use Rattle.rpc_machine.specs.declared.entries.Import.{Import}
use Rattle.rpc_machine.specs.declared.entries.Resolution.{Resolution}
use Rattle.rpc_machine.specs.declared.entries.Resolution.TheVariants as resolution
use Rattle.rpc_machine.specs.declared.entries.Returned.{Returned}
use Rattle.rpc_machine.specs.declared.entries.Returned.TheVariants as back
use Rattle.rpc_machine.specs.declared.entries.SenderKind.TheVariants as sender
use Rattle.rpc_machine.specs.declared.calls.Caller.TheVariants as caller
use Rattle.rpc_machine.specs.declared.calls.KeptOutcome.{KeptOutcome}
use Rattle.rpc_machine.specs.declared.calls.OwnCall.TheVariants as own
use Rattle.rpc_machine.specs.declared.calls.Value.{Value}
use Rattle.rpc_machine.specs.declared.calls.Value.TheVariants as value
use Rattle.rpc_machine.specs.State.{State}
use Rattle.rpc_machine.specs.World.{World, Happening, Run, new_world}
use Rattle.rpc_machine_examples.specs.Given.{m, bootstrap_message, null, one_field, ref_id, call_id, task_id, export_id, object_id, stamp_of, headed_by, direct_with, asked_by, for_peer, return_message, finish_message, sending, delivering, telling, between, did, took}
use Rattle.rpc_machine_examples.specs.OneCall.{first_call, the_call, delivery, root_return, root_told, root_said, root_import, root_value, root_answer, call_answer, pipe, wire, object, a_called, a_told, b_tasked}

-- ---- Messages

abbrev pub path : List Op
path = Field 0 ∷ []

abbrev pub local_call : CallCommand
local_call = record { reference = ref_id 0; interface = 1; method = 1; payload = null; refs = [] }

abbrev pub promised_as : Descriptor
promised_as = descriptor.SenderPromise (export_id 1)

abbrev pub hosted_as : Descriptor
hosted_as = descriptor.SenderHosted (export_id 2)

abbrev pub promising : Message
promising = return_message 1 false (body.Results one_field (promised_as ∷ []))

abbrev pub resolve : Message
resolve = message.Plain (plain.Resolve (record { promise = export_id 1; to = resolved.Cap hosted_as }))

abbrev pub local_delivery : Delivery
local_delivery = record { task = task_id 1; object = object_id 3; stamp = stamp_of B 0 0; interface = 1; method = 1; payload = null; refs = [] }

abbrev pub local_told : Ended
local_told = record { call = call_id 0; outcome = outcome.Results one_field; refs = ref_id 3 ∷ [] }

abbrev pub promise_told : Ended
promise_told = record { call = call_id 1; outcome = outcome.Results one_field; refs = ref_id 2 ∷ [] }

abbrev pub resolving : Effects
resolving = record { sends = resolve ∷ []; deliveries = []; answers = local_told ∷ []; down = None }

-- ---- What B holds

abbrev pub object_3 : Node
object_3 = node.Object (object_id 3)

abbrev pub object_4 : Node
object_4 = node.Object (object_id 4)

abbrev pub result : Node
result = node.Field 2 path

abbrev pub export : Node → Export
export n = record { node = n; count = 1 }

abbrev pub b1 : State
b1 = record b_tasked { refs = m ((0, headed_by object_3 0) ∷ []); next_ref = 1 }

abbrev pub own_outcome : Option Value → KeptOutcome
own_outcome v = record { caller = caller.Application (call_id 0); value = v; waiting = [] }

-- A call to an object of its own.
abbrev pub b2 : State
b2 = record b1 {
  outcomes = m ((2, own_outcome None) ∷ (1, for_peer 1 None) ∷ (0, for_peer 0 (Some root_value)) ∷ []);
  calls = m ((0, own.Kept 2) ∷ []);
  refs = m ((0, headed_by object_3 1) ∷ []);
  tasks = m ((1, 2) ∷ (0, 1) ∷ []);
  next_call = 1;
  next_task = 2;
}

abbrev pub b3 : State
b3 = record b2 { refs = m ((1, headed_by result 0) ∷ (0, headed_by object_3 1) ∷ []); next_ref = 2 }

abbrev pub promised_value : Value
promised_value = value.Results one_field (result ∷ [])

-- A's call is answered with its result, the export 1.
abbrev pub b4 : State
b4 = record b3 {
  answers = m ((1, call_answer (Some (export_id 1 ∷ []))) ∷ (0, root_answer) ∷ []);
  outcomes = m ((2, own_outcome None) ∷ (1, for_peer 1 (Some promised_value)) ∷ (0, for_peer 0 (Some root_value)) ∷ []);
  exports = m ((1, export result) ∷ (0, export object) ∷ []);
  tasks = m ((1, 2) ∷ []);
}

abbrev pub b5 : State
b5 = record b4 { refs = m ((2, headed_by object_4 0) ∷ (1, headed_by result 0) ∷ (0, headed_by object_3 1) ∷ []); next_ref = 3 }

abbrev pub known_value : Value
known_value = value.Results one_field (object_4 ∷ [])

-- The own call is answered: its result is the object 4, the export 2.
abbrev pub b6 : State
b6 = record b5 {
  outcomes = m ((2, own_outcome (Some known_value)) ∷ (1, for_peer 1 (Some promised_value)) ∷ (0, for_peer 0 (Some root_value)) ∷ []);
  exports = m ((2, export object_4) ∷ (1, export result) ∷ (0, export object) ∷ []);
  refs = m ((3, headed_by object_4 0) ∷ (2, headed_by object_4 0) ∷ (1, headed_by result 0) ∷ (0, headed_by object_3 1) ∷ []);
  tasks = m [];
  next_ref = 4;
}

-- A's call is finished, and the promise taken back.
abbrev pub b7 : State
b7 = record b6 {
  answers = m ((0, root_answer) ∷ []);
  outcomes = m ((2, own_outcome (Some known_value)) ∷ (0, for_peer 0 (Some root_value)) ∷ []);
  exports = m ((2, export object_4) ∷ (0, export object) ∷ []);
}

-- ---- What A holds

abbrev pub promise_wire : Node
promise_wire = node.Import (export_id 1)

abbrev pub object_wire : Node
object_wire = node.Import (export_id 2)

abbrev pub promised : Option Resolution → Import
promised said = record { kind = sender.Promise; count = 1; resolution = said }

abbrev pub hosted : Import
hosted = record { kind = sender.Hosted; count = 1; resolution = None }

abbrev pub promise_said : Returned
promise_said = back.Results one_field ((promised_as, promise_wire) ∷ [])

abbrev pub a1 : State
a1 = record a_told {
  questions = m ((1, direct_with 1 (Some promise_said)) ∷ (0, direct_with 0 (Some root_said)) ∷ []);
  imports = m ((1, promised None) ∷ (0, root_import) ∷ []);
  refs = m ((2, headed_by promise_wire 0) ∷ (1, headed_by wire 0) ∷ (0, headed_by pipe 1) ∷ []);
  next_ref = 3;
}

abbrev pub to_object : Resolution
to_object = resolution.To hosted_as object_wire

abbrev pub a2 : State
a2 = record a1 { imports = m ((2, hosted) ∷ (1, promised (Some to_object)) ∷ (0, root_import) ∷ []) }

abbrev pub a3 : State
a3 = record a2 { refs = m ((2, headed_by object_wire 0) ∷ (1, headed_by wire 0) ∷ (0, headed_by pipe 1) ∷ []) }

-- The call is finished: only its question named the promise.
abbrev pub a4 : State
a4 = record a3 {
  questions = m ((0, direct_with 0 (Some root_said)) ∷ []);
  imports = m ((2, hosted) ∷ (0, root_import) ∷ []);
  calls = m ((0, asked_by 0) ∷ []);
}

-- ---- What happens

abbrev pub tasked : World
tasked = between a_called (root_return ∷ []) b_tasked []

abbrev pub over : World
over = between a4 [] b7 []

abbrev pub events : List Happening
events =
    did B (command.Host (object_id 3)) (granted.Reference (ref_id 0)) (sending [])
    ∷ did B (command.Call local_call) (granted.Call (call_id 0)) (delivering (local_delivery ∷ []))
    ∷ did B (command.Field (call_id 0) path) (granted.Reference (ref_id 1)) (sending [])
    ∷ did B (command.Answer (task_id 0) one_field (ref_id 1 ∷ [])) granted.Done (sending (promising ∷ []))
    ∷ did B (command.Host (object_id 4)) (granted.Reference (ref_id 2)) (sending [])
    ∷ did B (command.Answer (task_id 1) one_field (ref_id 2 ∷ [])) granted.Done resolving
    ∷ took A (telling (root_told ∷ []))
    ∷ took A (telling (promise_told ∷ []))
    ∷ took A (sending [])
    ∷ did A (command.Advance (ref_id 2)) (granted.Advanced advanced.Switched) (sending [])
    ∷ did A (command.Finish (call_id 1)) granted.Done (sending (finish_message 1 true ∷ []))
    ∷ took B (sending [])
    ∷ []

-- Until A's call is a task at B.
abbrev pub beginning : List Happening
beginning =
    did A command.Bootstrap (granted.Call (call_id 0)) (sending (bootstrap_message 0 ∷ []))
    ∷ did A (command.Field (call_id 0) []) (granted.Reference (ref_id 0)) (sending [])
    ∷ did A (command.Call first_call) (granted.Call (call_id 1)) (sending (the_call ∷ []))
    ∷ took B (sending (root_return ∷ []))
    ∷ took B (delivering (delivery ∷ []))
    ∷ []

pub record IsPromised : Type 0 where
  pub begins : Run (new_world None (Some (object_id 0))) beginning tasked
  pub goes_on : Run tasked events over
