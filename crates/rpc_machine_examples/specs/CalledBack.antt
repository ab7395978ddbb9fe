-- A run: A gives an object twice with one call, and B calls it, giving it itself. What A gets is its own object. B drops
-- what it was given, and the Return takes both back by its flag: the export goes. A's own references last (docs/protocol.md,
-- "Descriptors", "Places" and "Release by flag").
use Rattle.std.specs.Prelude.{codes, ℕ, true, false, Option, None, Some, List, [], ◌∷◌}
use Rattle.rpc_msg.specs.declared.ids.Vat.TheVariants.{A, B}
use Rattle.rpc_msg.specs.declared.ids.ExportId.{ExportId}
use Rattle.rpc_msg.specs.declared.exception.Exception.{Exception}
use Rattle.rpc_msg.specs.declared.parts.Target.TheVariants.{ImportedCap, PromisedAnswer}
use Rattle.rpc_msg.specs.declared.parts.Descriptor.TheVariants as descriptor
use Rattle.rpc_msg.specs.declared.message.ReturnBody.TheVariants as body
use Rattle.rpc_msg.specs.declared.message.Message.{Message}
use Rattle.rpc_journal.specs.declared.report.Delivery.{Delivery}
use Rattle.rpc_journal.specs.declared.report.Ended.{Ended}
use Rattle.rpc_journal.specs.declared.report.Outcome.TheVariants as outcome
use Rattle.rpc_machine.specs.Payloads.{bootstrap_payload}
use Rattle.rpc_machine.specs.Routing.{failed}
use Rattle.rpc_machine.specs.declared.node.Node.{Node}
use Rattle.rpc_machine.specs.declared.node.Node.TheVariants as node
use Rattle.rpc_machine.specs.declared.command.CallCommand.{CallCommand}
use Rattle.rpc_machine.specs.declared.command.Command.TheVariants as command
use Rattle.rpc_machine.specs.declared.command.Granted.TheVariants as granted
use Rattle.rpc_machine.specs.declared.calls.Value.{Value}
use Rattle.rpc_machine.specs.declared.calls.Value.TheVariants as value
use Rattle.rpc_machine.specs.declared.entries.AnswerEntry.{AnswerEntry}
use Rattle.rpc_machine.specs.declared.entries.Finishing.TheVariants as finishing
use Rattle.rpc_machine.specs.declared.entries.Import.{Import}
use Rattle.rpc_machine.specs.declared.entries.Question.{Question}
use Rattle.rpc_machine.specs.declared.entries.Returned.{Returned}
use Rattle.rpc_machine.specs.declared.entries.Returned.TheVariants as back
use Rattle.rpc_machine.specs.declared.entries.Role.TheVariants as role
use Rattle.rpc_machine.specs.declared.entries.SenderKind.TheVariants as sender
use Rattle.rpc_machine.specs.State.{State}
use Rattle.rpc_machine.specs.World.{World, Happening, Run, new_world}
use Rattle.rpc_machine_examples.specs.Given.{m, null, one_field, two_fields, ref_id, call_id, task_id, question_id, export_id, object_id, stamp_of, headed_by, direct, direct_with, asked_by, for_peer, bootstrap_message, call_message, return_message, sending, delivering, telling, between, did, took}
use Rattle.rpc_machine_examples.specs.OneCall.{root_return, pipe, wire, root_said, root_import, root_value, root_answer, a_named, b_gave}
use Rattle.rpc_machine_examples.specs.GivenBack.{HasCounts}

-- ---- Messages

abbrev pub giving_call : CallCommand
giving_call = record { reference = ref_id 0; interface = 7; method = 2; payload = two_fields; refs = ref_id 1 ∷ ref_id 1 ∷ [] }

abbrev pub giving_message : Message
giving_message = call_message 1 (PromisedAnswer (question_id 0) []) 7 2 two_fields (descriptor.SenderHosted (export_id 0) ∷ descriptor.SenderHosted (export_id 0) ∷ []) (stamp_of A 0 0)

abbrev pub giving_delivery : Delivery
giving_delivery = record { task = task_id 0; object = object_id 0; stamp = stamp_of A 0 0; interface = 7; method = 2; payload = two_fields; refs = ref_id 0 ∷ ref_id 1 ∷ [] }

-- B's call to the object, which gives the object.
abbrev pub call_back : CallCommand
call_back = record { reference = ref_id 0; interface = 1; method = 1; payload = one_field; refs = ref_id 1 ∷ [] }

abbrev pub message_back : Message
message_back = call_message 0 (ImportedCap (export_id 0)) 1 1 one_field (descriptor.ReceiverHosted (export_id 0) ∷ []) (stamp_of B 0 0)

abbrev pub delivery_back : Delivery
delivery_back = record { task = task_id 0; object = object_id 5; stamp = stamp_of B 0 0; interface = 1; method = 1; payload = one_field; refs = ref_id 3 ∷ [] }

abbrev pub returned : Message
returned = return_message 1 true (body.Results null [])

abbrev pub why : Exception
why = failed (codes "x")

abbrev pub failed_back : Message
failed_back = return_message 0 false (body.Exception why)

abbrev pub root_told : Ended
root_told = record { call = call_id 0; outcome = outcome.Results bootstrap_payload; refs = ref_id 2 ∷ [] }

abbrev pub end_told : Ended
end_told = record { call = call_id 1; outcome = outcome.Results null; refs = [] }

abbrev pub failure_told : Ended
failure_told = record { call = call_id 0; outcome = outcome.Exception why; refs = [] }

-- ---- What A holds

abbrev pub object : Node
object = node.Object (object_id 5)

abbrev pub a_hosted : State
a_hosted = record a_named { refs = m ((1, headed_by object 0) ∷ (0, headed_by pipe 0) ∷ []); next_ref = 2 }

abbrev pub asked_giving : Option Returned → Question
asked_giving said = record { role = role.Direct (call_id 1); given = export_id 0 ∷ export_id 0 ∷ []; returned = said; finish = finishing.Owed }

-- The call 1 gives the object twice, as the export 0.
abbrev pub a_gave : State
a_gave = record a_hosted {
  questions = m ((1, asked_giving None) ∷ (0, direct 0) ∷ []);
  calls = m ((1, asked_by 1) ∷ (0, asked_by 0) ∷ []);
  exports = m ((0, record { node = object; count = 2 }) ∷ []);
  refs = m ((1, headed_by object 0) ∷ (0, headed_by pipe 1) ∷ []);
  next_call = 2;
}

abbrev pub a_root : State
a_root = record a_gave {
  questions = m ((1, asked_giving None) ∷ (0, direct_with 0 (Some root_said)) ∷ []);
  imports = m ((0, root_import) ∷ []);
  refs = m ((2, headed_by wire 0) ∷ (1, headed_by object 0) ∷ (0, headed_by pipe 1) ∷ []);
  next_ref = 3;
}

abbrev pub own_answer : Option (List ExportId) → AnswerEntry
own_answer returned = record { outcome = 0; taken = []; returned = returned; finished = false }

-- B's call is a task, with a new reference to the object.
abbrev pub a_tasked : State
a_tasked = record a_root {
  answers = m ((0, own_answer None) ∷ []);
  outcomes = m ((0, for_peer 0 None) ∷ []);
  refs = m ((3, headed_by object 0) ∷ (2, headed_by wire 0) ∷ (1, headed_by object 0) ∷ (0, headed_by pipe 1) ∷ []);
  tasks = m ((0, 0) ∷ []);
  next_ref = 4;
  next_task = 1;
}

-- The Return has come: the export is gone.
abbrev pub a_took_back : State
a_took_back = record a_tasked {
  questions = m ((1, asked_giving (Some (back.Results null []))) ∷ (0, direct_with 0 (Some root_said)) ∷ []);
  exports = m [];
}

abbrev pub a_cloned : State
a_cloned = record a_took_back {
  refs = m ((4, headed_by object 0) ∷ (3, headed_by object 0) ∷ (2, headed_by wire 0) ∷ (1, headed_by object 0) ∷ (0, headed_by pipe 1) ∷ []);
  next_ref = 5;
}

abbrev pub failure : Value
failure = value.Exception why

abbrev pub a_failed : State
a_failed = record a_cloned { answers = m ((0, own_answer (Some [])) ∷ []); outcomes = m ((0, for_peer 0 (Some failure)) ∷ []); tasks = m [] }

-- ---- What B holds

abbrev pub import_node : Node
import_node = node.Import (export_id 0)

abbrev pub received : ℕ → Import
received n = record { kind = sender.Hosted; count = n; resolution = None }

abbrev pub giving_answer : Option (List ExportId) → AnswerEntry
giving_answer returned = record { outcome = 1; taken = export_id 0 ∷ export_id 0 ∷ []; returned = returned; finished = false }

-- The call 1 is a task, with two references to A's object.
abbrev pub b_tasked : State
b_tasked = record b_gave {
  answers = m ((1, giving_answer None) ∷ (0, root_answer) ∷ []);
  outcomes = m ((1, for_peer 1 None) ∷ (0, for_peer 0 (Some root_value)) ∷ []);
  imports = m ((0, received 2) ∷ []);
  refs = m ((1, headed_by import_node 0) ∷ (0, headed_by import_node 0) ∷ []);
  tasks = m ((0, 1) ∷ []);
  next_ref = 2;
  next_task = 1;
}

abbrev pub b_called : State
b_called = record b_tasked {
  questions = m ((0, direct 0) ∷ []);
  calls = m ((0, asked_by 0) ∷ []);
  refs = m ((1, headed_by import_node 0) ∷ (0, headed_by import_node 1) ∷ []);
  next_call = 1;
}

abbrev pub b_one_dropped : State
b_one_dropped = record b_called { refs = m ((1, headed_by import_node 0) ∷ []) }

abbrev pub b_dropped : State
b_dropped = record b_one_dropped { refs = m [] }

abbrev pub empty_value : Value
empty_value = value.Results null []

-- The call 1 is answered: the import is gone.
abbrev pub b_returned : State
b_returned = record b_dropped {
  answers = m ((1, giving_answer (Some [])) ∷ (0, root_answer) ∷ []);
  outcomes = m ((1, for_peer 1 (Some empty_value)) ∷ (0, for_peer 0 (Some root_value)) ∷ []);
  imports = m [];
  tasks = m [];
}

-- B's own call has ended.
abbrev pub b_told : State
b_told = record b_returned { questions = m ((0, direct_with 0 (Some (back.Exception why))) ∷ []) }

-- ---- What happens

-- B's call is a task at the object.
abbrev pub called_back : World
called_back = between a_tasked [] b_called []

-- Both references are dropped; the Return is on its way; it has come.
abbrev pub both_dropped : World
both_dropped = between a_tasked [] b_dropped []

abbrev pub given_back : World
given_back = between a_tasked (returned ∷ []) b_returned []

abbrev pub taken_back : World
taken_back = between a_took_back [] b_returned []

abbrev pub over : World
over = between a_failed [] b_told []

abbrev pub calling : List Happening
calling =
    did A command.Bootstrap (granted.Call (call_id 0)) (sending (bootstrap_message 0 ∷ []))
    ∷ did A (command.Field (call_id 0) []) (granted.Reference (ref_id 0)) (sending [])
    ∷ did A (command.Host (object_id 5)) (granted.Reference (ref_id 1)) (sending [])
    ∷ did A (command.Call giving_call) (granted.Call (call_id 1)) (sending (giving_message ∷ []))
    ∷ took B (sending (root_return ∷ []))
    ∷ took B (delivering (giving_delivery ∷ []))
    ∷ did B (command.Call call_back) (granted.Call (call_id 0)) (sending (message_back ∷ []))
    ∷ took A (telling (root_told ∷ []))
    ∷ took A (delivering (delivery_back ∷ []))
    ∷ []

abbrev pub letting_go : List Happening
letting_go =
    did B (command.DropRef (ref_id 0)) granted.Done (sending [])
    ∷ did B (command.DropRef (ref_id 1)) granted.Done (sending [])
    ∷ did B (command.Answer (task_id 0) null []) granted.Done (sending (returned ∷ []))
    ∷ took A (telling (end_told ∷ []))
    ∷ did A (command.CloneRef (ref_id 1)) (granted.Reference (ref_id 4)) (sending [])
    ∷ did A (command.Fail (task_id 0) why) granted.Done (sending (failed_back ∷ []))
    ∷ took B (telling (failure_told ∷ []))
    ∷ []

pub record IsCalledBack : Type 0 where
  pub calls : Run (new_world None (Some (object_id 0))) calling called_back
  pub lets_go : Run called_back letting_go over
  pub counts_called : HasCounts called_back 2 2 0
  pub counts_dropped : HasCounts both_dropped 2 2 0
  pub counts_given_back : HasCounts given_back 2 0 2
  pub counts_taken_back : HasCounts taken_back 0 0 0
