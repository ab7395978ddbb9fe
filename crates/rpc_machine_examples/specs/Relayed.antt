-- A whole run: A calls what B's answer will give, which is A's own object. B sends the call back, and relays the Return
-- that it gets (docs/protocol.md, "Routing").
use Rattle.std.specs.Prelude.{◌≡◌, false, Option, None, Some, List, [], ◌∷◌}
use Rattle.rpc_msg.specs.Op.{Op}
use Rattle.rpc_msg.specs.Op.TheVariants.{Field}
use Rattle.rpc_msg.specs.declared.ids.Vat.TheVariants.{A, B}
use Rattle.rpc_msg.specs.declared.ids.ExportId.{ExportId}
use Rattle.rpc_msg.specs.declared.ids.Stamp.{Stamp}
use Rattle.rpc_msg.specs.declared.parts.Target.TheVariants.{ImportedCap, PromisedAnswer}
use Rattle.rpc_msg.specs.declared.parts.Descriptor.{Descriptor}
use Rattle.rpc_msg.specs.declared.parts.Descriptor.TheVariants as descriptor
use Rattle.rpc_msg.specs.declared.message.ReturnBody.TheVariants as body
use Rattle.rpc_msg.specs.declared.message.Message.{Message}
use Rattle.rpc_journal.specs.History.{Ref}
use Rattle.rpc_journal.specs.declared.report.Delivery.{Delivery}
use Rattle.rpc_journal.specs.declared.report.Ended.{Ended}
use Rattle.rpc_journal.specs.declared.report.Outcome.TheVariants as outcome
use Rattle.rpc_machine.specs.Payloads.{bootstrap_payload}
use Rattle.rpc_machine.specs.declared.node.Node.{Node}
use Rattle.rpc_machine.specs.declared.node.Node.TheVariants as node
use Rattle.rpc_machine.specs.declared.command.CallCommand.{CallCommand}
use Rattle.rpc_machine.specs.declared.command.Command.TheVariants as command
use Rattle.rpc_machine.specs.declared.command.Granted.TheVariants as granted
use Rattle.rpc_machine.specs.declared.entries.AnswerEntry.{AnswerEntry}
use Rattle.rpc_machine.specs.declared.entries.Finishing.TheVariants as finishing
use Rattle.rpc_machine.specs.declared.entries.Question.{Question}
use Rattle.rpc_machine.specs.declared.entries.Returned.{Returned}
use Rattle.rpc_machine.specs.declared.entries.Returned.TheVariants as back
use Rattle.rpc_machine.specs.declared.entries.Role.TheVariants as role
use Rattle.rpc_machine.specs.declared.entries.SenderKind.TheVariants as sender
use Rattle.rpc_machine.specs.declared.calls.HeldCall.{HeldCall}
use Rattle.rpc_machine.specs.declared.calls.KeptOutcome.{KeptOutcome}
use Rattle.rpc_machine.specs.declared.calls.Value.{Value}
use Rattle.rpc_machine.specs.declared.calls.Value.TheVariants as value
use Rattle.rpc_machine.specs.State.{State}
use Rattle.rpc_machine.specs.World.{World, Happening, Run, new_world}
use Rattle.rpc_machine.specs.Pending.{pending}
use Rattle.rpc_machine_examples.specs.Given.{m, null, one_field, ref_id, call_id, task_id, export_id, object_id, stamp_of, headed_by, direct, direct_with, asked_by, for_peer, bootstrap_message, call_message, return_message, finish_message, sending, delivering, telling, between, did, took}
use Rattle.rpc_machine_examples.specs.OneCall.{root_return, pipe, wire, root_said, root_import, root_value, root_answer, a_named, b_gave}

-- ---- Messages

abbrev pub path : List Op
path = Field 0 ∷ []

abbrev pub giving_call : CallCommand
giving_call = record { reference = ref_id 0; interface = 7; method = 1; payload = one_field; refs = ref_id 1 ∷ [] }

abbrev pub through_result : CallCommand
through_result = record { reference = ref_id 2; interface = 7; method = 2; payload = null; refs = [] }

abbrev pub given_as : Descriptor
given_as = descriptor.SenderHosted (export_id 0)

abbrev pub came_as : Descriptor
came_as = descriptor.ReceiverHosted (export_id 0)

abbrev pub stamp : Stamp
stamp = stamp_of A 2 0

abbrev pub giving_message : Message
giving_message = call_message 1 (PromisedAnswer (record { 0 = 0 }) []) 7 1 one_field (given_as ∷ []) (stamp_of A 0 0)

abbrev pub result_message : Message
result_message = call_message 2 (PromisedAnswer (record { 0 = 1 }) path) 7 2 null [] stamp

abbrev pub given_return : Message
given_return = return_message 1 false (body.Results one_field (came_as ∷ []))

abbrev pub relayed_call : Message
relayed_call = call_message 0 (ImportedCap (export_id 0)) 7 2 null [] stamp

abbrev pub own_return : Message
own_return = return_message 0 false (body.Results null [])

abbrev pub relayed_return : Message
relayed_return = return_message 2 false (body.Results null [])

abbrev pub giving_delivery : Delivery
giving_delivery = record { task = task_id 0; object = object_id 0; stamp = stamp_of A 0 0; interface = 7; method = 1; payload = one_field; refs = ref_id 0 ∷ [] }

abbrev pub relayed_delivery : Delivery
relayed_delivery = record { task = task_id 0; object = object_id 9; stamp = stamp; interface = 7; method = 2; payload = null; refs = [] }

abbrev pub root_told : Ended
root_told = record { call = call_id 0; outcome = outcome.Results bootstrap_payload; refs = ref_id 3 ∷ [] }

abbrev pub given_told : Ended
given_told = record { call = call_id 1; outcome = outcome.Results one_field; refs = ref_id 4 ∷ [] }

abbrev pub end_told : Ended
end_told = record { call = call_id 2; outcome = outcome.Results null; refs = [] }

-- ---- What A holds

abbrev pub object : Node
object = node.Object (object_id 9)

abbrev pub field_pipe : Node
field_pipe = node.Pipe (record { 0 = 1 }) path

abbrev pub a_hosted : State
a_hosted = record a_named { refs = m ((1, headed_by object 0) ∷ (0, headed_by pipe 0) ∷ []); next_ref = 2 }

abbrev pub asked_giving : Option Returned → Question
asked_giving said = record { role = role.Direct (call_id 1); given = export_id 0 ∷ []; returned = said; finish = finishing.Owed }

-- The call 1 gives the object, as the export 0.
abbrev pub a_gave : State
a_gave = record a_hosted {
  questions = m ((1, asked_giving None) ∷ (0, direct 0) ∷ []);
  calls = m ((1, asked_by 1) ∷ (0, asked_by 0) ∷ []);
  exports = m ((0, record { node = object; count = 1 }) ∷ []);
  refs = m ((1, headed_by object 0) ∷ (0, headed_by pipe 1) ∷ []);
  next_call = 2;
}

abbrev pub a_piped : State
a_piped = record a_gave { refs = m ((2, headed_by field_pipe 0) ∷ (1, headed_by object 0) ∷ (0, headed_by pipe 1) ∷ []); next_ref = 3 }

-- The call 2 goes to a field of what the call 1 will give.
abbrev pub a_again : State
a_again = record a_piped {
  questions = m ((2, direct 2) ∷ (1, asked_giving None) ∷ (0, direct 0) ∷ []);
  calls = m ((2, asked_by 2) ∷ (1, asked_by 1) ∷ (0, asked_by 0) ∷ []);
  refs = m ((2, headed_by field_pipe 1) ∷ (1, headed_by object 0) ∷ (0, headed_by pipe 1) ∷ []);
  next_call = 3;
}

abbrev pub a_root : State
a_root = record a_again {
  questions = m ((2, direct 2) ∷ (1, asked_giving None) ∷ (0, direct_with 0 (Some root_said)) ∷ []);
  imports = m ((0, root_import) ∷ []);
  refs = m ((3, headed_by wire 0) ∷ (2, headed_by field_pipe 1) ∷ (1, headed_by object 0) ∷ (0, headed_by pipe 1) ∷ []);
  next_ref = 4;
}

abbrev pub given_said : Returned
given_said = back.Results one_field ((came_as, object) ∷ [])

-- The call 1 gave A's own object back.
abbrev pub a_given : State
a_given = record a_root {
  questions = m ((2, direct 2) ∷ (1, asked_giving (Some given_said)) ∷ (0, direct_with 0 (Some root_said)) ∷ []);
  refs = m ((4, headed_by object 0) ∷ (3, headed_by wire 0) ∷ (2, headed_by field_pipe 1) ∷ (1, headed_by object 0) ∷ (0, headed_by pipe 1) ∷ []);
  next_ref = 5;
}

abbrev pub own_answer : Option (List ExportId) → AnswerEntry
own_answer returned = record { outcome = 0; taken = []; returned = returned; finished = false }

-- The call 2 came back, as a task at the object.
abbrev pub a_tasked : State
a_tasked = record a_given { answers = m ((0, own_answer None) ∷ []); outcomes = m ((0, for_peer 0 None) ∷ []); tasks = m ((0, 0) ∷ []); next_task = 1 }

abbrev pub empty_value : Value
empty_value = value.Results null []

abbrev pub a_answered : State
a_answered = record a_given { answers = m ((0, own_answer (Some [])) ∷ []); outcomes = m ((0, for_peer 0 (Some empty_value)) ∷ []); next_task = 1 }

-- It is told of its results.
abbrev pub a_told : State
a_told = record a_answered {
  questions = m ((2, direct_with 2 (Some (back.Results null []))) ∷ (1, asked_giving (Some given_said)) ∷ (0, direct_with 0 (Some root_said)) ∷ []);
}

-- The Finish of the relay has come.
abbrev pub a_last : State
a_last = record a_told { answers = m []; outcomes = m [] }

-- ---- What B holds

abbrev pub import_node : Node
import_node = node.Import (export_id 0)

abbrev pub giving_answer : Option (List ExportId) → AnswerEntry
giving_answer returned = record { outcome = 1; taken = export_id 0 ∷ []; returned = returned; finished = false }

-- The call 1 is a task, with a reference to A's object.
abbrev pub b_tasked : State
b_tasked = record b_gave {
  answers = m ((1, giving_answer None) ∷ (0, root_answer) ∷ []);
  outcomes = m ((1, for_peer 1 None) ∷ (0, for_peer 0 (Some root_value)) ∷ []);
  imports = m ((0, record { kind = sender.Hosted; count = 1; resolution = None }) ∷ []);
  refs = m ((0, headed_by import_node 0) ∷ []);
  tasks = m ((0, 1) ∷ []);
  next_ref = 1;
  next_task = 1;
}

abbrev pub held_call : HeldCall
held_call = record { path = path; call = record { request = record { stamp = stamp; interface = 7; method = 2; payload = null; caps = [] }; outcome = 2 } }

abbrev pub result_answer : Option (List ExportId) → AnswerEntry
result_answer returned = record { outcome = 2; taken = []; returned = returned; finished = false }

abbrev pub waited_for : KeptOutcome
waited_for = record (for_peer 1 None) { waiting = held_call ∷ [] }

-- The call 2 waits for its outcome.
abbrev pub b_held : State
b_held = record b_tasked {
  answers = m ((2, result_answer None) ∷ (1, giving_answer None) ∷ (0, root_answer) ∷ []);
  outcomes = m ((2, for_peer 2 None) ∷ (1, waited_for) ∷ (0, for_peer 0 (Some root_value)) ∷ []);
}

abbrev pub given_value : Value
given_value = value.Results one_field (import_node ∷ [])

abbrev pub relay : Question
relay = record { role = role.Relay 2; given = []; returned = None; finish = finishing.Owed }

-- The call 1 is answered, and the call 2 went on to the import.
abbrev pub b_relays : State
b_relays = record b_held {
  questions = m ((0, relay) ∷ []);
  answers = m ((2, result_answer None) ∷ (1, giving_answer (Some [])) ∷ (0, root_answer) ∷ []);
  outcomes = m ((2, for_peer 2 None) ∷ (1, for_peer 1 (Some given_value)) ∷ (0, for_peer 0 (Some root_value)) ∷ []);
  tasks = m [];
}

-- What came back is the outcome of the call 2. The relay is over.
abbrev pub b_relayed : State
b_relayed = record b_relays {
  questions = m [];
  answers = m ((2, result_answer (Some [])) ∷ (1, giving_answer (Some [])) ∷ (0, root_answer) ∷ []);
  outcomes = m ((2, for_peer 2 (Some empty_value)) ∷ (1, for_peer 1 (Some given_value)) ∷ (0, for_peer 0 (Some root_value)) ∷ []);
}

-- ---- What happens

abbrev pub events : List Happening
events =
    did A command.Bootstrap (granted.Call (call_id 0)) (sending (bootstrap_message 0 ∷ []))
    ∷ did A (command.Field (call_id 0) []) (granted.Reference (ref_id 0)) (sending [])
    ∷ did A (command.Host (object_id 9)) (granted.Reference (ref_id 1)) (sending [])
    ∷ did A (command.Call giving_call) (granted.Call (call_id 1)) (sending (giving_message ∷ []))
    ∷ did A (command.Field (call_id 1) path) (granted.Reference (ref_id 2)) (sending [])
    ∷ did A (command.Call through_result) (granted.Call (call_id 2)) (sending (result_message ∷ []))
    ∷ took B (sending (root_return ∷ []))
    ∷ took B (delivering (giving_delivery ∷ []))
    ∷ took B (sending [])
    ∷ did B (command.Answer (task_id 0) one_field (ref_id 0 ∷ [])) granted.Done (sending (given_return ∷ relayed_call ∷ []))
    ∷ took A (telling (root_told ∷ []))
    ∷ took A (telling (given_told ∷ []))
    ∷ []

abbrev pub coming_back : List Happening
coming_back =
    took A (delivering (relayed_delivery ∷ []))
    ∷ did A (command.Answer (task_id 0) null []) granted.Done (sending (own_return ∷ []))
    ∷ took B (sending (relayed_return ∷ finish_message 0 false ∷ []))
    ∷ took A (telling (end_told ∷ []))
    ∷ took A (sending [])
    ∷ []

abbrev pub on_its_way : World
on_its_way = between a_given (relayed_call ∷ []) b_relays []

abbrev pub all_over : World
all_over = between a_last [] b_relayed []

abbrev pub the_ref : Ref
the_ref = record { vat = A; number = 2 }

pub record IsRelayed : Type 0 where
  pub goes : Run (new_world None (Some (object_id 0))) events on_its_way
  pub comes_back : Run on_its_way coming_back all_over
  pub pending_still : pending on_its_way the_ref ≡ stamp ∷ []
  pub pending_no_more : pending all_over the_ref ≡ []
