-- A whole run: A asks for B's bootstrap object, names its field, calls it before that is known, is told the results of
-- both, and has no more use for any of it (docs/protocol.md, "The end of a step").
use Rattle.std.specs.Prelude.{◌≡◌, true, false, Option, None, Some, List, [], ◌∷◌}
use Rattle.rpc_msg.specs.declared.ids.Vat.TheVariants.{A, B}
use Rattle.rpc_msg.specs.declared.ids.ExportId.{ExportId}
use Rattle.rpc_msg.specs.declared.parts.Target.TheVariants.{PromisedAnswer}
use Rattle.rpc_msg.specs.declared.parts.Descriptor.{Descriptor}
use Rattle.rpc_msg.specs.declared.parts.Descriptor.TheVariants as descriptor
use Rattle.rpc_msg.specs.declared.message.ReturnBody.TheVariants as body
use Rattle.rpc_msg.specs.declared.message.Message.{Message}
use Rattle.rpc_journal.specs.declared.report.Delivery.{Delivery}
use Rattle.rpc_journal.specs.declared.report.Ended.{Ended}
use Rattle.rpc_journal.specs.declared.report.Outcome.TheVariants as outcome
use Rattle.rpc_journal.specs.declared.entry.Origin.TheVariants as origin
use Rattle.rpc_journal.specs.declared.entry.JournalEntry.{JournalEntry}
use Rattle.rpc_journal.specs.declared.entry.JournalEntry.TheVariants as entry
use Rattle.rpc_machine.specs.Payloads.{bootstrap_payload}
use Rattle.rpc_machine.specs.declared.node.Node.{Node}
use Rattle.rpc_machine.specs.declared.node.Node.TheVariants as node
use Rattle.rpc_machine.specs.declared.command.CallCommand.{CallCommand}
use Rattle.rpc_machine.specs.declared.command.Command.TheVariants as command
use Rattle.rpc_machine.specs.declared.command.Granted.TheVariants as granted
use Rattle.rpc_machine.specs.declared.command.Level.TheVariants.{One}
use Rattle.rpc_machine.specs.declared.command.Refusal.TheVariants as refusal
use Rattle.rpc_machine.specs.declared.entries.AnswerEntry.{AnswerEntry}
use Rattle.rpc_machine.specs.declared.entries.Import.{Import}
use Rattle.rpc_machine.specs.declared.entries.Returned.{Returned}
use Rattle.rpc_machine.specs.declared.entries.Returned.TheVariants as back
use Rattle.rpc_machine.specs.declared.entries.SenderKind.TheVariants as sender
use Rattle.rpc_machine.specs.declared.calls.Value.{Value}
use Rattle.rpc_machine.specs.declared.calls.Value.TheVariants as value
use Rattle.rpc_machine.specs.State.{State, start}
use Rattle.rpc_machine.specs.World.{World, Happening, Run, new_world}
use Rattle.rpc_machine.specs.Journal.{journal}
use Rattle.rpc_machine_examples.specs.Given.{m, null, ref_id, call_id, task_id, export_id, object_id, stamp_of, headed_by, direct, direct_with, asked_by, for_peer, bootstrap_message, call_message, return_message, finish_message, release_message, sending, delivering, telling, between, did, refused_with, took}

-- ---- Messages

abbrev pub root_descriptor : Descriptor
root_descriptor = descriptor.SenderHosted (export_id 0)

abbrev pub root_return : Message
root_return = return_message 0 false (body.Results bootstrap_payload (root_descriptor ∷ []))

abbrev pub the_call : Message
the_call = call_message 1 (PromisedAnswer (record { 0 = 0 }) []) 7 1 null [] (stamp_of A 0 0)

abbrev pub empty_return : Message
empty_return = return_message 1 false (body.Results null [])

abbrev pub delivery : Delivery
delivery = record { task = task_id 0; object = object_id 0; stamp = stamp_of A 0 0; interface = 7; method = 1; payload = null; refs = [] }

abbrev pub root_told : Ended
root_told = record { call = call_id 0; outcome = outcome.Results bootstrap_payload; refs = ref_id 1 ∷ [] }

abbrev pub end_told : Ended
end_told = record { call = call_id 1; outcome = outcome.Results null; refs = [] }

abbrev pub first_call : CallCommand
first_call = record { reference = ref_id 0; interface = 7; method = 1; payload = null; refs = [] }

-- ---- What A holds

abbrev pub pipe : Node
pipe = node.Pipe (record { 0 = 0 }) []

abbrev pub wire : Node
wire = node.Import (export_id 0)

abbrev pub root_said : Returned
root_said = back.Results bootstrap_payload ((root_descriptor, wire) ∷ [])

abbrev pub end_said : Returned
end_said = back.Results null []

abbrev pub root_import : Import
root_import = record { kind = sender.Hosted; count = 1; resolution = None }

-- The Bootstrap is the question 0, of the call 0.
abbrev pub a_asked : State
a_asked = record (start A One None) { questions = m ((0, direct 0) ∷ []); calls = m ((0, asked_by 0) ∷ []); next_call = 1 }

-- The reference 0 is headed by its field.
abbrev pub a_named : State
a_named = record a_asked { refs = m ((0, headed_by pipe 0) ∷ []); next_ref = 1 }

-- The call through it is the question 1.
abbrev pub a_called : State
a_called = record a_named {
  questions = m ((1, direct 1) ∷ (0, direct 0) ∷ []);
  calls = m ((1, asked_by 1) ∷ (0, asked_by 0) ∷ []);
  refs = m ((0, headed_by pipe 1) ∷ []);
  next_call = 2;
}

-- The Bootstrap's Return has come, and gave the reference 1, an import.
abbrev pub a_told : State
a_told = record a_called {
  questions = m ((1, direct 1) ∷ (0, direct_with 0 (Some root_said)) ∷ []);
  imports = m ((0, root_import) ∷ []);
  refs = m ((1, headed_by wire 0) ∷ (0, headed_by pipe 1) ∷ []);
  next_ref = 2;
}

-- The Return of the call has come.
abbrev pub a_ended : State
a_ended = record a_told { questions = m ((1, direct_with 1 (Some end_said)) ∷ (0, direct_with 0 (Some root_said)) ∷ []) }

-- The call 1 is finished, and with it its question.
abbrev pub a_finished : State
a_finished = record a_ended { questions = m ((0, direct_with 0 (Some root_said)) ∷ []); calls = m ((0, asked_by 0) ∷ []) }

-- The call 0 is finished. Its question stays, since the reference 0 names its field.
abbrev pub a_held : State
a_held = record a_finished { calls = m [] }

-- The reference 0 is dropped: the question is over.
abbrev pub a_left : State
a_left = record a_held { questions = m []; refs = m ((1, headed_by wire 0) ∷ []) }

-- The reference 1 is dropped: the import is released.
abbrev pub a_empty : State
a_empty = record a_left { imports = m []; refs = m [] }

-- The other way about: the reference 1 is dropped first, and the question still names the import.
abbrev pub a_other : State
a_other = record a_held { refs = m ((0, headed_by pipe 1) ∷ []) }

-- ---- What B holds

abbrev pub object : Node
object = node.Object (object_id 0)

abbrev pub root_value : Value
root_value = value.Results bootstrap_payload (object ∷ [])

abbrev pub end_value : Value
end_value = value.Results null []

abbrev pub root_answer : AnswerEntry
root_answer = record { outcome = 0; taken = []; returned = Some (export_id 0 ∷ []); finished = false }

abbrev pub call_answer : Option (List ExportId) → AnswerEntry
call_answer given = record { outcome = 1; taken = []; returned = given; finished = false }

abbrev pub b_new : State
b_new = start B One (Some (object_id 0))

-- The Bootstrap is answered with its object, the export 0.
abbrev pub b_gave : State
b_gave = record b_new {
  answers = m ((0, root_answer) ∷ []);
  outcomes = m ((0, for_peer 0 (Some root_value)) ∷ []);
  exports = m ((0, record { node = object; count = 1 }) ∷ []);
}

-- The call is a task at its object.
abbrev pub b_tasked : State
b_tasked = record b_gave {
  answers = m ((1, call_answer None) ∷ (0, root_answer) ∷ []);
  outcomes = m ((1, for_peer 1 None) ∷ (0, for_peer 0 (Some root_value)) ∷ []);
  tasks = m ((0, 1) ∷ []);
  next_task = 1;
}

-- The task is answered.
abbrev pub b_answered : State
b_answered = record b_tasked {
  answers = m ((1, call_answer (Some [])) ∷ (0, root_answer) ∷ []);
  outcomes = m ((1, for_peer 1 (Some end_value)) ∷ (0, for_peer 0 (Some root_value)) ∷ []);
  tasks = m [];
}

-- The Finish of the call has come.
abbrev pub b_finished : State
b_finished = record b_gave { next_task = 1 }

-- That of the Bootstrap too.
abbrev pub b_exports : State
b_exports = record b_finished { answers = m []; outcomes = m [] }

abbrev pub b_empty : State
b_empty = record b_exports { exports = m [] }

-- ---- What happens

abbrev pub events : List Happening
events =
    did A command.Bootstrap (granted.Call (call_id 0)) (sending (bootstrap_message 0 ∷ []))
    ∷ did A (command.Field (call_id 0) []) (granted.Reference (ref_id 0)) (sending [])
    ∷ did A (command.Call first_call) (granted.Call (call_id 1)) (sending (the_call ∷ []))
    ∷ took B (sending (root_return ∷ []))
    ∷ took B (delivering (delivery ∷ []))
    ∷ took A (telling (root_told ∷ []))
    ∷ did B (command.Answer (task_id 0) null []) granted.Done (sending (empty_return ∷ []))
    ∷ took A (telling (end_told ∷ []))
    ∷ did A (command.Finish (call_id 1)) granted.Done (sending (finish_message 1 false ∷ []))
    ∷ refused_with A (command.Finish (call_id 1)) refusal.UnknownCall
    ∷ did A (command.Finish (call_id 0)) granted.Done (sending [])
    ∷ []

-- The reference to the field is dropped first: the Return's capability is kept by the other reference.
abbrev pub ending : List Happening
ending =
    did A (command.DropRef (ref_id 0)) granted.Done (sending (finish_message 0 false ∷ []))
    ∷ did A (command.DropRef (ref_id 1)) granted.Done (sending (release_message 0 1 ∷ []))
    ∷ took B (sending [])
    ∷ took B (sending [])
    ∷ took B (sending [])
    ∷ []

-- The other reference is dropped first: the Finish takes the capability back by its flag, and there is no Release.
abbrev pub ending_by_flag : List Happening
ending_by_flag =
    did A (command.DropRef (ref_id 1)) granted.Done (sending [])
    ∷ did A (command.DropRef (ref_id 0)) granted.Done (sending (finish_message 0 true ∷ []))
    ∷ took B (sending [])
    ∷ took B (sending [])
    ∷ []

-- What both vats hold before the references are dropped, and what they hold in the end.
abbrev pub both_told : World
both_told = between a_held [] b_answered (finish_message 1 false ∷ [])

abbrev pub both_empty : World
both_empty = between a_empty [] b_empty []

abbrev pub written : List JournalEntry
written =
    entry.Asked A (call_id 0)
    ∷ entry.Sent A (bootstrap_message 0)
    ∷ entry.Born A (ref_id 0) (origin.Field (call_id 0) [])
    ∷ entry.Made A (record { reference = ref_id 0; index = 0; call = call_id 1; interface = 7; method = 1; payload = null; refs = [] })
    ∷ entry.Sent A the_call
    ∷ entry.Got B
    ∷ entry.Sent B root_return
    ∷ entry.Got B
    ∷ entry.Delivered B delivery
    ∷ entry.Got A
    ∷ entry.Ended A root_told
    ∷ entry.Answered B (task_id 0) (outcome.Results null) []
    ∷ entry.Sent B empty_return
    ∷ entry.Got A
    ∷ entry.Ended A end_told
    ∷ entry.Finished A (call_id 1)
    ∷ entry.Sent A (finish_message 1 false)
    ∷ entry.Refused A 5
    ∷ entry.Finished A (call_id 0)
    ∷ []

pub record IsOneCall : Type 0 where
  pub told : Run (new_world None (Some (object_id 0))) events both_told
  pub written : journal events ≡ written
  pub released : Run both_told ending both_empty
  pub released_by_flag : Run both_told ending_by_flag both_empty
