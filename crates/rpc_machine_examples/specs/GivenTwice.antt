-- A run: A gives an object with two calls, and B drops what came with the first. The Return of the first call takes one
-- back by its flag, since one is left; that of the second takes none, since a reference names it (docs/protocol.md,
-- "Release by flag" and "Counts").
use Rattle.std.specs.Prelude.{ℕ, false, Option, None, Some, List, [], ◌∷◌, ◌++◌}
use Rattle.rpc_msg.specs.declared.ids.Vat.TheVariants.{A, B}
use Rattle.rpc_msg.specs.declared.ids.ExportId.{ExportId}
use Rattle.rpc_msg.specs.declared.parts.Target.TheVariants.{PromisedAnswer}
use Rattle.rpc_msg.specs.declared.message.ReturnBody.TheVariants as body
use Rattle.rpc_msg.specs.declared.message.Message.{Message}
use Rattle.rpc_journal.specs.declared.report.Delivery.{Delivery}
use Rattle.rpc_journal.specs.declared.report.Ended.{Ended}
use Rattle.rpc_journal.specs.declared.report.Outcome.TheVariants as outcome
use Rattle.rpc_machine.specs.declared.command.Command.TheVariants as command
use Rattle.rpc_machine.specs.declared.command.Granted.TheVariants as granted
use Rattle.rpc_machine.specs.declared.entries.AnswerEntry.{AnswerEntry}
use Rattle.rpc_machine.specs.declared.entries.Finishing.TheVariants as finishing
use Rattle.rpc_machine.specs.declared.entries.Import.{Import}
use Rattle.rpc_machine.specs.declared.entries.Question.{Question}
use Rattle.rpc_machine.specs.declared.entries.Returned.{Returned}
use Rattle.rpc_machine.specs.declared.entries.Returned.TheVariants as back
use Rattle.rpc_machine.specs.declared.entries.Role.TheVariants as role
use Rattle.rpc_machine.specs.declared.entries.SenderKind.TheVariants as sender
use Rattle.rpc_machine.specs.State.{State}
use Rattle.rpc_machine.specs.World.{World, Happening, Run, new_world}
use Rattle.rpc_machine_examples.specs.Given.{m, null, one_field, object_id, ref_id, call_id, task_id, question_id, export_id, stamp_of, headed_by, direct, direct_with, asked_by, for_peer, bootstrap_message, call_message, return_message, sending, delivering, telling, between, did, took}
use Rattle.rpc_machine_examples.specs.OneCall.{root_return, pipe, wire, root_said, root_import, root_value, root_answer, b_new}
use Rattle.rpc_machine_examples.specs.Relayed.{giving_call, given_as, giving_message, giving_delivery, object, asked_giving, a_gave, empty_value, import_node, giving_answer, b_tasked}
use Rattle.rpc_machine_examples.specs.GivenBack.{root_told, end_told, returned, HasCounts, beginning}

-- ---- The second call, which gives the object again

abbrev pub giving_again : Message
giving_again = call_message 2 (PromisedAnswer (question_id 0) []) 7 1 one_field (given_as ∷ []) (stamp_of A 0 1)

abbrev pub delivery_again : Delivery
delivery_again = record { task = task_id 1; object = object_id 0; stamp = stamp_of A 0 1; interface = 7; method = 1; payload = one_field; refs = ref_id 1 ∷ [] }

abbrev pub returned_again : Message
returned_again = return_message 2 false (body.Results null [])

abbrev pub end_told_again : Ended
end_told_again = record { call = call_id 2; outcome = outcome.Results null; refs = [] }

-- ---- What A holds

abbrev pub asked_again : Option Returned → Question
asked_again said = record { role = role.Direct (call_id 2); given = export_id 0 ∷ []; returned = said; finish = finishing.Owed }

-- The call 2 gives the object again.
abbrev pub a_twice : State
a_twice = record a_gave {
  questions = m ((2, asked_again None) ∷ (1, asked_giving None) ∷ (0, direct 0) ∷ []);
  calls = m ((2, asked_by 2) ∷ (1, asked_by 1) ∷ (0, asked_by 0) ∷ []);
  exports = m ((0, record { node = object; count = 2 }) ∷ []);
  refs = m ((1, headed_by object 0) ∷ (0, headed_by pipe 2) ∷ []);
  next_call = 3;
}

abbrev pub a_root : State
a_root = record a_twice {
  questions = m ((2, asked_again None) ∷ (1, asked_giving None) ∷ (0, direct_with 0 (Some root_said)) ∷ []);
  imports = m ((0, root_import) ∷ []);
  refs = m ((2, headed_by wire 0) ∷ (1, headed_by object 0) ∷ (0, headed_by pipe 2) ∷ []);
  next_ref = 3;
}

abbrev pub end_said : Returned
end_said = back.Results null []

-- The Return of the call 1 has come, and what that call gave is given back.
abbrev pub a_one_left : State
a_one_left = record a_root {
  questions = m ((2, asked_again None) ∷ (1, asked_giving (Some end_said)) ∷ (0, direct_with 0 (Some root_said)) ∷ []);
  exports = m ((0, record { node = object; count = 1 }) ∷ []);
}

-- The Return of the call 2 has come too.
abbrev pub a_ended : State
a_ended = record a_one_left {
  questions = m ((2, asked_again (Some end_said)) ∷ (1, asked_giving (Some end_said)) ∷ (0, direct_with 0 (Some root_said)) ∷ []);
}

-- ---- What B holds

abbrev pub received : ℕ → Import
received n = record { kind = sender.Hosted; count = n; resolution = None }

abbrev pub second_answer : Option (List ExportId) → AnswerEntry
second_answer returned = record { outcome = 2; taken = export_id 0 ∷ []; returned = returned; finished = false }

-- Both calls are tasks, each with a reference to the import.
abbrev pub b_both : State
b_both = record b_tasked {
  answers = m ((2, second_answer None) ∷ (1, giving_answer None) ∷ (0, root_answer) ∷ []);
  outcomes = m ((2, for_peer 2 None) ∷ (1, for_peer 1 None) ∷ (0, for_peer 0 (Some root_value)) ∷ []);
  imports = m ((0, received 2) ∷ []);
  refs = m ((1, headed_by import_node 0) ∷ (0, headed_by import_node 0) ∷ []);
  tasks = m ((1, 2) ∷ (0, 1) ∷ []);
  next_ref = 2;
  next_task = 2;
}

-- The reference of the call 1 is dropped.
abbrev pub b_dropped : State
b_dropped = record b_both { refs = m ((1, headed_by import_node 0) ∷ []) }

-- The call 1 is answered, and gave one back.
abbrev pub b_first : State
b_first = record b_dropped {
  answers = m ((2, second_answer None) ∷ (1, giving_answer (Some [])) ∷ (0, root_answer) ∷ []);
  outcomes = m ((2, for_peer 2 None) ∷ (1, for_peer 1 (Some empty_value)) ∷ (0, for_peer 0 (Some root_value)) ∷ []);
  imports = m ((0, received 1) ∷ []);
  tasks = m ((1, 2) ∷ []);
}

-- The call 2 is answered too. Its reference keeps the import.
abbrev pub b_second : State
b_second = record b_first {
  answers = m ((2, second_answer (Some [])) ∷ (1, giving_answer (Some [])) ∷ (0, root_answer) ∷ []);
  outcomes = m ((2, for_peer 2 (Some empty_value)) ∷ (1, for_peer 1 (Some empty_value)) ∷ (0, for_peer 0 (Some root_value)) ∷ []);
  tasks = m [];
}

-- ---- What happens

-- Both calls are on their way; they have come; the first is answered; the second is answered; both Returns have come.
abbrev pub both_sent : World
both_sent = between a_twice [] b_new (bootstrap_message 0 ∷ giving_message ∷ giving_again ∷ [])

abbrev pub both_received : World
both_received = between a_twice (root_return ∷ []) b_both []

abbrev pub first_answered : World
first_answered = between a_twice (root_return ∷ returned ∷ []) b_first []

abbrev pub both_answered : World
both_answered = between a_twice (root_return ∷ returned ∷ returned_again ∷ []) b_second []

abbrev pub both_told : World
both_told = between a_ended [] b_second []

abbrev pub giving_twice : List Happening
giving_twice =
    beginning
    ++ did A (command.Call giving_call) (granted.Call (call_id 2)) (sending (giving_again ∷ []))
    ∷ took B (sending (root_return ∷ []))
    ∷ took B (delivering (giving_delivery ∷ []))
    ∷ took B (delivering (delivery_again ∷ []))
    ∷ []

abbrev pub answering : List Happening
answering =
    did B (command.DropRef (ref_id 0)) granted.Done (sending [])
    ∷ did B (command.Answer (task_id 0) null []) granted.Done (sending (returned ∷ []))
    ∷ did B (command.Answer (task_id 1) null []) granted.Done (sending (returned_again ∷ []))
    ∷ took A (telling (root_told ∷ []))
    ∷ took A (telling (end_told ∷ []))
    ∷ took A (telling (end_told_again ∷ []))
    ∷ []

pub record IsGivenTwice : Type 0 where
  pub gives : Run (new_world None (Some (object_id 0))) giving_twice both_received
  pub answers : Run both_received answering both_told
  pub counts_sent : HasCounts both_sent 2 0 2
  pub counts_received : HasCounts both_received 2 2 0
  pub counts_first : HasCounts first_answered 2 1 1
  pub counts_second : HasCounts both_answered 2 1 1
  pub counts_told : HasCounts both_told 1 1 0
