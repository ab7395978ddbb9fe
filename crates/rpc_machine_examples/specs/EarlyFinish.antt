-- A whole run: A finishes a call before its results come. B is told by a Finish, answers with a Return that says canceled,
-- and still delivers the call that waited for the results (docs/protocol.md, "Settling").
use Rattle.std.specs.Prelude.{◌≡◌, true, false, None, Some, List, [], ◌∷◌}
use Rattle.rpc_msg.specs.Op.{Op}
use Rattle.rpc_msg.specs.Op.TheVariants.{Field}
use Rattle.rpc_msg.specs.declared.ids.Vat.TheVariants.{A, B}
use Rattle.rpc_msg.specs.declared.ids.Stamp.{Stamp}
use Rattle.rpc_msg.specs.declared.parts.Target.TheVariants.{PromisedAnswer}
use Rattle.rpc_msg.specs.declared.message.ReturnBody.TheVariants as body
use Rattle.rpc_msg.specs.declared.message.Message.{Message}
use Rattle.rpc_journal.specs.History.{Ref}
use Rattle.rpc_journal.specs.declared.report.Delivery.{Delivery}
use Rattle.rpc_journal.specs.declared.report.Ended.{Ended}
use Rattle.rpc_journal.specs.declared.report.Outcome.TheVariants as outcome
use Rattle.rpc_journal.specs.declared.entry.Origin.TheVariants as origin
use Rattle.rpc_journal.specs.declared.entry.JournalEntry.{JournalEntry}
use Rattle.rpc_journal.specs.declared.entry.JournalEntry.TheVariants as entry
use Rattle.rpc_machine.specs.Payloads.{bootstrap_payload}
use Rattle.rpc_machine.specs.declared.node.Node.{Node}
use Rattle.rpc_machine.specs.declared.node.Node.TheVariants as node
use Rattle.rpc_machine.specs.declared.command.CallCommand.{CallCommand}
use Rattle.rpc_machine.specs.declared.command.Command.TheVariants as command
use Rattle.rpc_machine.specs.declared.command.Effects.{Effects}
use Rattle.rpc_machine.specs.declared.command.Granted.TheVariants as granted
use Rattle.rpc_machine.specs.declared.entries.AnswerEntry.{AnswerEntry}
use Rattle.rpc_machine.specs.declared.entries.Question.{Question}
use Rattle.rpc_machine.specs.declared.entries.Finishing.TheVariants as finishing
use Rattle.rpc_machine.specs.declared.calls.HeldCall.{HeldCall}
use Rattle.rpc_machine.specs.declared.calls.KeptOutcome.{KeptOutcome}
use Rattle.rpc_machine.specs.declared.calls.Value.{Value}
use Rattle.rpc_machine.specs.declared.calls.Value.TheVariants as value
use Rattle.rpc_machine.specs.State.{State}
use Rattle.rpc_machine.specs.World.{World, Happening, Run, new_world}
use Rattle.rpc_machine.specs.Journal.{journal}
use Rattle.rpc_machine.specs.Pending.{pending}
use Rattle.rpc_machine_examples.specs.Given.{m, null, one_field, ref_id, call_id, task_id, object_id, stamp_of, headed_by, direct, direct_with, asked_by, for_peer, bootstrap_message, call_message, return_message, finish_message, sending, delivering, telling, between, did, took}
use Rattle.rpc_machine_examples.specs.OneCall.{root_return, the_call, first_call, pipe, wire, root_said, root_import, root_value, root_answer, call_answer, delivery, a_called, b_tasked}

-- ---- Messages

abbrev pub path : List Op
path = Field 0 ∷ []

abbrev pub second_call : CallCommand
second_call = record { reference = ref_id 1; interface = 7; method = 2; payload = null; refs = [] }

abbrev pub second_stamp : Stamp
second_stamp = stamp_of A 1 0

abbrev pub second_message : Message
second_message = call_message 2 (PromisedAnswer (record { 0 = 1 }) path) 7 2 null [] second_stamp

abbrev pub canceled_return : Message
canceled_return = return_message 1 false body.Canceled

abbrev pub root_told : Ended
root_told = record { call = call_id 0; outcome = outcome.Results bootstrap_payload; refs = ref_id 2 ∷ [] }

abbrev pub second_delivery : Delivery
second_delivery = record { task = task_id 1; object = object_id 9; stamp = second_stamp; interface = 7; method = 2; payload = null; refs = [] }

-- ---- What A holds

abbrev pub field_pipe : Node
field_pipe = node.Pipe (record { 0 = 1 }) path

-- The reference 1 is headed by a field of the call 1.
abbrev pub a_piped : State
a_piped = record a_called { refs = m ((1, headed_by field_pipe 0) ∷ (0, headed_by pipe 1) ∷ []); next_ref = 2 }

-- The call through it is the question 2.
abbrev pub a_again : State
a_again = record a_piped {
  questions = m ((2, direct 2) ∷ (1, direct 1) ∷ (0, direct 0) ∷ []);
  calls = m ((2, asked_by 2) ∷ (1, asked_by 1) ∷ (0, asked_by 0) ∷ []);
  refs = m ((1, headed_by field_pipe 1) ∷ (0, headed_by pipe 1) ∷ []);
  next_call = 3;
}

abbrev pub a_dropped : State
a_dropped = record a_again { refs = m ((0, headed_by pipe 1) ∷ []) }

abbrev pub finished_early : Question
finished_early = record (direct 1) { finish = finishing.Sent }

-- The call 1 is finished: its Finish is sent, and its question stays until its Return comes.
abbrev pub a_over : State
a_over = record a_dropped {
  questions = m ((2, direct 2) ∷ (1, finished_early) ∷ (0, direct 0) ∷ []);
  calls = m ((2, asked_by 2) ∷ (0, asked_by 0) ∷ []);
}

abbrev pub a_root : State
a_root = record a_over {
  questions = m ((2, direct 2) ∷ (1, finished_early) ∷ (0, direct_with 0 (Some root_said)) ∷ []);
  imports = m ((0, root_import) ∷ []);
  refs = m ((2, headed_by wire 0) ∷ (0, headed_by pipe 1) ∷ []);
  next_ref = 3;
}

-- Its Return has come: the question's id is free again.
abbrev pub a_free : State
a_free = record a_root { questions = m ((2, direct 2) ∷ (0, direct_with 0 (Some root_said)) ∷ []) }

-- ---- What B holds

abbrev pub held_call : HeldCall
held_call = record { path = path; call = record { request = record { stamp = second_stamp; interface = 7; method = 2; payload = null; caps = [] }; outcome = 2 } }

abbrev pub second_answer : AnswerEntry
second_answer = record { outcome = 2; taken = []; returned = None; finished = false }

abbrev pub waited_for : KeptOutcome
waited_for = record (for_peer 1 None) { waiting = held_call ∷ [] }

-- The second call waits for the outcome of the first.
abbrev pub b_held : State
b_held = record b_tasked {
  answers = m ((2, second_answer) ∷ (1, call_answer None) ∷ (0, root_answer) ∷ []);
  outcomes = m ((2, for_peer 2 None) ∷ (1, waited_for) ∷ (0, for_peer 0 (Some root_value)) ∷ []);
}

-- The Finish of the first has come.
abbrev pub b_marked : State
b_marked = record b_held { answers = m ((2, second_answer) ∷ (1, record (call_answer None) { finished = true }) ∷ (0, root_answer) ∷ []) }

abbrev pub other_object : Node
other_object = node.Object (object_id 9)

abbrev pub b_hosted : State
b_hosted = record b_marked { refs = m ((0, headed_by other_object 0) ∷ []); next_ref = 1 }

abbrev pub results : Value
results = value.Results one_field (other_object ∷ [])

-- The first is answered, and the second is a task at the object that it waited for.
abbrev pub b_went_on : State
b_went_on = record b_hosted {
  answers = m ((2, second_answer) ∷ (0, root_answer) ∷ []);
  outcomes = m ((2, for_peer 2 None) ∷ (0, for_peer 0 (Some root_value)) ∷ []);
  tasks = m ((1, 2) ∷ []);
  next_task = 2;
}

-- ---- What happens

abbrev pub going_on : Effects
going_on = record { sends = canceled_return ∷ []; deliveries = second_delivery ∷ []; answers = []; down = None }

abbrev pub to_the_hold : List Happening
to_the_hold =
    did A command.Bootstrap (granted.Call (call_id 0)) (sending (bootstrap_message 0 ∷ []))
    ∷ did A (command.Field (call_id 0) []) (granted.Reference (ref_id 0)) (sending [])
    ∷ did A (command.Call first_call) (granted.Call (call_id 1)) (sending (the_call ∷ []))
    ∷ did A (command.Field (call_id 1) path) (granted.Reference (ref_id 1)) (sending [])
    ∷ did A (command.Call second_call) (granted.Call (call_id 2)) (sending (second_message ∷ []))
    ∷ did A (command.DropRef (ref_id 1)) granted.Done (sending [])
    ∷ did A (command.Finish (call_id 1)) granted.Done (sending (finish_message 1 false ∷ []))
    ∷ took B (sending (root_return ∷ []))
    ∷ took B (delivering (delivery ∷ []))
    ∷ took B (sending [])
    ∷ took B (sending [])
    ∷ []

abbrev pub on_from_it : List Happening
on_from_it =
    did B (command.Host (object_id 9)) (granted.Reference (ref_id 0)) (sending [])
    ∷ did B (command.Answer (task_id 0) one_field (ref_id 0 ∷ [])) granted.Done going_on
    ∷ took A (telling (root_told ∷ []))
    ∷ took A (sending [])
    ∷ []

abbrev pub both_hold : World
both_hold = between a_over (root_return ∷ []) b_marked []

abbrev pub both_went_on : World
both_went_on = between a_free [] b_went_on []

abbrev pub the_ref : Ref
the_ref = record { vat = A; number = 1 }

abbrev pub written : List JournalEntry
written =
    entry.Born B (ref_id 0) (origin.Object (object_id 9))
    ∷ entry.Answered B (task_id 0) (outcome.Results one_field) (ref_id 0 ∷ [])
    ∷ entry.Sent B canceled_return
    ∷ entry.Delivered B second_delivery
    ∷ entry.Got A
    ∷ entry.Ended A root_told
    ∷ entry.Got A
    ∷ []

-- The call through the dropped reference is pending while it waits, and is delivered.
pub record IsEarlyFinish : Type 0 where
  pub held : Run (new_world None (Some (object_id 0))) to_the_hold both_hold
  pub went_on : Run both_hold on_from_it both_went_on
  pub written : journal on_from_it ≡ written
  pub pending_still : pending both_hold the_ref ≡ second_stamp ∷ []
  pub pending_no_more : pending both_went_on the_ref ≡ []
