-- Single steps of commands: a promise with two held calls is rejected; a reference turns back; a flag releases; a question
-- is finished.
use Rattle.std.specs.Prelude.{ℕ, true, false, List, [], ◌∷◌, Option, None, Some}
use Rattle.std.specs.FinMap as map
use Rattle.rpc_msg.specs.declared.ids.Vat.TheVariants.{A, B}
use Rattle.rpc_msg.specs.declared.exception.Exception.{Exception}
use Rattle.rpc_msg.specs.declared.exception.ExceptionKind.TheVariants.{Overloaded}
use Rattle.rpc_msg.specs.declared.parts.Target.TheVariants.{ImportedCap}
use Rattle.rpc_msg.specs.declared.message.DisembargoContext.TheVariants.{SenderLoopback}
use Rattle.rpc_msg.specs.declared.parts.Descriptor.TheVariants as descriptor
use Rattle.rpc_msg.specs.declared.message.ReturnBody.TheVariants as body
use Rattle.rpc_journal.specs.declared.report.Outcome.TheVariants as outcome
use Rattle.rpc_msg.specs.declared.message.PlainMessage.TheVariants as plain
use Rattle.rpc_msg.specs.declared.message.Message.{Message}
use Rattle.rpc_msg.specs.declared.message.Message.TheVariants as message
use Rattle.rpc_machine.specs.declared.node.Node.{Node}
use Rattle.rpc_machine.specs.declared.node.Node.TheVariants as node
use Rattle.rpc_machine.specs.declared.node.Reason.TheVariants.{BrokenPromise}
use Rattle.rpc_machine.specs.declared.command.Level.TheVariants.{One}
use Rattle.rpc_machine.specs.declared.command.Command.TheVariants as command
use Rattle.rpc_machine.specs.declared.command.Granted.TheVariants as granted
use Rattle.rpc_journal.specs.declared.report.Advanced.TheVariants as advanced
use Rattle.rpc_machine.specs.declared.command.Effects.{Effects}
use Rattle.rpc_journal.specs.declared.report.Ended.{Ended}
use Rattle.rpc_machine.specs.declared.calls.WaitingCall.{WaitingCall}
use Rattle.rpc_machine.specs.declared.calls.Promise.{Promise}
use Rattle.rpc_machine.specs.declared.calls.Promise.TheVariants as promise
use Rattle.rpc_machine.specs.declared.entries.Question.{Question}
use Rattle.rpc_machine.specs.declared.entries.Role.TheVariants as role
use Rattle.rpc_machine.specs.declared.entries.Finishing.TheVariants as finishing
use Rattle.rpc_machine.specs.declared.entries.Returned.TheVariants as back
use Rattle.rpc_machine.specs.declared.entries.AnswerEntry.{AnswerEntry}
use Rattle.rpc_machine.specs.declared.entries.Import.{Import}
use Rattle.rpc_machine.specs.declared.entries.Export.{Export}
use Rattle.rpc_machine.specs.declared.entries.Embargo.{Embargo}
use Rattle.rpc_machine.specs.declared.entries.Resolution.TheVariants as resolution
use Rattle.rpc_machine.specs.declared.entries.SenderKind.TheVariants as sender
use Rattle.rpc_machine.specs.declared.entries.Reference.{Reference}
use Rattle.rpc_machine.specs.declared.calls.KeptOutcome.{KeptOutcome}
use Rattle.rpc_machine.specs.declared.calls.OwnCall.{OwnCall}
use Rattle.rpc_machine.specs.declared.calls.OwnCall.TheVariants as own
use Rattle.rpc_machine.specs.declared.calls.Caller.TheVariants as caller
use Rattle.rpc_machine.specs.declared.calls.Value.{Value}
use Rattle.rpc_machine.specs.declared.calls.Value.TheVariants as value
use Rattle.rpc_machine.specs.State.{State, start}
use Rattle.rpc_machine.specs.Routing.{failed, reason_text}
use Rattle.rpc_machine.specs.Steps.{Does}
use Rattle.rpc_machine_examples.specs.Given.{m, null}

abbrev pub saying : List Message → Effects
saying ms = record { sends = ms; deliveries = []; answers = []; down = None }

abbrev pub headed_by : Node → ℕ → Reference
headed_by n made = record { head = n; embargo = None; made = made }

-- ---- A promise with two held calls is rejected: both end, and nothing is delivered

abbrev pub own_call : ℕ → WaitingCall
own_call i = record { request = record { stamp = record { vat = A; reference = record { 0 = 0 }; index = i }; interface = 1; method = 1; payload = null; caps = [] }; outcome = i }

abbrev pub busy : Exception
busy = record { kind = Overloaded; reason = [] }

abbrev pub waiting_for_it : Promise
waiting_for_it = promise.Open (own_call 0 ∷ own_call 1 ∷ [])

abbrev pub of_own : ℕ → Option Value → KeptOutcome
of_own c v = record { caller = caller.Application (record { 0 = c }); value = v; waiting = [] }

abbrev pub own_calls : List (ℕ × OwnCall)
own_calls = (1, own.Kept 1) ∷ (0, own.Kept 0) ∷ []

abbrev pub r0 : State
r0 = record (start A One None) {
  refs = m ((0, headed_by (node.Promise 0) 2) ∷ []);
  promises = m ((0, waiting_for_it) ∷ []);
  unsettled = m ((0, 0) ∷ []);
  outcomes = m ((1, of_own 1 None) ∷ (0, of_own 0 None) ∷ []);
  calls = m own_calls;
  next_ref = 1;
  next_call = 2;
  next_promise = 1;
}

abbrev pub broken : Node
broken = node.Broken BrokenPromise

abbrev pub fixed : List (ℕ × Promise)
fixed = (0, promise.Fixed broken) ∷ (0, waiting_for_it) ∷ []

abbrev pub r_fixed : State
r_fixed = record r0 { promises = m fixed; unsettled = map.remove (m ((0, 0) ∷ [])) 0 }

abbrev pub ends : Value
ends = value.Exception (failed (reason_text BrokenPromise))

abbrev pub outcomes_0 : List (ℕ × KeptOutcome)
outcomes_0 = (0, of_own 0 (Some ends)) ∷ (0, of_own 0 (Some ends)) ∷ (1, of_own 1 None) ∷ (0, of_own 0 None) ∷ []

abbrev pub outcomes_1 : List (ℕ × KeptOutcome)
outcomes_1 = (1, of_own 1 (Some ends)) ∷ (1, of_own 1 (Some ends)) ∷ outcomes_0

abbrev pub r1 : State
r1 = record r_fixed { outcomes = m outcomes_1 }

abbrev pub ended : ℕ → Ended
ended c = record { call = record { 0 = c }; outcome = outcome.Exception (failed (reason_text BrokenPromise)); refs = [] }

abbrev pub telling : List Ended → Effects
telling es = record { sends = []; deliveries = []; answers = es; down = None }

-- ---- A reference whose wire was resolved to an own object turns back; the import that it leaves is released

abbrev pub own_object : Node
own_object = node.Object (record { 0 = 3 })

abbrev pub import_node : Node
import_node = node.Import (record { 0 = 0 })

abbrev pub resolved_import : Import
resolved_import = record { kind = sender.Promise; count = 1; resolution = Some (resolution.To (descriptor.ReceiverHosted (record { 0 = 5 })) own_object) }

abbrev pub exports_5 : List (ℕ × Export)
exports_5 = (5, record { node = own_object; count = 1 }) ∷ []

abbrev pub t0 : State
t0 = record (start A One None) { refs = m ((0, headed_by import_node 2) ∷ []); imports = m ((0, resolved_import) ∷ []); exports = m exports_5; next_ref = 1 }

abbrev pub turned : Reference
turned = record { head = own_object; embargo = Some (record { 0 = 0 }); made = 2 }

abbrev pub refs_turned : List (ℕ × Reference)
refs_turned = (0, turned) ∷ (0, headed_by import_node 2) ∷ []

abbrev pub embargo : Embargo
embargo = record { reference = record { 0 = 0 }; node = own_object; waiting = [] }

abbrev pub t_turned : State
t_turned = record t0 { refs = m refs_turned; embargoes = m ((0, embargo) ∷ []) }

abbrev pub t1 : State
t1 = record t_turned { imports = map.remove (m ((0, resolved_import) ∷ [])) 0 }

abbrev pub disembargo : Message
disembargo = message.Plain (plain.Disembargo (record { target = ImportedCap (record { 0 = 0 }); context = SenderLoopback (record { 0 = 0 }) }))

abbrev pub turning : Effects
turning = saying (disembargo ∷ message.Plain (plain.Release (record { export = record { 0 = 0 }; count = 1 })) ∷ [])

-- ---- The only descriptor of an import came with a Call, and no reference to it is left: the Return releases it

abbrev pub received : Import
received = record { kind = sender.Hosted; count = 1; resolution = None }

abbrev pub opened : AnswerEntry
opened = record { outcome = 1; taken = record { 0 = 0 } ∷ []; returned = None; finished = false }

abbrev pub of_peer : Option Value → KeptOutcome
of_peer v = record { caller = caller.Peer (record { 0 = 1 }); value = v; waiting = [] }

abbrev pub f0 : State
f0 = record (start B One None) { imports = m ((0, received) ∷ []); answers = m ((1, opened) ∷ []); outcomes = m ((1, of_peer None) ∷ []); tasks = m ((0, 1) ∷ []); next_task = 1 }

abbrev pub answered : Value
answered = value.Results null []

abbrev pub f_known : State
f_known = record f0 { tasks = map.remove (m ((0, 1) ∷ [])) 0; outcomes = m ((1, of_peer (Some answered)) ∷ (1, of_peer None) ∷ []) }

abbrev pub closed : AnswerEntry
closed = record { outcome = 1; taken = record { 0 = 0 } ∷ []; returned = Some []; finished = false }

abbrev pub f_given : State
f_given = record f_known { imports = map.remove (m ((0, received) ∷ [])) 0 }

abbrev pub f_returned : State
f_returned = record f_given { answers = m ((1, closed) ∷ (1, opened) ∷ []) }

abbrev pub f1 : State
f1 = record f_returned { outcomes = m ((1, of_peer (Some answered)) ∷ (1, of_peer (Some answered)) ∷ (1, of_peer None) ∷ []) }

abbrev pub flagged : Effects
flagged = saying (message.Plain (plain.Return (record { answer = record { 0 = 1 }; release_param_caps = true; body = body.Results null [] })) ∷ [])

-- ---- A question whose Return has come is finished: a Finish is sent, and it closes

abbrev pub asked : Question
asked = record { role = role.Direct (record { 0 = 0 }); given = []; returned = Some (back.Exception busy); finish = finishing.Owed }

abbrev pub q0 : State
q0 = record (start A One None) { questions = m ((0, asked) ∷ []); calls = m ((0, own.Direct (record { 0 = 0 })) ∷ []); next_call = 1 }

abbrev pub q1 : State
q1 = record q0 { calls = map.remove (m ((0, own.Direct (record { 0 = 0 })) ∷ [])) 0 }

abbrev pub q2 : State
q2 = record q1 { questions = map.remove (m ((0, asked) ∷ [])) 0 }

abbrev pub sends_finish : Effects
sends_finish = saying (message.Plain (plain.Finish (record { question = record { 0 = 0 }; release_result_caps = false })) ∷ [])

pub record OfCommands : Type 0 where
  pub rejected : Does r0 (command.Reject (record { 0 = 0 }) busy) granted.Done (telling (ended 0 ∷ ended 1 ∷ [])) r1
  pub turned_back : Does t0 (command.Advance (record { 0 = 0 })) (granted.Advanced advanced.Embargoed) turning t1
  pub released_by_flag : Does f0 (command.Answer (record { 0 = 0 }) null []) granted.Done flagged f1
  pub finished : Does q0 (command.Finish (record { 0 = 0 })) granted.Done sends_finish q2
