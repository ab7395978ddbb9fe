-- A run: a promise of B, at which calls of A wait, is resolved to A's own object. The calls come back, A turns to the
-- shorter path, and all calls are delivered in the order in which they were made (docs/protocol.md, "Shortening a path").
use Rattle.std.specs.Prelude.{◌≡◌, ℕ, false, Option, None, Some, List, [], ◌∷◌}
use Rattle.rpc_msg.specs.declared.ids.Vat.TheVariants.{A, B}
use Rattle.rpc_msg.specs.declared.ids.Stamp.{Stamp}
use Rattle.rpc_msg.specs.declared.ids.EmbargoId.{EmbargoId}
use Rattle.rpc_msg.specs.declared.parts.Target.TheVariants.{ImportedCap}
use Rattle.rpc_msg.specs.declared.parts.Descriptor.TheVariants as descriptor
use Rattle.rpc_msg.specs.declared.message.DisembargoContext.TheVariants.{SenderLoopback, ReceiverLoopback}
use Rattle.rpc_msg.specs.declared.message.ResolvedTo.TheVariants as resolved
use Rattle.rpc_msg.specs.declared.message.PlainMessage.TheVariants as plain
use Rattle.rpc_msg.specs.declared.message.Message.{Message}
use Rattle.rpc_msg.specs.declared.message.Message.TheVariants as message
use Rattle.rpc_journal.specs.History.{Ref, made, delivered}
use Rattle.rpc_journal.specs.declared.report.Advanced.TheVariants as advanced
use Rattle.rpc_journal.specs.declared.report.Delivery.{Delivery}
use Rattle.rpc_machine.specs.declared.node.Node.{Node}
use Rattle.rpc_machine.specs.declared.node.Node.TheVariants as node
use Rattle.rpc_machine.specs.declared.command.CallCommand.{CallCommand}
use Rattle.rpc_machine.specs.declared.command.Command.TheVariants as command
use Rattle.rpc_machine.specs.declared.command.Granted.TheVariants as granted
use Rattle.rpc_machine.specs.declared.command.Level.TheVariants.{One}
use Rattle.rpc_machine.specs.declared.entries.AnswerEntry.{AnswerEntry}
use Rattle.rpc_machine.specs.declared.entries.Embargo.{Embargo}
use Rattle.rpc_machine.specs.declared.entries.Finishing.TheVariants as finishing
use Rattle.rpc_machine.specs.declared.entries.Import.{Import}
use Rattle.rpc_machine.specs.declared.entries.Question.{Question}
use Rattle.rpc_machine.specs.declared.entries.Reference.{Reference}
use Rattle.rpc_machine.specs.declared.entries.Resolution.{Resolution}
use Rattle.rpc_machine.specs.declared.entries.Resolution.TheVariants as resolution
use Rattle.rpc_machine.specs.declared.entries.Role.TheVariants as role
use Rattle.rpc_machine.specs.declared.entries.SenderKind.TheVariants as sender
use Rattle.rpc_machine.specs.declared.calls.Caller.TheVariants as caller
use Rattle.rpc_machine.specs.declared.calls.KeptOutcome.{KeptOutcome}
use Rattle.rpc_machine.specs.declared.calls.OwnCall.TheVariants as own
use Rattle.rpc_machine.specs.declared.calls.Promise.TheVariants as promise
use Rattle.rpc_machine.specs.declared.calls.WaitingCall.{WaitingCall}
use Rattle.rpc_machine.specs.State.{State, start}
use Rattle.rpc_machine.specs.World.{World, Happening, Run}
use Rattle.rpc_machine.specs.Journal.{journal}
use Rattle.rpc_machine.specs.Pending.{pending}
use Rattle.rpc_machine_examples.specs.Given.{m, null, ref_id, call_id, task_id, export_id, object_id, stamp_of, headed_by, direct, asked_by, for_peer, call_message, release_message, sending, delivering, between, did, took}

-- ---- Calls and messages

-- The call of that index through A's reference 0.
abbrev pub stamp : ℕ → Stamp
stamp i = stamp_of A 0 i

abbrev pub the_call : CallCommand
the_call = record { reference = ref_id 0; interface = 7; method = 1; payload = null; refs = [] }

-- A's Call of that index to the promise, and B's Call that takes it back.
abbrev pub to_promise : ℕ → Message
to_promise i = call_message i (ImportedCap (export_id 1)) 7 1 null [] (stamp i)

abbrev pub back_again : ℕ → Message
back_again i = call_message i (ImportedCap (export_id 0)) 7 1 null [] (stamp i)

abbrev pub resolve : Message
resolve = message.Plain (plain.Resolve (record { promise = export_id 1; to = resolved.Cap (descriptor.ReceiverHosted (export_id 0)) }))

abbrev pub embargo_id : EmbargoId
embargo_id = record { 0 = 0 }

abbrev pub disembargo : Message
disembargo = message.Plain (plain.Disembargo (record { target = ImportedCap (export_id 1); context = SenderLoopback embargo_id }))

abbrev pub echo : Message
echo = message.Plain (plain.Disembargo (record { target = ImportedCap (export_id 0); context = ReceiverLoopback embargo_id }))

abbrev pub delivery : ℕ → Delivery
delivery i = record { task = task_id i; object = object_id 3; stamp = stamp i; interface = 7; method = 1; payload = null; refs = [] }

-- The call of that index, with its outcome's key.
abbrev pub waits : ℕ → ℕ → WaitingCall
waits i o = record { request = record { stamp = stamp i; interface = 7; method = 1; payload = null; caps = [] }; outcome = o }

-- An answer with that outcome's key.
abbrev pub open_answer : ℕ → AnswerEntry
open_answer o = record { outcome = o; taken = []; returned = None; finished = false }

-- ---- What A holds: a reference to B's promise, its import 1, and an object of its own, its export 0

abbrev pub object : Node
object = node.Object (object_id 3)

abbrev pub wire : Node
wire = node.Import (export_id 1)

abbrev pub promised : Option Resolution → Import
promised said = record { kind = sender.Promise; count = 1; resolution = said }

abbrev pub a0 : State
a0 = record (start A One None) {
  imports = m ((1, promised None) ∷ []);
  exports = m ((0, record { node = object; count = 1 }) ∷ []);
  refs = m ((0, headed_by wire 0) ∷ []);
  next_ref = 1;
}

abbrev pub a1 : State
a1 = record a0 { questions = m ((0, direct 0) ∷ []); calls = m ((0, asked_by 0) ∷ []); refs = m ((0, headed_by wire 1) ∷ []); next_call = 1 }

abbrev pub a2 : State
a2 = record a1 {
  questions = m ((1, direct 1) ∷ (0, direct 0) ∷ []);
  calls = m ((1, asked_by 1) ∷ (0, asked_by 0) ∷ []);
  refs = m ((0, headed_by wire 2) ∷ []);
  next_call = 2;
}

abbrev pub a3 : State
a3 = record a2 {
  questions = m ((2, direct 2) ∷ (1, direct 1) ∷ (0, direct 0) ∷ []);
  calls = m ((2, asked_by 2) ∷ (1, asked_by 1) ∷ (0, asked_by 0) ∷ []);
  refs = m ((0, headed_by wire 3) ∷ []);
  next_call = 3;
}

-- The first two calls have come back, as tasks at the object.
abbrev pub a4 : State
a4 = record a3 { answers = m ((0, open_answer 0) ∷ []); outcomes = m ((0, for_peer 0 None) ∷ []); tasks = m ((0, 0) ∷ []); next_task = 1 }

abbrev pub a5 : State
a5 = record a4 {
  answers = m ((1, open_answer 1) ∷ (0, open_answer 0) ∷ []);
  outcomes = m ((1, for_peer 1 None) ∷ (0, for_peer 0 None) ∷ []);
  tasks = m ((1, 1) ∷ (0, 0) ∷ []);
  next_task = 2;
}

abbrev pub resolved_import : Import
resolved_import = promised (Some (resolution.To (descriptor.ReceiverHosted (export_id 0)) object))

-- The Resolve has come.
abbrev pub a6 : State
a6 = record a5 { imports = m ((1, resolved_import) ∷ []) }

abbrev pub turned : ℕ → Reference
turned made = record { head = object; embargo = Some embargo_id; made = made }

abbrev pub embargo : List WaitingCall → Embargo
embargo calls = record { reference = ref_id 0; node = object; waiting = calls }

-- The reference turned back, and its next calls wait. Nothing names the promise any more.
abbrev pub a7 : State
a7 = record a6 { imports = m []; refs = m ((0, turned 3) ∷ []); embargoes = m ((0, embargo []) ∷ []) }

abbrev pub own_outcome : ℕ → KeptOutcome
own_outcome c = record { caller = caller.Application (call_id c); value = None; waiting = [] }

abbrev pub a8 : State
a8 = record a7 {
  outcomes = m ((2, own_outcome 3) ∷ (1, for_peer 1 None) ∷ (0, for_peer 0 None) ∷ []);
  calls = m ((3, own.Kept 2) ∷ (2, asked_by 2) ∷ (1, asked_by 1) ∷ (0, asked_by 0) ∷ []);
  refs = m ((0, turned 4) ∷ []);
  embargoes = m ((0, embargo (waits 3 2 ∷ [])) ∷ []);
  next_call = 4;
}

abbrev pub a9 : State
a9 = record a8 {
  outcomes = m ((3, own_outcome 4) ∷ (2, own_outcome 3) ∷ (1, for_peer 1 None) ∷ (0, for_peer 0 None) ∷ []);
  calls = m ((4, own.Kept 3) ∷ (3, own.Kept 2) ∷ (2, asked_by 2) ∷ (1, asked_by 1) ∷ (0, asked_by 0) ∷ []);
  refs = m ((0, turned 5) ∷ []);
  embargoes = m ((0, embargo (waits 3 2 ∷ waits 4 3 ∷ [])) ∷ []);
  next_call = 5;
}

-- The third call has come back.
abbrev pub a10 : State
a10 = record a9 {
  answers = m ((2, open_answer 4) ∷ (1, open_answer 1) ∷ (0, open_answer 0) ∷ []);
  outcomes = m ((4, for_peer 2 None) ∷ (3, own_outcome 4) ∷ (2, own_outcome 3) ∷ (1, for_peer 1 None) ∷ (0, for_peer 0 None) ∷ []);
  tasks = m ((2, 4) ∷ (1, 1) ∷ (0, 0) ∷ []);
  next_task = 3;
}

-- The embargo is lifted.
abbrev pub a11 : State
a11 = record a10 {
  refs = m ((0, headed_by object 5) ∷ []);
  embargoes = m [];
  tasks = m ((4, 3) ∷ (3, 2) ∷ (2, 4) ∷ (1, 1) ∷ (0, 0) ∷ []);
  next_task = 5;
}

-- ---- What B holds: the promise, its export 1, and a reference to A's object, its import 0

abbrev pub import_node : Node
import_node = node.Import (export_id 0)

abbrev pub b0 : State
b0 = record (start B One None) {
  imports = m ((0, record { kind = sender.Hosted; count = 1; resolution = None }) ∷ []);
  exports = m ((1, record { node = node.Promise 0; count = 1 }) ∷ []);
  refs = m ((1, headed_by (node.Promise 0) 0) ∷ (0, headed_by import_node 0) ∷ []);
  promises = m ((0, promise.Open []) ∷ []);
  unsettled = m ((0, 0) ∷ []);
  next_ref = 2;
  next_promise = 1;
}

abbrev pub b1 : State
b1 = record b0 { answers = m ((0, open_answer 0) ∷ []); outcomes = m ((0, for_peer 0 None) ∷ []); promises = m ((0, promise.Open (waits 0 0 ∷ [])) ∷ []) }

abbrev pub b2 : State
b2 = record b1 {
  answers = m ((1, open_answer 1) ∷ (0, open_answer 0) ∷ []);
  outcomes = m ((1, for_peer 1 None) ∷ (0, for_peer 0 None) ∷ []);
  promises = m ((0, promise.Open (waits 0 0 ∷ waits 1 1 ∷ [])) ∷ []);
}

abbrev pub relay : ℕ → Question
relay o = record { role = role.Relay o; given = []; returned = None; finish = finishing.Owed }

-- The promise is resolved: its calls went on.
abbrev pub b3 : State
b3 = record b2 { questions = m ((1, relay 1) ∷ (0, relay 0) ∷ []); promises = m ((0, promise.Fixed import_node) ∷ []); unsettled = m [] }

abbrev pub b4 : State
b4 = record b3 {
  questions = m ((2, relay 2) ∷ (1, relay 1) ∷ (0, relay 0) ∷ []);
  answers = m ((2, open_answer 2) ∷ (1, open_answer 1) ∷ (0, open_answer 0) ∷ []);
  outcomes = m ((2, for_peer 2 None) ∷ (1, for_peer 1 None) ∷ (0, for_peer 0 None) ∷ []);
}

abbrev pub b5 : State
b5 = record b4 { exports = m [] }

-- ---- What happens

abbrev pub events : List Happening
events =
    did A (command.Call the_call) (granted.Call (call_id 0)) (sending (to_promise 0 ∷ []))
    ∷ did A (command.Call the_call) (granted.Call (call_id 1)) (sending (to_promise 1 ∷ []))
    ∷ took B (sending [])
    ∷ took B (sending [])
    ∷ did B (command.Resolve (record { 0 = 0 }) (ref_id 0)) granted.Done (sending (back_again 0 ∷ back_again 1 ∷ resolve ∷ []))
    ∷ did A (command.Call the_call) (granted.Call (call_id 2)) (sending (to_promise 2 ∷ []))
    ∷ took A (delivering (delivery 0 ∷ []))
    ∷ took A (delivering (delivery 1 ∷ []))
    ∷ took A (sending [])
    ∷ did A (command.Advance (ref_id 0)) (granted.Advanced advanced.Embargoed) (sending (disembargo ∷ release_message 1 1 ∷ []))
    ∷ did A (command.Call the_call) (granted.Call (call_id 3)) (sending [])
    ∷ did A (command.Call the_call) (granted.Call (call_id 4)) (sending [])
    ∷ []

abbrev pub echoing : List Happening
echoing =
    took B (sending (back_again 2 ∷ []))
    ∷ took B (sending (echo ∷ []))
    ∷ took B (sending [])
    ∷ took A (delivering (delivery 2 ∷ []))
    ∷ took A (delivering (delivery 3 ∷ delivery 4 ∷ []))
    ∷ []

abbrev pub before : World
before = between a0 [] b0 []

-- The reference has turned back, and two calls wait behind its Disembargo.
abbrev pub turned_back : World
turned_back = between a9 [] b3 (to_promise 2 ∷ disembargo ∷ release_message 1 1 ∷ [])

abbrev pub after : World
after = between a11 [] b5 []

abbrev pub the_ref : Ref
the_ref = record { vat = A; number = 0 }

abbrev pub in_order : List Stamp
in_order = stamp 0 ∷ stamp 1 ∷ stamp 2 ∷ stamp 3 ∷ stamp 4 ∷ []

-- The calls waiting behind the embargo stand before the one on its way; all are delivered as they were made.
pub record ResolvesAcross : Type 0 where
  pub turns : Run before events turned_back
  pub comes_back : Run turned_back echoing after
  pub made_so : made (journal events) the_ref ≡ in_order
  pub delivered_first : delivered (journal events) the_ref ≡ stamp 0 ∷ stamp 1 ∷ []
  pub delivered_then : delivered (journal echoing) the_ref ≡ stamp 2 ∷ stamp 3 ∷ stamp 4 ∷ []
  pub three_pending : pending turned_back the_ref ≡ stamp 3 ∷ stamp 4 ∷ stamp 2 ∷ []
  pub none_pending : pending after the_ref ≡ []
