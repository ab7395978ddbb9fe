-- Steps of a reference that takes the shorter path to which its promise was resolved (docs/protocol.md, "Shortening a
-- path"): to another import; to nothing, from the moment at which the peer rejects the promise; to what an own answer
-- gave, which is another import, until a call that waited goes there.
use Rattle.std.specs.Prelude.{codes, ℕ, false, Option, None, Some, [], ◌∷◌}
use Rattle.rpc_msg.specs.declared.ids.Vat.TheVariants.{A, B}
use Rattle.rpc_msg.specs.declared.ids.EmbargoId.{EmbargoId}
use Rattle.rpc_msg.specs.declared.exception.Exception.{Exception}
use Rattle.rpc_msg.specs.declared.exception.ExceptionKind.TheVariants.{Overloaded}
use Rattle.rpc_msg.specs.declared.parts.Target.TheVariants.{ImportedCap, PromisedAnswer}
use Rattle.rpc_msg.specs.declared.parts.Descriptor.TheVariants as descriptor
use Rattle.rpc_msg.specs.declared.message.DisembargoContext.TheVariants.{SenderLoopback, ReceiverLoopback}
use Rattle.rpc_msg.specs.declared.message.ResolvedTo.TheVariants as resolved
use Rattle.rpc_msg.specs.declared.message.PlainMessage.TheVariants as plain
use Rattle.rpc_msg.specs.declared.message.Message.{Message}
use Rattle.rpc_msg.specs.declared.message.Message.TheVariants as message
use Rattle.rpc_journal.specs.declared.report.Advanced.TheVariants as advanced
use Rattle.rpc_machine.specs.Payloads.{bootstrap_payload}
use Rattle.rpc_machine.specs.declared.node.Node.{Node}
use Rattle.rpc_machine.specs.declared.node.Node.TheVariants as node
use Rattle.rpc_machine.specs.declared.node.Reason.TheVariants.{BrokenPromise}
use Rattle.rpc_machine.specs.declared.command.Command.TheVariants as command
use Rattle.rpc_machine.specs.declared.command.Granted.TheVariants as granted
use Rattle.rpc_machine.specs.declared.command.Level.TheVariants.{One}
use Rattle.rpc_machine.specs.declared.entries.AnswerEntry.{AnswerEntry}
use Rattle.rpc_machine.specs.declared.entries.Embargo.{Embargo}
use Rattle.rpc_machine.specs.declared.entries.Finishing.TheVariants as finishing
use Rattle.rpc_machine.specs.declared.entries.Import.{Import}
use Rattle.rpc_machine.specs.declared.entries.Question.{Question}
use Rattle.rpc_machine.specs.declared.entries.Reference.{Reference}
use Rattle.rpc_machine.specs.declared.entries.Resolution.{Resolution}
use Rattle.rpc_machine.specs.declared.entries.Resolution.TheVariants as resolution
use Rattle.rpc_machine.specs.declared.entries.Role.TheVariants as role
use Rattle.rpc_machine.specs.declared.entries.SenderKind.TheVariants as sender
use Rattle.rpc_machine.specs.declared.calls.Value.{Value}
use Rattle.rpc_machine.specs.declared.calls.Value.TheVariants as value
use Rattle.rpc_machine.specs.declared.command.CallCommand.{CallCommand}
use Rattle.rpc_machine.specs.declared.calls.Caller.TheVariants as caller
use Rattle.rpc_machine.specs.declared.calls.KeptOutcome.{KeptOutcome}
use Rattle.rpc_machine.specs.declared.calls.OwnCall.TheVariants as own
use Rattle.rpc_machine.specs.declared.calls.Promise.TheVariants as promise
use Rattle.rpc_machine.specs.declared.calls.WaitingCall.{WaitingCall}
use Rattle.rpc_journal.specs.declared.report.Ended.{Ended}
use Rattle.rpc_journal.specs.declared.report.Outcome.TheVariants as outcome
use Rattle.rpc_machine.specs.Routing.{failed}
use Rattle.rpc_machine.specs.State.{State, start}
use Rattle.rpc_machine.specs.Steps.{Does, Handles}
use Rattle.rpc_machine_examples.specs.Given.{m, null, call_id, telling, ref_id, question_id, export_id, stamp_of, headed_by, for_peer, call_message, release_message, sending}

abbrev pub wire : ℕ → Node
wire e = node.Import (export_id e)

abbrev pub promised : Option Resolution → Import
promised said = record { kind = sender.Promise; count = 1; resolution = said }

abbrev pub hosted : Import
hosted = record { kind = sender.Hosted; count = 1; resolution = None }

-- The reference 0 is headed by the promise, the import 1, of which a Resolve said that.
abbrev pub waits : Resolution → State
waits said = record (start A One None) { imports = m ((1, promised (Some said)) ∷ []); refs = m ((0, headed_by (wire 1) 0) ∷ []); next_ref = 1 }

-- ---- The peer's object

abbrev pub to_object : Resolution
to_object = resolution.To (descriptor.SenderHosted (export_id 2)) (wire 2)

abbrev pub before_switch : State
before_switch = record (waits to_object) { imports = m ((2, hosted) ∷ (1, promised (Some to_object)) ∷ []) }

abbrev pub after_switch : State
after_switch = record before_switch { imports = m ((2, hosted) ∷ []); refs = m ((0, headed_by (wire 2) 0) ∷ []) }

-- ---- An exception

abbrev pub busy : Exception
busy = record { kind = Overloaded; reason = [] }

abbrev pub to_nothing : Resolution
to_nothing = resolution.Exception busy

-- The peer rejects the promise, its export 1, and says so.
abbrev pub peer_promised : State
peer_promised = record (start B One None) {
  exports = m ((1, record { node = node.Promise 0; count = 1 }) ∷ []);
  refs = m ((0, headed_by (node.Promise 0) 0) ∷ []);
  promises = m ((0, promise.Open []) ∷ []);
  unsettled = m ((0, 0) ∷ []);
  next_ref = 1;
  next_promise = 1;
}

abbrev pub peer_rejected : State
peer_rejected = record peer_promised { promises = m ((0, promise.Fixed (node.Broken BrokenPromise)) ∷ []); unsettled = m [] }

abbrev pub rejection : Message
rejection = message.Plain (plain.Resolve (record { promise = export_id 1; to = resolved.Exception busy }))

-- It was not heard of yet.
abbrev pub unheard : State
unheard = record (waits to_nothing) { imports = m ((1, promised None) ∷ []) }

abbrev pub broken : State
broken = record (waits to_nothing) { imports = m []; refs = m ((0, headed_by (node.Broken BrokenPromise) 0) ∷ []) }

-- A call through it ends, and nothing is sent.
abbrev pub the_call : CallCommand
the_call = record { reference = ref_id 0; interface = 7; method = 1; payload = null; refs = [] }

abbrev pub why : Exception
why = failed (codes "broken promise")

abbrev pub own_outcome : Option Value → KeptOutcome
own_outcome v = record { caller = caller.Application (call_id 0); value = v; waiting = [] }

abbrev pub end_told : Ended
end_told = record { call = call_id 0; outcome = outcome.Exception why; refs = [] }

abbrev pub after_call : State
after_call = record broken {
  outcomes = m ((0, own_outcome (Some (value.Exception why))) ∷ []);
  calls = m ((0, own.Kept 0) ∷ []);
  refs = m ((0, headed_by (node.Broken BrokenPromise) 1) ∷ []);
  next_call = 1;
}

-- ---- A field of an own answer, which gave the import 3

abbrev pub own_field : Node
own_field = node.Field 0 []

abbrev pub to_answer : Resolution
to_answer = resolution.To (descriptor.ReceiverAnswer (question_id 5) []) own_field

abbrev pub gave : Value
gave = value.Results bootstrap_payload (wire 3 ∷ [])

abbrev pub answer : AnswerEntry
answer = record { outcome = 0; taken = []; returned = Some []; finished = false }

abbrev pub before_turn : State
before_turn = record (waits to_answer) {
  answers = m ((5, answer) ∷ []);
  outcomes = m ((0, for_peer 5 (Some gave)) ∷ []);
  imports = m ((3, hosted) ∷ (1, promised (Some to_answer)) ∷ []);
}

abbrev pub embargo_id : EmbargoId
embargo_id = record { 0 = 0 }

abbrev pub turned : Reference
turned = record { head = own_field; embargo = Some embargo_id; made = 0 }

abbrev pub embargo : Embargo
embargo = record { reference = ref_id 0; node = own_field; waiting = [] }

abbrev pub disembargo : Message
disembargo = message.Plain (plain.Disembargo (record { target = ImportedCap (export_id 1); context = SenderLoopback embargo_id }))

abbrev pub after_turn : State
after_turn = record before_turn { imports = m ((3, hosted) ∷ []); refs = m ((0, turned) ∷ []); embargoes = m ((0, embargo) ∷ []) }

-- A call through the reference waits.
abbrev pub held_call : WaitingCall
held_call = record { request = record { stamp = stamp_of A 0 0; interface = 7; method = 1; payload = null; caps = [] }; outcome = 1 }

abbrev pub call_held : State
call_held = record after_turn {
  outcomes = m ((1, own_outcome None) ∷ (0, for_peer 5 (Some gave)) ∷ []);
  calls = m ((0, own.Kept 1) ∷ []);
  refs = m ((0, record turned { made = 1 }) ∷ []);
  embargoes = m ((0, record embargo { waiting = held_call ∷ [] }) ∷ []);
  next_call = 1;
}

-- The Disembargo comes back, and the call goes to the import 3.
abbrev pub echo : Message
echo = message.Plain (plain.Disembargo (record { target = PromisedAnswer (question_id 5) []; context = ReceiverLoopback embargo_id }))

abbrev pub to_import : Message
to_import = call_message 0 (ImportedCap (export_id 3)) 7 1 null [] (stamp_of A 0 0)

abbrev pub relay : Question
relay = record { role = role.Relay 1; given = []; returned = None; finish = finishing.Owed }

abbrev pub gone_on : State
gone_on = record call_held { questions = m ((0, relay) ∷ []); refs = m ((0, headed_by own_field 1) ∷ []); embargoes = m [] }

pub record IsShortened : Type 0 where
  pub switched : Does before_switch (command.Advance (ref_id 0)) (granted.Advanced advanced.Switched) (sending (release_message 1 1 ∷ [])) after_switch
  pub rejected : Does peer_promised (command.Reject (record { 0 = 0 }) busy) granted.Done (sending (rejection ∷ [])) peer_rejected
  pub is_heard : Handles unheard rejection (sending []) (waits to_nothing)
  pub broke : Does (waits to_nothing) (command.Advance (ref_id 0)) (granted.Advanced advanced.Broke) (sending (release_message 1 1 ∷ [])) broken
  pub call_ends : Does broken (command.Call the_call) (granted.Call (call_id 0)) (telling (end_told ∷ [])) after_call
  pub turned_to_answer : Does before_turn (command.Advance (ref_id 0)) (granted.Advanced advanced.Embargoed) (sending (disembargo ∷ release_message 1 1 ∷ [])) after_turn
  pub call_waits : Does after_turn (command.Call the_call) (granted.Call (call_id 0)) (sending []) call_held
  pub call_goes_on : Handles call_held echo (sending (to_import ∷ [])) gone_on
