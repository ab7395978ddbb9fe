-- What a vat holds, says and is told over a wire and in one world at once. The two differ in stamps, in contents, in why nodes
-- are broken, and in the vat's letter. Of each type `.._at false` is what it is over the wire, and `.._at true` what it is in one world. A field that is a
-- function of `Bool` has the two in the same way.
use Rattle.std.specs.Prelude.{◌≡◌, ℕ, Bool, true, false, Option, List, map}
use Rattle.finite_maps.specs.Tally.{Map, map_values, option_changed}
use Rattle.rpc_msg.specs.Op.{Op}
use Rattle.rpc_msg.specs.Payloads.{Contents}
use Rattle.rpc_msg.specs.declared.ids.RefId.{RefId}
use Rattle.rpc_msg.specs.declared.ids.CallId.{CallId}
use Rattle.rpc_msg.specs.declared.ids.ExportId.{ExportId}
use Rattle.rpc_msg.specs.declared.ids.QuestionId.{QuestionId}
use Rattle.rpc_msg.specs.declared.ids.Stamp.{Stamp}
use Rattle.rpc_msg.specs.declared.ids.Vat.{Vat}
use Rattle.rpc_msg.specs.declared.exception.Exception.{Exception}
use Rattle.rpc_msg.specs.declared.ids.EmbargoId.{EmbargoId}
use Rattle.rpc_msg.specs.declared.parts.Descriptor.{Descriptor}
use Rattle.rpc_msg.specs.declared.parts.Descriptor.TheVariants as descriptor
use Rattle.rpc_msg.specs.declared.message.ResolvedTo.TheVariants as resolved
use Rattle.rpc_msg.specs.declared.message.Call.{Call}
use Rattle.rpc_msg.specs.declared.message.ReturnBody.{ReturnBody}
use Rattle.rpc_msg.specs.declared.message.ReturnBody.TheVariants as body
use Rattle.rpc_msg.specs.declared.message.PlainMessage.{PlainMessage}
use Rattle.rpc_msg.specs.declared.message.PlainMessage.TheVariants as plain
use Rattle.rpc_msg.specs.declared.message.Message.{Message}
use Rattle.rpc_msg.specs.declared.message.Message.TheVariants as message
use Rattle.rpc_journal.specs.declared.report.Outcome.{Outcome}
use Rattle.rpc_journal.specs.declared.report.Outcome.TheVariants as outcome
use Rattle.rpc_journal.specs.declared.report.Delivery.{Delivery}
use Rattle.rpc_journal.specs.declared.report.Ended.{Ended}
use Rattle.rpc_machine.specs.declared.node.Node.{Node}
use Rattle.rpc_machine.specs.declared.node.Node.TheVariants as node
use Rattle.rpc_machine.specs.declared.node.Reason.{Reason}
use Rattle.rpc_machine.specs.declared.node.Reason.TheVariants.{NullCapability}
use Rattle.rpc_machine.specs.declared.calls.Request.{Request}
use Rattle.rpc_machine.specs.declared.calls.WaitingCall.{WaitingCall}
use Rattle.rpc_machine.specs.declared.calls.HeldCall.{HeldCall}
use Rattle.rpc_machine.specs.declared.calls.Caller.{Caller}
use Rattle.rpc_machine.specs.declared.calls.Value.{Value}
use Rattle.rpc_machine.specs.declared.calls.Value.TheVariants as value
use Rattle.rpc_machine.specs.declared.calls.KeptOutcome.{KeptOutcome}
use Rattle.rpc_machine.specs.declared.calls.Promise.{Promise}
use Rattle.rpc_machine.specs.declared.calls.Promise.TheVariants as promise
use Rattle.rpc_machine.specs.declared.entries.Role.{Role}
use Rattle.rpc_machine.specs.declared.entries.Finishing.{Finishing}
use Rattle.rpc_machine.specs.declared.entries.Returned.{Returned}
use Rattle.rpc_machine.specs.declared.entries.Returned.TheVariants as back
use Rattle.rpc_machine.specs.declared.entries.Question.{Question}
use Rattle.rpc_machine.specs.declared.entries.Embargo.{Embargo}
use Rattle.rpc_machine.specs.declared.entries.SenderKind.{SenderKind}
use Rattle.rpc_machine.specs.declared.entries.Resolution.{Resolution}
use Rattle.rpc_machine.specs.declared.entries.Resolution.TheVariants as resolution
use Rattle.rpc_machine.specs.declared.entries.Import.{Import}
use Rattle.rpc_machine.specs.declared.entries.Reference.{Reference}
use Rattle.rpc_machine.specs.declared.command.Effects.{Effects}
use Rattle.rpc_machine.specs.State.{State}
use Rattle.rpc_machine.specs.Routing.{failed, reason_text}
use Rattle.laws_wired.specs.Contents.{SaysNone, SayWithout, EachLost}

-- ---- what differs

-- Contents, over the wire with null in the place of the capabilities that are lost.
pub record TwoContents : Type 0 where
  pub at : Bool → Contents
  pub lost : ℕ → Bool
  pub like : SayWithout lost (at false) (at true)

-- A node that is the same in both; or one that is broken in both, for a reason that may differ.
pub data TwoNodes : Type 0 where
  OneNode : Node → TwoNodes
  BothBroken : (Bool → Reason) → TwoNodes

abbrev pub node_at : Bool → TwoNodes → Node
node_at b (OneNode n) = n
node_at b (BothBroken why) = node.Broken (why b)

-- It is broken.
abbrev pub IsBroken : TwoNodes → Type 0
IsBroken n = (reason : Reason) × (node_at true n ≡ node.Broken reason)

-- An exception that is the same in both; or the one that says why such a node is broken.
pub data TwoExceptions : Type 0 where
  OneException : Exception → TwoExceptions
  SaysWhy : (Bool → Reason) → TwoExceptions

abbrev pub exception_at : Bool → TwoExceptions → Exception
exception_at b (OneException e) = e
exception_at b (SaysWhy why) = failed (reason_text (why b))

-- ---- what a vat holds, as in `rpc_machine`

-- A call. What is lost of it is broken.
pub record TwoRequests : Type 0 where
  pub stamp : Bool → Stamp
  pub interface : ℕ
  pub method : ℕ
  pub payload : TwoContents
  pub caps : List TwoNodes
  pub gone : EachLost IsBroken caps payload.lost

abbrev pub request_at : Bool → TwoRequests → Request
request_at b r = record { stamp = r.stamp b; interface = r.interface; method = r.method; payload = r.payload.at b; caps = map (node_at b) r.caps }

-- A call that waits, whose outcome is kept here.
pub record TwoWaiting : Type 0 where
  pub request : TwoRequests
  pub outcome : ℕ

abbrev pub waiting_at : Bool → TwoWaiting → WaitingCall
waiting_at b c = record { request = request_at b c.request; outcome = c.outcome }

-- A call that waits for what stands at a path of an outcome.
pub record TwoHeld : Type 0 where
  pub path : List Op
  pub call : TwoWaiting

abbrev pub held_at : Bool → TwoHeld → HeldCall
held_at b h = record { path = h.path; call = waiting_at b h.call }

-- How a call ended. What is lost of results is broken.
pub data TwoValues : Type 0 where
  Results : (x : TwoContents) (caps : List TwoNodes) → EachLost IsBroken caps x.lost → TwoValues
  Failure : TwoExceptions → TwoValues

abbrev pub value_at : Bool → TwoValues → Value
value_at b (Results x caps gone) = value.Results (x.at b) (map (node_at b) caps)
value_at b (Failure e) = value.Exception (exception_at b e)

-- An outcome, and the calls that wait for it.
pub record TwoKept : Type 0 where
  pub caller : Caller
  pub value : Option TwoValues
  pub waiting : List TwoHeld

abbrev pub kept_at : Bool → TwoKept → KeptOutcome
kept_at b x = record { caller = x.caller; value = option_changed (value_at b) x.value; waiting = map (held_at b) x.waiting }

-- An own promise: the calls that wait for it, or what it was fixed to.
pub data TwoPromises : Type 0 where
  Open : List TwoWaiting → TwoPromises
  Fixed : TwoNodes → TwoPromises

abbrev pub promise_at : Bool → TwoPromises → Promise
promise_at b (Open calls) = promise.Open (map (waiting_at b) calls)
promise_at b (Fixed to) = promise.Fixed (node_at b to)

-- An embargo, and the calls that wait behind it.
pub record TwoEmbargoes : Type 0 where
  pub reference : RefId
  pub node : Node
  pub waiting : List TwoWaiting

abbrev pub embargo_at : Bool → TwoEmbargoes → Embargo
embargo_at b x = record { reference = x.reference; node = x.node; waiting = map (waiting_at b) x.waiting }

-- A descriptor that says none, and its node.
abbrev pub IsAbsent : Descriptor × Node → Type 0
IsAbsent c = (c.0 ≡ descriptor.None) × (c.1 ≡ node.Broken NullCapability)

-- What a Return said. What is lost of results is none by its descriptor.
pub data TwoReturned : Type 0 where
  Gave : (x : TwoContents) (caps : List (Descriptor × Node)) → EachLost IsAbsent caps x.lost → TwoReturned
  Failed : TwoExceptions → TwoReturned

abbrev pub returned_at : Bool → TwoReturned → Returned
returned_at b (Gave x caps gone) = back.Results (x.at b) caps
returned_at b (Failed e) = back.Exception (exception_at b e)

-- What the vat asked.
pub record TwoQuestions : Type 0 where
  pub role : Role
  pub given : List ExportId
  pub returned : Option TwoReturned
  pub finish : Finishing

abbrev pub question_at : Bool → TwoQuestions → Question
question_at b x = record { role = x.role; given = x.given; returned = option_changed (returned_at b) x.returned; finish = x.finish }

-- A reference of the application.
pub record TwoReferences : Type 0 where
  pub head : TwoNodes
  pub embargo : Option EmbargoId
  pub made : ℕ

abbrev pub reference_at : Bool → TwoReferences → Reference
reference_at b x = record { head = node_at b x.head; embargo = x.embargo; made = x.made }

-- What a Resolve said.
pub data TwoResolutions : Type 0 where
  LedTo : Descriptor → Node → TwoResolutions
  Broke : TwoExceptions → TwoResolutions

abbrev pub resolution_at : Bool → TwoResolutions → Resolution
resolution_at b (LedTo d n) = resolution.To d n
resolution_at b (Broke e) = resolution.Exception (exception_at b e)

-- An export of the peer.
pub record TwoImports : Type 0 where
  pub kind : SenderKind
  pub count : ℕ
  pub resolution : Option TwoResolutions

abbrev pub import_at : Bool → TwoImports → Import
import_at b x = record { kind = x.kind; count = x.count; resolution = option_changed (resolution_at b) x.resolution }

-- A state: the vat's letter and the tables that differ, and a state of which all others are taken.
pub record TwoStates : Type 0 where
  pub rest : State
  pub vat : Bool → Vat
  pub questions : Map TwoQuestions
  pub imports : Map TwoImports
  pub refs : Map TwoReferences
  pub promises : Map TwoPromises
  pub outcomes : Map TwoKept
  pub embargoes : Map TwoEmbargoes

abbrev pub state_at : Bool → TwoStates → State
state_at b z = record (z.rest) {
  vat = z.vat b;
  questions = map_values (question_at b) z.questions;
  imports = map_values (import_at b) z.imports;
  refs = map_values (reference_at b) z.refs;
  promises = map_values (promise_at b) z.promises;
  outcomes = map_values (kept_at b) z.outcomes;
  embargoes = map_values (embargo_at b) z.embargoes;
}

-- ---- what a vat says and is told

-- That Call, with this stamp and these contents.
abbrev pub call_saying : Call → Stamp → Contents → Message
call_saying c stamp p = message.Plain (plain.Call (record c { stamp = stamp; payload = p }))

-- A Return that says this.
abbrev pub return_saying : QuestionId → Bool → ReturnBody → Message
return_saying a flag said = message.Plain (plain.Return (record { answer = a; release_param_caps = flag; body = said }))

-- A Resolve that says why a node is broken.
abbrev pub resolve_saying : ExportId → Reason → PlainMessage
resolve_saying e why = plain.Resolve (record { promise = e; to = resolved.Exception (failed (reason_text why)) })

-- A message that is the same in both; a Call or a Return of results, of which those are lost that are none by its descriptors; a
-- Return or a Resolve that says why a node is broken; or such a Resolve that a level 0 vat sends back.
pub data TwoMessages : Type 0 where
  Same : Message → TwoMessages
  Calls : (c : Call) → (Bool → Stamp) → (x : TwoContents) → EachLost SaysNone c.descriptors x.lost → TwoMessages
  Returns : QuestionId → Bool → (x : TwoContents) (ds : List Descriptor) → EachLost SaysNone ds x.lost → TwoMessages
  ReturnsWhy : QuestionId → Bool → (Bool → Reason) → TwoMessages
  ResolvesWhy : ExportId → (Bool → Reason) → TwoMessages
  SendsBack : ExportId → (Bool → Reason) → TwoMessages

abbrev pub message_at : Bool → TwoMessages → Message
message_at b (Same m) = m
message_at b (Calls c stamp x gone) = call_saying c (stamp b) (x.at b)
message_at b (Returns a flag x ds gone) = return_saying a flag (body.Results (x.at b) ds)
message_at b (ReturnsWhy a flag why) = return_saying a flag (body.Exception (failed (reason_text (why b))))
message_at b (ResolvesWhy e why) = message.Plain (resolve_saying e (why b))
message_at b (SendsBack e why) = message.Unimplemented (resolve_saying e (why b))

-- A delivery; its stamp and contents differ.
pub record TwoDeliveries : Type 0 where
  pub of : Delivery
  pub stamp : Bool → Stamp
  pub payload : TwoContents

abbrev pub delivery_at : Bool → TwoDeliveries → Delivery
delivery_at b d = record (d.of) { stamp = d.stamp b; payload = d.payload.at b }

-- How a call ended, as the application is told.
pub data TwoOutcomes : Type 0 where
  Ends : TwoContents → TwoOutcomes
  Fails : TwoExceptions → TwoOutcomes

abbrev pub outcome_at : Bool → TwoOutcomes → Outcome
outcome_at b (Ends x) = outcome.Results (x.at b)
outcome_at b (Fails e) = outcome.Exception (exception_at b e)

-- The end of a call.
pub record TwoEnded : Type 0 where
  pub call : CallId
  pub outcome : TwoOutcomes
  pub refs : List RefId

abbrev pub ended_at : Bool → TwoEnded → Ended
ended_at b x = record { call = x.call; outcome = outcome_at b x.outcome; refs = x.refs }

-- What a step says, delivers and ends, and whether it takes the vat down.
pub record TwoEffects : Type 0 where
  pub sends : List TwoMessages
  pub deliveries : List TwoDeliveries
  pub answers : List TwoEnded
  pub down : Option ℕ

abbrev pub effects_at : Bool → TwoEffects → Effects
effects_at b e = record { sends = map (message_at b) e.sends; deliveries = map (delivery_at b) e.deliveries; answers = map (ended_at b) e.answers; down = e.down }
