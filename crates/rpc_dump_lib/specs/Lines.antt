-- The line of what a frame says: docs/messages.md. It is that of the message in a trace (docs/trace.md, "Messages"), but
-- that a Call has no stamp, since no bytes have one; what is no message there has a form of its own.
use Rattle.std.specs.Prelude.{ℕ, Bool, true, false, List, codes}
use Rattle.serde_json.specs.Data.{Data, boolean, string, object, no_members, member}
use Rattle.rpc_msg.specs.Payloads.{Contents as Payload, tree_of}
use Rattle.rpc_msg.specs.declared.parts.Descriptor.{Descriptor}
use Rattle.rpc_msg.specs.declared.message.Call.{Call}
use Rattle.rpc_msg.specs.declared.message.ReturnBody.{ReturnBody}
use Rattle.rpc_msg.specs.declared.message.ReturnBody.TheVariants as body
use Rattle.rpc_msg.specs.declared.message.Return.{Return}
use Rattle.rpc_msg.specs.declared.message.PlainMessage.{PlainMessage}
use Rattle.rpc_msg.specs.declared.message.PlainMessage.TheVariants as plain
use Rattle.rpc_msg.specs.declared.message.Message.{Message}
use Rattle.rpc_msg.specs.declared.message.Message.TheVariants as message
use Rattle.trace_write.specs.declared.version.TraceVersion.TheVariants.{Two}
use Rattle.trace_write.specs.Parts.{nat, list, only, descriptor_data, payload_data, in_base64, target_data}
use Rattle.trace_write.specs.Messages.{body_by, plain_by}
use Rattle.rpc_dump_lib.specs.Trees.{tree_data}
use Rattle.rpc_codec.specs.Envelopes.{What, profile, tail_call, sent_elsewhere, taken_from_other, strange}
use Rattle.rpc_codec.specs.declared.envelope.SentElsewhere.{SentElsewhere}
use Rattle.rpc_codec.specs.declared.envelope.TakenFromOther.{TakenFromOther}

-- A payload as traces have it, with its tree beside it where trees are asked for.
abbrev pub payload_as : Bool → Payload → Data
payload_as false p = payload_data (in_base64 p)
payload_as true p = object (
    member (codes "bytes") (string (in_base64 p).0) (
    member (codes "caps") (nat (in_base64 p).1) (
    member (codes "tree") (tree_data (tree_of p)) no_members)))

abbrev pub call_as : Bool → Call → Data
call_as trees c = object (
    member (codes "caps") (list descriptor_data c.descriptors) (
    member (codes "interface") (nat c.interface) (
    member (codes "method") (nat c.method) (
    member (codes "payload") (payload_as trees c.payload) (
    member (codes "question") (nat c.question.0) (
    member (codes "target") (target_data c.target) no_members))))))

abbrev pub results_as : Bool → Payload → List Descriptor → Data
results_as trees p descriptors = object (
    member (codes "caps") (list descriptor_data descriptors) (
    member (codes "payload") (payload_as trees p) no_members))

abbrev pub body_as : Bool → ReturnBody → Data
body_as trees (body.Results p descriptors) = only (codes "results") (results_as trees p descriptors)
body_as trees (body.Exception e) = body_by in_base64 (body.Exception e)
body_as trees body.Canceled = body_by in_base64 body.Canceled

abbrev pub return_as : Bool → Return → Data
return_as trees r = object (
    member (codes "answer") (nat r.answer.0) (
    member (codes "body") (body_as trees r.body) (
    member (codes "releaseParamCaps") (boolean r.release_param_caps) no_members)))

-- a message that is no Unimplemented
abbrev pub known_as : Bool → PlainMessage → Data
known_as trees (plain.Call c) = only (codes "call") (call_as trees c)
known_as trees (plain.Return r) = only (codes "return") (return_as trees r)
known_as trees m = plain_by Two in_base64 m

abbrev pub message_as : Bool → Message → Data
message_as trees (message.Plain m) = known_as trees m
message_as trees (message.Unimplemented m) = only (codes "unimplemented") (known_as trees m)

abbrev pub elsewhere_data : SentElsewhere → Data
elsewhere_data s = object (
    member (codes "answer") (nat s.answer.0) (
    member (codes "releaseParamCaps") (boolean s.release_param_caps) no_members))

abbrev pub taken_data : TakenFromOther → Data
taken_data t = object (
    member (codes "answer") (nat t.answer.0) (
    member (codes "question") (nat t.question.0) (
    member (codes "releaseParamCaps") (boolean t.release_param_caps) no_members)))

-- the line's value of what came
abbrev pub what_as : Bool → What → Data
what_as trees (profile m) = message_as trees m
what_as trees (tail_call c) = only (codes "tailCall") (call_as trees c)
what_as trees (sent_elsewhere s) = only (codes "resultsSentElsewhere") (elsewhere_data s)
what_as trees (taken_from_other t) = only (codes "takeFromOtherQuestion") (taken_data t)
what_as trees (strange number t) = only (codes "unknown") (nat number)

-- in place of a frame that says nothing: why not
abbrev pub fault_data : ℕ → Data
fault_data number = only (codes "fault") (nat number)
