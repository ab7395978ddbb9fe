-- Messages, as JSON: docs/trace.md, "Messages".
use Rattle.std.specs.Prelude.{ℕ, List, codes}
use Rattle.serde_json.specs.Data.{Data, boolean, string, object, no_members, member}
use Rattle.rpc_msg.specs.Payloads.{Contents as Payload}
use Rattle.rpc_msg.specs.declared.message.Call.{Call}
use Rattle.rpc_msg.specs.declared.message.ReturnBody.{ReturnBody}
use Rattle.rpc_msg.specs.declared.message.ReturnBody.TheVariants as body
use Rattle.rpc_msg.specs.declared.message.Return.{Return}
use Rattle.rpc_msg.specs.declared.message.Finish.{Finish}
use Rattle.rpc_msg.specs.declared.message.ResolvedTo.{ResolvedTo}
use Rattle.rpc_msg.specs.declared.message.ResolvedTo.TheVariants as to
use Rattle.rpc_msg.specs.declared.message.Resolve.{Resolve}
use Rattle.rpc_msg.specs.declared.message.Release.{Release}
use Rattle.rpc_msg.specs.declared.message.DisembargoContext.{DisembargoContext}
use Rattle.rpc_msg.specs.declared.message.DisembargoContext.TheVariants.{SenderLoopback, ReceiverLoopback}
use Rattle.rpc_msg.specs.declared.message.Disembargo.{Disembargo}
use Rattle.rpc_msg.specs.declared.message.PlainMessage.{PlainMessage}
use Rattle.rpc_msg.specs.declared.message.PlainMessage.TheVariants as plain
use Rattle.rpc_msg.specs.declared.message.Message.{Message}
use Rattle.rpc_msg.specs.declared.message.Message.TheVariants as message
use Rattle.trace_write.specs.declared.version.TraceVersion.{TraceVersion}
use Rattle.trace_write.specs.declared.version.TraceVersion.TheVariants.{One, Two}
use Rattle.trace_write.specs.Parts.{nat, list, only, descriptor_data, payload_data, stamp_data, target_data, exception_data}

abbrev pub call_by : (Payload → List ℕ × ℕ) → Call → Data
call_by shown c = object (
    member (codes "caps") (list descriptor_data c.descriptors) (
    member (codes "interface") (nat c.interface) (
    member (codes "method") (nat c.method) (
    member (codes "payload") (payload_data (shown c.payload)) (
    member (codes "question") (nat c.question.0) (
    member (codes "stamp") (stamp_data c.stamp) (
    member (codes "target") (target_data c.target) no_members)))))))

abbrev pub body_by : (Payload → List ℕ × ℕ) → ReturnBody → Data
body_by shown (body.Results p descriptors) = only (codes "results") (object (
    member (codes "caps") (list descriptor_data descriptors) (
    member (codes "payload") (payload_data (shown p)) no_members)))
body_by shown (body.Exception e) = only (codes "exception") (exception_data e)
body_by shown body.Canceled = string (codes "canceled")

-- the key of a Return's flag
abbrev pub param_caps_key : TraceVersion → List ℕ
param_caps_key One = codes "release"
param_caps_key Two = codes "releaseParamCaps"

abbrev pub return_by : TraceVersion → (Payload → List ℕ × ℕ) → Return → Data
return_by version shown r = object (
    member (codes "answer") (nat r.answer.0) (
    member (codes "body") (body_by shown r.body) (
    member (param_caps_key version) (boolean r.release_param_caps) no_members)))

-- the key of a Finish's flag
abbrev pub result_caps_key : TraceVersion → List ℕ
result_caps_key One = codes "release"
result_caps_key Two = codes "releaseResultCaps"

abbrev pub finish_data : TraceVersion → Finish → Data
finish_data version f = object (
    member (codes "question") (nat f.question.0) (
    member (result_caps_key version) (boolean f.release_result_caps) no_members))

abbrev pub resolved_data : ResolvedTo → Data
resolved_data (to.Cap d) = only (codes "cap") (descriptor_data d)
resolved_data (to.Exception e) = only (codes "exception") (exception_data e)

abbrev pub resolve_data : Resolve → Data
resolve_data r = object (
    member (codes "promise") (nat r.promise.0) (
    member (codes "to") (resolved_data r.to) no_members))

abbrev pub release_data : Release → Data
release_data r = object (
    member (codes "count") (nat r.count) (
    member (codes "id") (nat r.export.0) no_members))

abbrev pub context_data : DisembargoContext → Data
context_data (SenderLoopback id) = only (codes "senderLoopback") (nat id.0)
context_data (ReceiverLoopback id) = only (codes "receiverLoopback") (nat id.0)

abbrev pub disembargo_data : Disembargo → Data
disembargo_data d = object (
    member (codes "context") (context_data d.context) (
    member (codes "target") (target_data d.target) no_members))

abbrev pub plain_by : TraceVersion → (Payload → List ℕ × ℕ) → PlainMessage → Data
plain_by version shown (plain.Abort e) = only (codes "abort") (exception_data e)
plain_by version shown (plain.Bootstrap q) = only (codes "bootstrap") (only (codes "question") (nat q.0))
plain_by version shown (plain.Call c) = only (codes "call") (call_by shown c)
plain_by version shown (plain.Return r) = only (codes "return") (return_by version shown r)
plain_by version shown (plain.Finish f) = only (codes "finish") (finish_data version f)
plain_by version shown (plain.Resolve r) = only (codes "resolve") (resolve_data r)
plain_by version shown (plain.Release r) = only (codes "release") (release_data r)
plain_by version shown (plain.Disembargo d) = only (codes "disembargo") (disembargo_data d)
plain_by version shown (plain.Other number) = only (codes "other") (nat number)

abbrev pub message_by : TraceVersion → (Payload → List ℕ × ℕ) → Message → Data
message_by version shown (message.Plain m) = plain_by version shown m
message_by version shown (message.Unimplemented m) = only (codes "unimplemented") (plain_by version shown m)
