-- Reading messages.
use Rattle.std.specs.Prelude.{ℕ, ◌^◌, List, codes, Some, None, Ok, Err, if◌then◌else◌}
use Rattle.std.specs.Str.{bytes_eq}
use Rattle.serde_json.specs.Data.{Data, Members, null, boolean, number, string, array, object}
use Rattle.rpc_msg.specs.Payloads.{null_payload}
use Rattle.rpc_msg.specs.declared.ids.QuestionId.{QuestionId}
use Rattle.rpc_msg.specs.declared.ids.Stamp.{Stamp}
use Rattle.rpc_msg.specs.declared.parts.Target.{Target}
use Rattle.rpc_msg.specs.declared.message.Call.{Call}
use Rattle.rpc_msg.specs.declared.message.ReturnBody.{ReturnBody}
use Rattle.rpc_msg.specs.declared.message.ReturnBody.TheVariants as body
use Rattle.rpc_msg.specs.declared.message.Return.{Return}
use Rattle.rpc_msg.specs.declared.message.Finish.{Finish}
use Rattle.rpc_msg.specs.declared.message.ResolvedTo.{ResolvedTo}
use Rattle.rpc_msg.specs.declared.message.ResolvedTo.TheVariants as to
use Rattle.rpc_msg.specs.declared.message.Resolve.{Resolve}
use Rattle.rpc_msg.specs.declared.message.Release.{Release}
use Rattle.rpc_msg.specs.declared.message.DisembargoContext.{DisembargoContext}
use Rattle.rpc_msg.specs.declared.message.DisembargoContext.TheVariants.{SenderLoopback, ReceiverLoopback}
use Rattle.rpc_msg.specs.declared.message.Disembargo.{Disembargo}
use Rattle.rpc_msg.specs.declared.message.PlainMessage.{PlainMessage}
use Rattle.rpc_msg.specs.declared.message.PlainMessage.TheVariants as plain
use Rattle.rpc_msg.specs.declared.message.Message.{Message}
use Rattle.rpc_msg.specs.declared.message.Message.TheVariants as message
use Rattle.trace_json_parts.specs.declared.fault.Fault.TheVariants as fault
use Rattle.trace_write.specs.declared.version.TraceVersion.{TraceVersion}
use Rattle.trace_write.specs.Messages.{param_caps_key, result_caps_key}
use Rattle.trace_json_parts.specs.Reading.{Read, ◌>>=◌, members_at, nat_at, u64_at, flag_at, end_at, last_at, field_at, two_at, last_two_at, both_at, only_at, list_at}
use Rattle.trace_json_parts.specs.ReadParts.{Raw, descriptor_at, target_at, stamp_at, raw_at, exception_at}

-- what follows the payload
unfoldable pub call_rest : Members → Read (QuestionId × Stamp × Target)
call_rest ms = do
  question ← field_at (nat_at (2 ^ 32)) (codes "question") ms
  call ← last_two_at stamp_at target_at (codes "stamp") (codes "target") question.1
  Ok (record { 0 = question.0 }, call.0, call.1)

unfoldable pub call_at : Data → Read (Call × Raw)
call_at d = do
  ms ← members_at d
  caps ← two_at (list_at descriptor_at) u64_at (codes "caps") (codes "interface") ms
  method ← field_at (nat_at (2 ^ 16)) (codes "method") caps.2
  raw ← field_at raw_at (codes "payload") method.1
  rest ← call_rest raw.1
  Ok (record { question = rest.0; target = rest.2; interface = caps.1; method = method.0; payload = null_payload; descriptors = caps.0; stamp = rest.1 }, Some raw.0)

unfoldable pub results_at : Data → Read (ReturnBody × Raw)
results_at d = do
  ms ← members_at d
  caps ← field_at (list_at descriptor_at) (codes "caps") ms
  raw ← field_at raw_at (codes "payload") caps.1
  end ← end_at raw.1
  Ok (body.Results null_payload caps.0, Some raw.0)

abbrev pub body_under : List ℕ → Data → Read (ReturnBody × Raw)
body_under key d =
    if bytes_eq key (codes "results") then results_at d
    else if bytes_eq key (codes "exception") then (exception_at d >>= λ e. Ok (body.Exception e, None))
    else Err fault.WrongShape

unfoldable pub tagged_body : Data → Read (ReturnBody × Raw)
tagged_body d = only_at d >>= λ m. body_under m.0 m.1

abbrev pub body_at : Data → Read (ReturnBody × Raw)
body_at (string s) = if bytes_eq s (codes "canceled") then Ok (body.Canceled, None) else Err fault.WrongShape
body_at null = Err fault.WrongShape
body_at (boolean b) = Err fault.WrongShape
body_at (number n) = Err fault.WrongShape
body_at (array ds) = Err fault.WrongShape
body_at (object ms) = tagged_body (object ms)

unfoldable pub return_at : TraceVersion → Data → Read (Return × Raw)
return_at version d = do
  ms ← members_at d
  answer ← field_at (nat_at (2 ^ 32)) (codes "answer") ms
  body ← field_at body_at (codes "body") answer.1
  flag ← last_at (flag_at version) (param_caps_key version) body.1
  Ok (record { answer = record { 0 = answer.0 }; release_param_caps = flag; body = body.0.0 }, body.0.1)

unfoldable pub finish_at : TraceVersion → Data → Read Finish
finish_at version d = do
  ms ← members_at d
  question ← field_at (nat_at (2 ^ 32)) (codes "question") ms
  flag ← last_at (flag_at version) (result_caps_key version) question.1
  Ok (record { question = record { 0 = question.0 }; release_result_caps = flag })

abbrev pub resolved_under : List ℕ → Data → Read ResolvedTo
resolved_under key d =
    if bytes_eq key (codes "cap") then (descriptor_at d >>= λ c. Ok (to.Cap c))
    else if bytes_eq key (codes "exception") then (exception_at d >>= λ e. Ok (to.Exception e))
    else Err fault.WrongShape

unfoldable pub resolved_at : Data → Read ResolvedTo
resolved_at d = only_at d >>= λ m. resolved_under m.0 m.1

unfoldable pub resolve_at : Data → Read Resolve
resolve_at d = both_at (nat_at (2 ^ 32)) resolved_at (codes "promise") (codes "to") d >>= λ r. Ok (record { promise = record { 0 = r.0 }; to = r.1 })

unfoldable pub release_at : Data → Read Release
release_at d = both_at (nat_at (2 ^ 32)) (nat_at (2 ^ 32)) (codes "count") (codes "id") d >>= λ r. Ok (record { export = record { 0 = r.1 }; count = r.0 })

abbrev pub context_under : List ℕ → Data → Read DisembargoContext
context_under key d =
    if bytes_eq key (codes "senderLoopback") then (nat_at (2 ^ 32) d >>= λ n. Ok (SenderLoopback (record { 0 = n })))
    else if bytes_eq key (codes "receiverLoopback") then (nat_at (2 ^ 32) d >>= λ n. Ok (ReceiverLoopback (record { 0 = n })))
    else Err fault.WrongShape

unfoldable pub context_at : Data → Read DisembargoContext
context_at d = only_at d >>= λ m. context_under m.0 m.1

unfoldable pub disembargo_at : Data → Read Disembargo
disembargo_at d = both_at context_at target_at (codes "context") (codes "target") d >>= λ e. Ok (record { target = e.1; context = e.0 })

unfoldable pub bootstrap_at : Data → Read QuestionId
bootstrap_at d = do
  ms ← members_at d
  question ← last_at (nat_at (2 ^ 32)) (codes "question") ms
  Ok (record { 0 = question })

-- a message without a payload
abbrev pub bare_under : TraceVersion → List ℕ → Data → Read PlainMessage
bare_under version key d =
    if bytes_eq key (codes "abort") then (exception_at d >>= λ e. Ok (plain.Abort e))
    else if bytes_eq key (codes "bootstrap") then (bootstrap_at d >>= λ q. Ok (plain.Bootstrap q))
    else if bytes_eq key (codes "finish") then (finish_at version d >>= λ f. Ok (plain.Finish f))
    else if bytes_eq key (codes "resolve") then (resolve_at d >>= λ r. Ok (plain.Resolve r))
    else if bytes_eq key (codes "release") then (release_at d >>= λ r. Ok (plain.Release r))
    else if bytes_eq key (codes "disembargo") then (disembargo_at d >>= λ e. Ok (plain.Disembargo e))
    else if bytes_eq key (codes "other") then (nat_at (2 ^ 16) d >>= λ n. Ok (plain.Other n))
    else Err fault.WrongShape

abbrev pub plain_under : TraceVersion → List ℕ → Data → Read (PlainMessage × Raw)
plain_under version key d =
    if bytes_eq key (codes "call") then (call_at d >>= λ c. Ok (plain.Call c.0, c.1))
    else if bytes_eq key (codes "return") then (return_at version d >>= λ r. Ok (plain.Return r.0, r.1))
    else (bare_under version key d >>= λ m. Ok (m, None))

unfoldable pub plain_at : TraceVersion → Data → Read (PlainMessage × Raw)
plain_at version d = only_at d >>= λ m. plain_under version m.0 m.1

abbrev pub message_under : TraceVersion → List ℕ → Data → Read (Message × Raw)
message_under version key d =
    if bytes_eq key (codes "unimplemented") then (plain_at version d >>= λ m. Ok (message.Unimplemented m.0, m.1))
    else (plain_under version key d >>= λ m. Ok (message.Plain m.0, m.1))

unfoldable pub message_at : TraceVersion → Data → Read (Message × Raw)
message_at version d = only_at d >>= λ m. message_under version m.0 m.1
