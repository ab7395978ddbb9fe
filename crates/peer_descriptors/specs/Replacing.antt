-- An envelope with other descriptors in the place of its own: those of a Call, of the results of a Return, and of a Resolve.
use Rattle.std.specs.Prelude.{List, [], ◌∷◌}
use Rattle.rpc_msg.specs.declared.parts.Descriptor.{Descriptor}
use Rattle.rpc_msg.specs.declared.message.Call.{Call}
use Rattle.rpc_msg.specs.declared.message.Return.{Return}
use Rattle.rpc_msg.specs.declared.message.ReturnBody.{ReturnBody}
use Rattle.rpc_msg.specs.declared.message.ReturnBody.TheVariants as body
use Rattle.rpc_msg.specs.declared.message.Resolve.{Resolve}
use Rattle.rpc_msg.specs.declared.message.ResolvedTo.{ResolvedTo}
use Rattle.rpc_msg.specs.declared.message.ResolvedTo.TheVariants as resolved
use Rattle.rpc_msg.specs.declared.message.PlainMessage.{PlainMessage}
use Rattle.rpc_msg.specs.declared.message.PlainMessage.TheVariants as plain
use Rattle.rpc_msg.specs.declared.message.Message.{Message}
use Rattle.rpc_msg.specs.declared.message.Message.TheVariants as message
use Rattle.rpc_codec.specs.Envelopes.{What, profile, tail_call, sent_elsewhere, taken_from_other, strange}

abbrev pub call_with : Call → List Descriptor → Call
call_with c ds = record c { descriptors = ds }

abbrev pub body_with : ReturnBody → List Descriptor → ReturnBody
body_with (body.Results p own) ds = body.Results p ds
body_with (body.Exception e) ds = body.Exception e
body_with body.Canceled ds = body.Canceled

abbrev pub return_with : Return → List Descriptor → Return
return_with r ds = record r { body = body_with r.body ds }

abbrev pub first_or : List Descriptor → Descriptor → Descriptor
first_or [] d = d
first_or (first ∷ ds) d = first

abbrev pub resolved_with : ResolvedTo → List Descriptor → ResolvedTo
resolved_with (resolved.Cap own) ds = resolved.Cap (first_or ds own)
resolved_with (resolved.Exception e) ds = resolved.Exception e

abbrev pub resolve_with : Resolve → List Descriptor → Resolve
resolve_with r ds = record r { to = resolved_with r.to ds }

abbrev pub plain_with : PlainMessage → List Descriptor → PlainMessage
plain_with (plain.Call c) ds = plain.Call (call_with c ds)
plain_with (plain.Return r) ds = plain.Return (return_with r ds)
plain_with (plain.Resolve r) ds = plain.Resolve (resolve_with r ds)
plain_with m ds = m

abbrev pub message_with : Message → List Descriptor → Message
message_with (message.Plain m) ds = message.Plain (plain_with m ds)
message_with (message.Unimplemented m) ds = message.Unimplemented m

abbrev pub what_with : What → List Descriptor → What
what_with (profile m) ds = profile (message_with m ds)
what_with (tail_call c) ds = tail_call (call_with c ds)
what_with (sent_elsewhere s) ds = sent_elsewhere s
what_with (taken_from_other s) ds = taken_from_other s
what_with (strange n original) ds = strange n original
