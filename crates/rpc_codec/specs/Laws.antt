-- Messages that are read back from their frames.
use Rattle.std.specs.Prelude.{◌≡◌, ◌^◌, ◌<◌, Ok}
use Rattle.std.specs.Str.{IsUtf8}
use Rattle.capn_trees.specs.Trees.{Tree}
use Rattle.rpc_msg.specs.declared.ids.Stamp.{Stamp}
use Rattle.rpc_msg.specs.declared.message.Call.{Call}
use Rattle.rpc_msg.specs.declared.message.ReturnBody.{ReturnBody}
use Rattle.rpc_msg.specs.declared.message.ReturnBody.TheVariants as body
use Rattle.rpc_msg.specs.declared.message.ResolvedTo.{ResolvedTo}
use Rattle.rpc_msg.specs.declared.message.ResolvedTo.TheVariants as to
use Rattle.rpc_msg.specs.declared.message.DisembargoContext.{DisembargoContext}
use Rattle.rpc_msg.specs.declared.message.DisembargoContext.TheVariants.{SenderLoopback, ReceiverLoopback}
use Rattle.rpc_msg.specs.declared.message.PlainMessage.{PlainMessage}
use Rattle.rpc_msg.specs.declared.message.PlainMessage.TheVariants as plain
use Rattle.rpc_msg.specs.declared.message.Message.{Message}
use Rattle.rpc_msg.specs.declared.message.Message.TheVariants as message
use Rattle.rpc_codec_parts.specs.Fitting.{rewritten, FitsTarget, FitsDescriptor, FitsPayload}
use Rattle.rpc_codec.specs.declared.envelope.SentElsewhere.{SentElsewhere}
use Rattle.rpc_codec.specs.Envelopes.{profile, sent_elsewhere}
use Rattle.rpc_codec.specs.Decoding.{envelope_of}
use Rattle.rpc_codec.specs.Frames.{envelope, message_tree}
use Rattle.rpc_codec.specs.Returns.{sent_elsewhere_tree}

-- ---- what is read back: contents as they are laid out anew, and another stamp

abbrev pub stamped_call : Stamp → Call → Call
stamped_call stamp c = record c { payload = rewritten c.payload; stamp = stamp }

abbrev pub stamped_body : ReturnBody → ReturnBody
stamped_body (body.Results p ds) = body.Results (rewritten p) ds
stamped_body (body.Exception e) = body.Exception e
stamped_body body.Canceled = body.Canceled

abbrev pub stamped_plain : Stamp → PlainMessage → PlainMessage
stamped_plain stamp (plain.Abort e) = plain.Abort e
stamped_plain stamp (plain.Bootstrap q) = plain.Bootstrap q
stamped_plain stamp (plain.Call c) = plain.Call (stamped_call stamp c)
stamped_plain stamp (plain.Return r) = plain.Return (record r { body = stamped_body r.body })
stamped_plain stamp (plain.Finish f) = plain.Finish f
stamped_plain stamp (plain.Resolve r) = plain.Resolve r
stamped_plain stamp (plain.Release r) = plain.Release r
stamped_plain stamp (plain.Disembargo d) = plain.Disembargo d
stamped_plain stamp (plain.Other n) = plain.Other n

abbrev pub stamped : Stamp → Message → Message
stamped stamp (message.Plain m) = message.Plain (stamped_plain stamp m)
stamped stamp (message.Unimplemented m) = message.Unimplemented (stamped_plain stamp m)

-- ---- what holds of each message of the profile: numbers within their widths, paths of at most 16 steps, reasons in
-- UTF-8, and payloads that can be laid out by themselves and have a descriptor for each of at most 4,096 capabilities

pub record FitsCall (c : Call) : Type 0 where
  pub question : c.question.0 < 2 ^ 32
  pub interface : c.interface < 2 ^ 64
  pub method : c.method < 2 ^ 16
  pub target : FitsTarget c.target
  pub payload : FitsPayload c.payload c.descriptors

abbrev pub FitsBody : ReturnBody → Type 0
FitsBody (body.Results p ds) = FitsPayload p ds
FitsBody (body.Exception e) = IsUtf8 e.reason
FitsBody body.Canceled = Unit {0}

abbrev pub FitsResolved : ResolvedTo → Type 0
FitsResolved (to.Cap d) = FitsDescriptor d
FitsResolved (to.Exception e) = IsUtf8 e.reason

abbrev pub FitsContext : DisembargoContext → Type 0
FitsContext (SenderLoopback id) = id.0 < 2 ^ 32
FitsContext (ReceiverLoopback id) = id.0 < 2 ^ 32

abbrev pub FitsPlain : PlainMessage → Type 0
FitsPlain (plain.Abort e) = IsUtf8 e.reason
FitsPlain (plain.Bootstrap q) = q.0 < 2 ^ 32
FitsPlain (plain.Call c) = FitsCall c
FitsPlain (plain.Return r) = r.answer.0 < 2 ^ 32 × FitsBody r.body
FitsPlain (plain.Finish f) = f.question.0 < 2 ^ 32
FitsPlain (plain.Resolve r) = r.promise.0 < 2 ^ 32 × FitsResolved r.to
FitsPlain (plain.Release r) = r.export.0 < 2 ^ 32 × r.count < 2 ^ 32
FitsPlain (plain.Disembargo d) = FitsContext d.context × FitsTarget d.target
FitsPlain (plain.Other n) = Unit {0}

abbrev pub Fits : Message → Type 0
Fits (message.Plain m) = FitsPlain m
Fits (message.Unimplemented m) = FitsPlain m

-- The tree of a message says that message, but for the stamp and how contents are laid out.
abbrev pub ReadBack : Type 0
ReadBack = (stamp : Stamp) (m : Message) (t : Tree) → Fits m → message_tree m ≡ Ok t → envelope_of stamp t ≡ Ok (profile (stamped stamp m))

-- So does that of a Return which says that results are kept.
abbrev pub KeptReadBack : Type 0
KeptReadBack = (stamp : Stamp) (s : SentElsewhere) → s.answer.0 < 2 ^ 32 → envelope_of stamp (envelope 3 (sent_elsewhere_tree s)) ≡ Ok (sent_elsewhere s)
