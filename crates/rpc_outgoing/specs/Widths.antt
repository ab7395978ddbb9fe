-- What each message has by its types: numbers within their widths, paths of at most 16 steps, reasons in UTF-8, and contents that were
-- read.
use Rattle.std.specs.Prelude.{◌^◌, ◌<◌, List}
use Rattle.std.specs.List.{AllByRecursion}
use Rattle.std.specs.Str.{IsUtf8}
use Rattle.rpc_msg.specs.Payloads.{Contents, IsPayload}
use Rattle.rpc_msg.specs.declared.parts.Descriptor.{Descriptor}
use Rattle.rpc_msg.specs.declared.message.Call.{Call}
use Rattle.rpc_msg.specs.declared.message.ReturnBody.{ReturnBody}
use Rattle.rpc_msg.specs.declared.message.ReturnBody.TheVariants as body
use Rattle.rpc_msg.specs.declared.message.PlainMessage.{PlainMessage}
use Rattle.rpc_msg.specs.declared.message.PlainMessage.TheVariants as plain
use Rattle.rpc_msg.specs.declared.message.Message.{Message}
use Rattle.rpc_msg.specs.declared.message.Message.TheVariants as message
use Rattle.rpc_codec_parts.specs.Fitting.{FitsTarget, FitsDescriptor}
use Rattle.rpc_codec.specs.Laws.{FitsContext, FitsResolved}

pub record PayloadHas (p : Contents) (ds : List Descriptor) : Type 0 where
  pub payload : IsPayload p
  pub descriptors : AllByRecursion FitsDescriptor ds

pub record CallHas (c : Call) : Type 0 where
  pub question : c.question.0 < 2 ^ 32
  pub interface : c.interface < 2 ^ 64
  pub method : c.method < 2 ^ 16
  pub target : FitsTarget c.target
  pub payload : PayloadHas c.payload c.descriptors

abbrev pub BodyHas : ReturnBody → Type 0
BodyHas (body.Results p ds) = PayloadHas p ds
BodyHas (body.Exception e) = IsUtf8 e.reason
BodyHas body.Canceled = Unit {0}

abbrev pub PlainHas : PlainMessage → Type 0
PlainHas (plain.Abort e) = IsUtf8 e.reason
PlainHas (plain.Bootstrap q) = q.0 < 2 ^ 32
PlainHas (plain.Call c) = CallHas c
PlainHas (plain.Return r) = r.answer.0 < 2 ^ 32 × BodyHas r.body
PlainHas (plain.Finish f) = f.question.0 < 2 ^ 32
PlainHas (plain.Resolve r) = r.promise.0 < 2 ^ 32 × FitsResolved r.to
PlainHas (plain.Release r) = r.export.0 < 2 ^ 32 × r.count < 2 ^ 32
PlainHas (plain.Disembargo d) = FitsContext d.context × FitsTarget d.target
PlainHas (plain.Other n) = Unit {0}

abbrev pub Has : Message → Type 0
Has (message.Plain m) = PlainHas m
Has (message.Unimplemented m) = PlainHas m
