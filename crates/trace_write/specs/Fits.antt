-- What a line can say: numbers below their bounds, paths of at most 16 steps, and in version 1 false flags alone.
use Rattle.std.specs.Prelude.{◌≡◌, ℕ, ◌^◌, ◌<◌, ◌≤◌, List, length, Bool, false}
use Rattle.std.specs.List.{AllByRecursion}
use Rattle.base64.specs.GeneralPurpose.{IsBytes}
use Rattle.rpc_msg.specs.Payloads.{Contents as Payload, IsEncoded}
use Rattle.rpc_msg.specs.declared.ids.ExportId.{ExportId}
use Rattle.rpc_msg.specs.declared.ids.QuestionId.{QuestionId}
use Rattle.rpc_msg.specs.Op.{Op}
use Rattle.rpc_msg.specs.Op.TheVariants.{Noop, Field}
use Rattle.rpc_msg.specs.declared.parts.Descriptor.{Descriptor}
use Rattle.rpc_msg.specs.declared.parts.Descriptor.TheVariants as descriptor
use Rattle.rpc_msg.specs.declared.parts.Target.{Target}
use Rattle.rpc_msg.specs.declared.parts.Target.TheVariants.{ImportedCap, PromisedAnswer}
use Rattle.rpc_msg.specs.declared.message.Call.{Call}
use Rattle.rpc_msg.specs.declared.message.ReturnBody.{ReturnBody}
use Rattle.rpc_msg.specs.declared.message.ReturnBody.TheVariants as body
use Rattle.rpc_msg.specs.declared.message.Return.{Return}
use Rattle.rpc_msg.specs.declared.message.Finish.{Finish}
use Rattle.rpc_msg.specs.declared.message.ResolvedTo.{ResolvedTo}
use Rattle.rpc_msg.specs.declared.message.ResolvedTo.TheVariants as to
use Rattle.rpc_msg.specs.declared.message.Resolve.{Resolve}
use Rattle.rpc_msg.specs.declared.message.Release.{Release}
use Rattle.rpc_msg.specs.declared.message.DisembargoContext.{DisembargoContext}
use Rattle.rpc_msg.specs.declared.message.DisembargoContext.TheVariants.{SenderLoopback, ReceiverLoopback}
use Rattle.rpc_msg.specs.declared.message.Disembargo.{Disembargo}
use Rattle.rpc_msg.specs.declared.message.PlainMessage.{PlainMessage}
use Rattle.rpc_msg.specs.declared.message.PlainMessage.TheVariants as plain
use Rattle.rpc_msg.specs.declared.message.Message.{Message}
use Rattle.rpc_msg.specs.declared.message.Message.TheVariants as message
use Rattle.rpc_journal.specs.declared.entry.Origin.{Origin}
use Rattle.rpc_journal.specs.declared.entry.Origin.TheVariants as origin
use Rattle.rpc_journal.specs.declared.entry.Counts.{Counts}
use Rattle.rpc_journal.specs.declared.entry.MadeCall.{MadeCall}
use Rattle.rpc_journal.specs.declared.entry.JournalEntry.{JournalEntry}
use Rattle.rpc_journal.specs.declared.entry.JournalEntry.TheVariants as entry
use Rattle.rpc_journal.specs.declared.report.Outcome.{Outcome}
use Rattle.rpc_journal.specs.declared.report.Outcome.TheVariants as outcome
use Rattle.rpc_journal.specs.declared.report.Delivery.{Delivery}
use Rattle.trace_write.specs.declared.version.TraceVersion.{TraceVersion}
use Rattle.trace_write.specs.declared.version.TraceVersion.TheVariants.{One, Two}

abbrev pub FitsU32 : ℕ → Type 0
FitsU32 n = n < 2 ^ 32

abbrev pub FitsU16 : ℕ → Type 0
FitsU16 n = n < 2 ^ 16

abbrev pub FitsAny : {A : Type 0} → A → Type 0
FitsAny x = Unit {0}

abbrev pub FitsAll : {A : Type 0} → (A → Type 0) → List A → Type 0
FitsAll fits xs = AllByRecursion fits xs

abbrev pub FitsFlag : TraceVersion → Bool → Type 0
FitsFlag One flag = flag ≡ false
FitsFlag Two flag = Unit {0}

abbrev pub FitsOp : Op → Type 0
FitsOp Noop = Unit {0}
FitsOp (Field n) = FitsU16 n

abbrev pub FitsPath : List Op → Type 0
FitsPath path = FitsAll FitsOp path × length path ≤ 16

abbrev pub FitsAnswer : QuestionId × List Op → Type 0
FitsAnswer a = FitsU32 a.0.0 × FitsPath a.1

abbrev pub FitsDescriptor : Descriptor → Type 0
FitsDescriptor descriptor.None = Unit {0}
FitsDescriptor (descriptor.SenderHosted id) = FitsU32 id.0
FitsDescriptor (descriptor.SenderPromise id) = FitsU32 id.0
FitsDescriptor (descriptor.ReceiverHosted id) = FitsU32 id.0
FitsDescriptor (descriptor.ReceiverAnswer question path) = FitsAnswer (question, path)

abbrev pub FitsTarget : Target → Type 0
FitsTarget (ImportedCap id) = FitsU32 id.0
FitsTarget (PromisedAnswer question path) = FitsAnswer (question, path)

-- Bytes of the encoding for a number of capabilities: so are those of every payload.
pub record FitsPayload (p : Payload) : Type 0 where
  pub encoded : IsEncoded p
  pub bytes : IsBytes p.bytes
  pub caps : FitsU32 p.caps

abbrev pub FitsOutcome : Outcome → Type 0
FitsOutcome (outcome.Results p) = FitsPayload p
FitsOutcome (outcome.Exception e) = Unit {0}

abbrev pub FitsOrigin : Origin → Type 0
FitsOrigin (origin.Object o) = Unit {0}
FitsOrigin (origin.Promise p) = Unit {0}
FitsOrigin (origin.Clone r) = Unit {0}
FitsOrigin (origin.Field call path) = FitsPath path

abbrev pub FitsPair : ExportId × ℕ → Type 0
FitsPair p = FitsU32 p.0.0 × FitsU32 p.1

abbrev pub FitsCounts : Counts → Type 0
FitsCounts c = FitsAll FitsPair c.exports × FitsAll FitsPair c.imports

pub record FitsCall (c : Call) : Type 0 where
  pub caps : FitsAll FitsDescriptor c.descriptors
  pub method : FitsU16 c.method
  pub payload : FitsPayload c.payload
  pub question : FitsU32 c.question.0
  pub target : FitsTarget c.target

abbrev pub FitsBody : ReturnBody → Type 0
FitsBody (body.Results p descriptors) = FitsAll FitsDescriptor descriptors × FitsPayload p
FitsBody (body.Exception e) = Unit {0}
FitsBody body.Canceled = Unit {0}

pub record FitsReturn (version : TraceVersion) (r : Return) : Type 0 where
  pub answer : FitsU32 r.answer.0
  pub body : FitsBody r.body
  pub flag : FitsFlag version r.release_param_caps

abbrev pub FitsFinish : TraceVersion → Finish → Type 0
FitsFinish version f = FitsU32 f.question.0 × FitsFlag version f.release_result_caps

abbrev pub FitsResolved : ResolvedTo → Type 0
FitsResolved (to.Cap d) = FitsDescriptor d
FitsResolved (to.Exception e) = Unit {0}

abbrev pub FitsResolve : Resolve → Type 0
FitsResolve r = FitsU32 r.promise.0 × FitsResolved r.to

abbrev pub FitsRelease : Release → Type 0
FitsRelease r = FitsU32 r.count × FitsU32 r.export.0

abbrev pub FitsContext : DisembargoContext → Type 0
FitsContext (SenderLoopback id) = FitsU32 id.0
FitsContext (ReceiverLoopback id) = FitsU32 id.0

abbrev pub FitsDisembargo : Disembargo → Type 0
FitsDisembargo d = FitsContext d.context × FitsTarget d.target

abbrev pub FitsPlain : TraceVersion → PlainMessage → Type 0
FitsPlain version (plain.Abort e) = Unit {0}
FitsPlain version (plain.Bootstrap q) = FitsU32 q.0
FitsPlain version (plain.Call c) = FitsCall c
FitsPlain version (plain.Return r) = FitsReturn version r
FitsPlain version (plain.Finish f) = FitsFinish version f
FitsPlain version (plain.Resolve r) = FitsResolve r
FitsPlain version (plain.Release r) = FitsRelease r
FitsPlain version (plain.Disembargo d) = FitsDisembargo d
FitsPlain version (plain.Other n) = FitsU16 n

abbrev pub FitsMessage : TraceVersion → Message → Type 0
FitsMessage version (message.Plain m) = FitsPlain version m
FitsMessage version (message.Unimplemented m) = FitsPlain version m

abbrev pub FitsMade : MadeCall → Type 0
FitsMade m = FitsU16 m.method × FitsPayload m.payload

abbrev pub FitsDelivery : Delivery → Type 0
FitsDelivery d = FitsU16 d.method × FitsPayload d.payload

abbrev pub Fits : TraceVersion → JournalEntry → Type 0
Fits version entry.Head = Unit {0}
Fits version (entry.Born v r o) = FitsOrigin o
Fits version (entry.Asked v call) = Unit {0}
Fits version (entry.Made v m) = FitsMade m
Fits version (entry.Delivered v d) = FitsDelivery d
Fits version (entry.Answered v task o refs) = FitsOutcome o
Fits version (entry.Ended v e) = FitsOutcome e.outcome
Fits version (entry.Resolved v p r) = Unit {0}
Fits version (entry.Rejected v p e) = Unit {0}
Fits version (entry.Dropped v r) = Unit {0}
Fits version (entry.Finished v call) = Unit {0}
Fits version (entry.Advanced v r a) = Unit {0}
Fits version (entry.Refused v code) = FitsU16 code
Fits version (entry.Sent v m) = FitsMessage version m
Fits version (entry.Got v) = Unit {0}
Fits version (entry.Down v fault) = FitsU16 fault
Fits version (entry.Tables a b) = FitsCounts a × FitsCounts b
