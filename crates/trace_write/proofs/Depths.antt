-- No entry's value is deep.
use Rattle.std.proofs.Common.{◌≤◌, ℕ, List, [], ◌∷◌, map, arith}
use Rattle.serde_json.specs.Data.{Data, depth, items_depth}
use Rattle.serde_json.specs.View.{items_of}
use Rattle.rpc_msg.specs.Payloads.{Contents as Payload}
use Rattle.rpc_msg.specs.declared.ids.ExportId.{ExportId}
use Rattle.rpc_msg.specs.declared.ids.RefId.{RefId}
use Rattle.rpc_msg.specs.Op.{Op}
use Rattle.rpc_msg.specs.Op.TheVariants.{Noop, Field}
use Rattle.rpc_msg.specs.declared.parts.Descriptor.{Descriptor}
use Rattle.rpc_msg.specs.declared.parts.Descriptor.TheVariants as descriptor
use Rattle.rpc_msg.specs.declared.parts.Target.{Target}
use Rattle.rpc_msg.specs.declared.parts.Target.TheVariants.{ImportedCap, PromisedAnswer}
use Rattle.rpc_msg.specs.declared.message.ReturnBody.{ReturnBody}
use Rattle.rpc_msg.specs.declared.message.ReturnBody.TheVariants as body
use Rattle.rpc_msg.specs.declared.message.ResolvedTo.{ResolvedTo}
use Rattle.rpc_msg.specs.declared.message.ResolvedTo.TheVariants as to
use Rattle.rpc_msg.specs.declared.message.DisembargoContext.{DisembargoContext}
use Rattle.rpc_msg.specs.declared.message.DisembargoContext.TheVariants.{SenderLoopback, ReceiverLoopback}
use Rattle.rpc_msg.specs.declared.message.PlainMessage.{PlainMessage}
use Rattle.rpc_msg.specs.declared.message.PlainMessage.TheVariants as plain
use Rattle.rpc_msg.specs.declared.message.Message.{Message}
use Rattle.rpc_msg.specs.declared.message.Message.TheVariants as message
use Rattle.rpc_journal.specs.declared.entry.Origin.{Origin}
use Rattle.rpc_journal.specs.declared.entry.Origin.TheVariants as origin
use Rattle.rpc_journal.specs.declared.entry.JournalEntry.{JournalEntry}
use Rattle.rpc_journal.specs.declared.entry.JournalEntry.TheVariants as entry
use Rattle.rpc_journal.specs.declared.report.Outcome.{Outcome}
use Rattle.rpc_journal.specs.declared.report.Outcome.TheVariants as outcome
use Rattle.trace_write.specs.declared.version.TraceVersion.{TraceVersion}
use Rattle.trace_write.specs.Parts.{reference_data, op_data, descriptor_data, target_data, outcome_by, origin_data, pair_data}
use Rattle.trace_write.specs.Messages.{body_by, resolved_data, context_data, plain_by, message_by}
use Rattle.trace_write.specs.Values.{value_by}

no_deeper : {A : Type 0} (f : A → Data) (k : ℕ) → ((x : A) → depth (f x) ≤ k) → (xs : List A) → items_depth (items_of (map f xs)) ≤ k
no_deeper f k h [] = omega arith
no_deeper f k h (x ∷ xs) = omega (arith, h x, no_deeper f k h xs)

in_op : (o : Op) → depth (op_data o) ≤ 0
in_op Noop = omega arith
in_op (Field n) = omega arith

in_path : (path : List Op) → items_depth (items_of (map op_data path)) ≤ 0
in_path = no_deeper op_data 0 in_op

in_descriptor : (d : Descriptor) → depth (descriptor_data d) ≤ 3
in_descriptor descriptor.None = omega arith
in_descriptor (descriptor.SenderHosted id) = omega arith
in_descriptor (descriptor.SenderPromise id) = omega arith
in_descriptor (descriptor.ReceiverHosted id) = omega arith
in_descriptor (descriptor.ReceiverAnswer q path) = omega (arith, in_path path)

in_descriptors : (ds : List Descriptor) → items_depth (items_of (map descriptor_data ds)) ≤ 3
in_descriptors = no_deeper descriptor_data 3 in_descriptor

in_references : (rs : List RefId) → items_depth (items_of (map reference_data rs)) ≤ 0
in_references = no_deeper reference_data 0 (λ r. omega arith)

in_pairs : (ps : List (ExportId × ℕ)) → items_depth (items_of (map pair_data ps)) ≤ 1
in_pairs = no_deeper pair_data 1 (λ p. omega arith)

in_target : (t : Target) → depth (target_data t) ≤ 3
in_target (ImportedCap id) = omega arith
in_target (PromisedAnswer q path) = omega (arith, in_path path)

in_outcome : (w : Payload → List ℕ × ℕ) (o : Outcome) → depth (outcome_by w o) ≤ 2
in_outcome w (outcome.Results p) = omega arith
in_outcome w (outcome.Exception e) = omega arith

in_origin : (o : Origin) → depth (origin_data o) ≤ 3
in_origin (origin.Object o) = omega arith
in_origin (origin.Promise p) = omega arith
in_origin (origin.Clone r) = omega arith
in_origin (origin.Field call path) = omega (arith, in_path path)

in_body : (w : Payload → List ℕ × ℕ) (b : ReturnBody) → depth (body_by w b) ≤ 6
in_body w (body.Results p ds) = omega (arith, in_descriptors ds)
in_body w (body.Exception e) = omega arith
in_body w body.Canceled = omega arith

in_resolved : (t : ResolvedTo) → depth (resolved_data t) ≤ 4
in_resolved (to.Cap d) = omega (arith, in_descriptor d)
in_resolved (to.Exception e) = omega arith

in_context : (c : DisembargoContext) → depth (context_data c) ≤ 1
in_context (SenderLoopback id) = omega arith
in_context (ReceiverLoopback id) = omega arith

in_plain : (v : TraceVersion) (w : Payload → List ℕ × ℕ) (m : PlainMessage) → depth (plain_by v w m) ≤ 8
in_plain v w (plain.Abort e) = omega arith
in_plain v w (plain.Bootstrap q) = omega arith
in_plain v w (plain.Call c) = omega (arith, in_descriptors c.descriptors, in_target c.target)
in_plain v w (plain.Return r) = omega (arith, in_body w r.body)
in_plain v w (plain.Finish f) = omega arith
in_plain v w (plain.Resolve r) = omega (arith, in_resolved r.to)
in_plain v w (plain.Release r) = omega arith
in_plain v w (plain.Disembargo d) = omega (arith, in_context d.context, in_target d.target)
in_plain v w (plain.Other n) = omega arith

in_message : (v : TraceVersion) (w : Payload → List ℕ × ℕ) (m : Message) → depth (message_by v w m) ≤ 9
in_message v w (message.Plain m) = omega (arith, in_plain v w m)
in_message v w (message.Unimplemented m) = omega (arith, in_plain v w m)

pub shallow : (v : TraceVersion) (w : Payload → List ℕ × ℕ) (e : JournalEntry) → depth (value_by v w e) ≤ 127
shallow v w entry.Head = omega arith
shallow v w (entry.Born vat r o) = omega (arith, in_origin o)
shallow v w (entry.Asked vat call) = omega arith
shallow v w (entry.Made vat m) = omega (arith, in_references m.refs)
shallow v w (entry.Delivered vat d) = omega (arith, in_references d.refs)
shallow v w (entry.Answered vat task o refs) = omega (arith, in_outcome w o, in_references refs)
shallow v w (entry.Ended vat e) = omega (arith, in_outcome w e.outcome, in_references e.refs)
shallow v w (entry.Resolved vat p r) = omega arith
shallow v w (entry.Rejected vat p e) = omega arith
shallow v w (entry.Dropped vat r) = omega arith
shallow v w (entry.Finished vat call) = omega arith
shallow v w (entry.Advanced vat r a) = omega arith
shallow v w (entry.Refused vat code) = omega arith
shallow v w (entry.Sent vat m) = omega (arith, in_message v w m)
shallow v w (entry.Got vat) = omega arith
shallow v w (entry.Down vat f) = omega arith
shallow v w (entry.Tables a b) = omega (arith, in_pairs a.exports, in_pairs a.imports, in_pairs b.exports, in_pairs b.imports)
