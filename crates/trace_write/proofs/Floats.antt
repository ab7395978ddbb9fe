-- No entry's value has a float.
use Rattle.std.proofs.Common.{◌≡◌, ℕ, List, [], ◌∷◌, map, false, refl}
use Rattle.serde_json.specs.Data.{Data}
use Rattle.serde_json.specs.View.{items_of}
use Rattle.serde_json.specs.Written.{has_float, items_have_float}
use Rattle.rpc_msg.specs.Payloads.{Contents as Payload}
use Rattle.rpc_msg.specs.declared.ids.ExportId.{ExportId}
use Rattle.rpc_msg.specs.declared.ids.RefId.{RefId}
use Rattle.rpc_msg.specs.Op.{Op}
use Rattle.rpc_msg.specs.Op.TheVariants.{Noop, Field}
use Rattle.rpc_msg.specs.declared.parts.Descriptor.{Descriptor}
use Rattle.rpc_msg.specs.declared.parts.Descriptor.TheVariants as descriptor
use Rattle.rpc_msg.specs.declared.parts.Target.{Target}
use Rattle.rpc_msg.specs.declared.parts.Target.TheVariants.{ImportedCap, PromisedAnswer}
use Rattle.rpc_msg.specs.declared.message.ReturnBody.{ReturnBody}
use Rattle.rpc_msg.specs.declared.message.ReturnBody.TheVariants as body
use Rattle.rpc_msg.specs.declared.message.ResolvedTo.{ResolvedTo}
use Rattle.rpc_msg.specs.declared.message.ResolvedTo.TheVariants as to
use Rattle.rpc_msg.specs.declared.message.DisembargoContext.{DisembargoContext}
use Rattle.rpc_msg.specs.declared.message.DisembargoContext.TheVariants.{SenderLoopback, ReceiverLoopback}
use Rattle.rpc_msg.specs.declared.message.PlainMessage.{PlainMessage}
use Rattle.rpc_msg.specs.declared.message.PlainMessage.TheVariants as plain
use Rattle.rpc_msg.specs.declared.message.Message.{Message}
use Rattle.rpc_msg.specs.declared.message.Message.TheVariants as message
use Rattle.rpc_journal.specs.declared.entry.Origin.{Origin}
use Rattle.rpc_journal.specs.declared.entry.Origin.TheVariants as origin
use Rattle.rpc_journal.specs.declared.entry.JournalEntry.{JournalEntry}
use Rattle.rpc_journal.specs.declared.entry.JournalEntry.TheVariants as entry
use Rattle.rpc_journal.specs.declared.report.Outcome.{Outcome}
use Rattle.rpc_journal.specs.declared.report.Outcome.TheVariants as outcome
use Rattle.trace_write.specs.declared.version.TraceVersion.{TraceVersion}
use Rattle.trace_write.specs.Parts.{reference_data, op_data, descriptor_data, target_data, outcome_by, origin_data, pair_data}
use Rattle.trace_write.specs.Messages.{body_by, resolved_data, context_data, plain_by, message_by}
use Rattle.trace_write.specs.Values.{value_by}

no_float : {A : Type 0} (f : A → Data) → ((x : A) → has_float (f x) ≡ false) → (xs : List A) → items_have_float (items_of (map f xs)) ≡ false
no_float f h [] = refl
no_float f h (x ∷ xs) = rw (h x, no_float f h xs) refl

in_op : (o : Op) → has_float (op_data o) ≡ false
in_op Noop = refl
in_op (Field n) = refl

in_path : (path : List Op) → items_have_float (items_of (map op_data path)) ≡ false
in_path = no_float op_data in_op

in_descriptor : (d : Descriptor) → has_float (descriptor_data d) ≡ false
in_descriptor descriptor.None = refl
in_descriptor (descriptor.SenderHosted id) = refl
in_descriptor (descriptor.SenderPromise id) = refl
in_descriptor (descriptor.ReceiverHosted id) = refl
in_descriptor (descriptor.ReceiverAnswer q path) = rw (in_path path) refl

in_descriptors : (ds : List Descriptor) → items_have_float (items_of (map descriptor_data ds)) ≡ false
in_descriptors = no_float descriptor_data in_descriptor

in_references : (rs : List RefId) → items_have_float (items_of (map reference_data rs)) ≡ false
in_references = no_float reference_data (λ r. refl)

in_pairs : (ps : List (ExportId × ℕ)) → items_have_float (items_of (map pair_data ps)) ≡ false
in_pairs = no_float pair_data (λ p. refl)

in_target : (t : Target) → has_float (target_data t) ≡ false
in_target (ImportedCap id) = refl
in_target (PromisedAnswer q path) = rw (in_path path) refl

in_outcome : (w : Payload → List ℕ × ℕ) (o : Outcome) → has_float (outcome_by w o) ≡ false
in_outcome w (outcome.Results p) = refl
in_outcome w (outcome.Exception e) = refl

in_origin : (o : Origin) → has_float (origin_data o) ≡ false
in_origin (origin.Object o) = refl
in_origin (origin.Promise p) = refl
in_origin (origin.Clone r) = refl
in_origin (origin.Field call path) = rw (in_path path) refl

in_body : (w : Payload → List ℕ × ℕ) (b : ReturnBody) → has_float (body_by w b) ≡ false
in_body w (body.Results p ds) = rw (in_descriptors ds) refl
in_body w (body.Exception e) = refl
in_body w body.Canceled = refl

in_resolved : (t : ResolvedTo) → has_float (resolved_data t) ≡ false
in_resolved (to.Cap d) = rw (in_descriptor d) refl
in_resolved (to.Exception e) = refl

in_context : (c : DisembargoContext) → has_float (context_data c) ≡ false
in_context (SenderLoopback id) = refl
in_context (ReceiverLoopback id) = refl

in_plain : (v : TraceVersion) (w : Payload → List ℕ × ℕ) (m : PlainMessage) → has_float (plain_by v w m) ≡ false
in_plain v w (plain.Abort e) = refl
in_plain v w (plain.Bootstrap q) = refl
in_plain v w (plain.Call c) = rw (in_descriptors c.descriptors, in_target c.target) refl
in_plain v w (plain.Return r) = rw (in_body w r.body) refl
in_plain v w (plain.Finish f) = refl
in_plain v w (plain.Resolve r) = rw (in_resolved r.to) refl
in_plain v w (plain.Release r) = refl
in_plain v w (plain.Disembargo d) = rw (in_context d.context, in_target d.target) refl
in_plain v w (plain.Other n) = refl

in_message : (v : TraceVersion) (w : Payload → List ℕ × ℕ) (m : Message) → has_float (message_by v w m) ≡ false
in_message v w (message.Plain m) = in_plain v w m
in_message v w (message.Unimplemented m) = rw (in_plain v w m) refl

pub in_value : (v : TraceVersion) (w : Payload → List ℕ × ℕ) (e : JournalEntry) → has_float (value_by v w e) ≡ false
in_value v w entry.Head = refl
in_value v w (entry.Born vat r o) = rw (in_origin o) refl
in_value v w (entry.Asked vat call) = refl
in_value v w (entry.Made vat m) = rw (in_references m.refs) refl
in_value v w (entry.Delivered vat d) = rw (in_references d.refs) refl
in_value v w (entry.Answered vat task o refs) = rw (in_outcome w o, in_references refs) refl
in_value v w (entry.Ended vat e) = rw (in_outcome w e.outcome, in_references e.refs) refl
in_value v w (entry.Resolved vat p r) = refl
in_value v w (entry.Rejected vat p e) = refl
in_value v w (entry.Dropped vat r) = refl
in_value v w (entry.Finished vat call) = refl
in_value v w (entry.Advanced vat r a) = refl
in_value v w (entry.Refused vat code) = refl
in_value v w (entry.Sent vat m) = rw (in_message v w m) refl
in_value v w (entry.Got vat) = refl
in_value v w (entry.Down vat fault) = refl
in_value v w (entry.Tables a b) = rw (in_pairs a.exports, in_pairs a.imports, in_pairs b.exports, in_pairs b.imports) refl
