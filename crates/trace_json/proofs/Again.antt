-- The value of an entry, with any text and number where those of a payload stand, reads as the entry without its payload, and these.
use Rattle.std.proofs.Common.{◌≡◌, ℕ, ◌^◌, ◌<◌, Bool, true, false, List, [], ◌∷◌, length, map, codes, Some, None, option_map, Ok, refl}
use Rattle.std.specs.List.{AllByRecursion}
use Rattle.std.proofs.lemmas.Bool.{lt-ltb, le-ltb}
use Rattle.serde_json.specs.Data.{Data, string, boolean}
use Rattle.serde_json.specs.View.{items_of}
use Rattle.rpc_msg.specs.Payloads.{null_payload}
use Rattle.rpc_msg.specs.declared.ids.Vat.{Vat}
use Rattle.rpc_msg.specs.declared.ids.Vat.TheVariants as vats
use Rattle.rpc_msg.specs.declared.ids.ExportId.{ExportId}
use Rattle.rpc_msg.specs.declared.ids.QuestionId.{QuestionId}
use Rattle.rpc_msg.specs.declared.ids.RefId.{RefId}
use Rattle.rpc_msg.specs.declared.ids.Stamp.{Stamp}
use Rattle.rpc_msg.specs.Op.{Op}
use Rattle.rpc_msg.specs.Op.TheVariants.{Noop, Field}
use Rattle.rpc_msg.specs.declared.parts.Descriptor.{Descriptor}
use Rattle.rpc_msg.specs.declared.parts.Descriptor.TheVariants as descriptor
use Rattle.rpc_msg.specs.declared.parts.Target.{Target}
use Rattle.rpc_msg.specs.declared.parts.Target.TheVariants.{ImportedCap, PromisedAnswer}
use Rattle.rpc_msg.specs.declared.exception.ExceptionKind.{ExceptionKind}
use Rattle.rpc_msg.specs.declared.exception.ExceptionKind.TheVariants as kind
use Rattle.rpc_msg.specs.declared.exception.Exception.{Exception}
use Rattle.rpc_msg.specs.declared.message.Call.{Call}
use Rattle.rpc_msg.specs.declared.message.ReturnBody.{ReturnBody}
use Rattle.rpc_msg.specs.declared.message.ReturnBody.TheVariants as body
use Rattle.rpc_msg.specs.declared.message.Return.{Return}
use Rattle.rpc_msg.specs.declared.message.Finish.{Finish}
use Rattle.rpc_msg.specs.declared.message.ResolvedTo.{ResolvedTo}
use Rattle.rpc_msg.specs.declared.message.ResolvedTo.TheVariants as to
use Rattle.rpc_msg.specs.declared.message.Resolve.{Resolve}
use Rattle.rpc_msg.specs.declared.message.Release.{Release}
use Rattle.rpc_msg.specs.declared.message.DisembargoContext.{DisembargoContext}
use Rattle.rpc_msg.specs.declared.message.DisembargoContext.TheVariants.{SenderLoopback, ReceiverLoopback}
use Rattle.rpc_msg.specs.declared.message.Disembargo.{Disembargo}
use Rattle.rpc_msg.specs.declared.message.PlainMessage.{PlainMessage}
use Rattle.rpc_msg.specs.declared.message.PlainMessage.TheVariants as plain
use Rattle.rpc_msg.specs.declared.message.Message.{Message}
use Rattle.rpc_msg.specs.declared.message.Message.TheVariants as message
use Rattle.rpc_journal.specs.declared.entry.Origin.{Origin}
use Rattle.rpc_journal.specs.declared.entry.Origin.TheVariants as origin
use Rattle.rpc_journal.specs.declared.entry.Counts.{Counts}
use Rattle.rpc_journal.specs.declared.entry.JournalEntry.{JournalEntry}
use Rattle.rpc_journal.specs.declared.entry.JournalEntry.TheVariants as entry
use Rattle.rpc_journal.specs.declared.report.Outcome.{Outcome}
use Rattle.rpc_journal.specs.declared.report.Outcome.TheVariants as outcome
use Rattle.rpc_journal.specs.declared.report.Advanced.{Advanced}
use Rattle.rpc_journal.specs.declared.report.Advanced.TheVariants as advanced
use Rattle.trace_write.specs.declared.version.TraceVersion.{TraceVersion}
use Rattle.trace_write.specs.declared.version.TraceVersion.TheVariants.{One, Two}
use Rattle.trace_write.specs.Parts.{nat, only, vat_data, reference_data, op_data, path_data, answer_data, target_data, descriptor_data, stamp_data, payload_data, kind_name, exception_data, outcome_by, origin_data, advanced_name, pair_data, counts_data}
use Rattle.trace_write.specs.Messages.{call_by, body_by, return_by, finish_data, resolved_data, resolve_data, release_data, context_data, disembargo_data, plain_by, message_by}
use Rattle.trace_write.specs.Values.{head_of, value_by}
use Rattle.trace_write.specs.Fits.{FitsU32, FitsFlag, FitsOp, FitsPath, FitsAnswer, FitsDescriptor, FitsTarget, FitsOrigin, FitsPair, FitsCounts, FitsCall, FitsBody, FitsReturn, FitsFinish, FitsResolved, FitsResolve, FitsRelease, FitsContext, FitsDisembargo, FitsPlain, FitsMessage, Fits}
use Rattle.trace_json.specs.Filled.{payload_of_outcome, filled_outcome, payload_of_body, filled_body, payload_of_plain, filled_plain, payload_of_message, filled_message, payload_in, filled}
use Rattle.trace_json_parts.specs.Reading.{Read, nat_at, flag_at, field_at, last_value_at, last_at, two_at, last_two_at, both_at, word_at, only_at, items_at}
use Rattle.trace_json_parts.specs.ReadParts.{vat_at, reference_at, op_at, path_at, answer_at, target_at, tagged_descriptor, descriptor_at, stamp_at, raw_at, kind_at, exception_at, outcome_at, field_origin_at, origin_at, advanced_at, pair_at, counts_at}
use Rattle.trace_json_parts.specs.ReadMessages.{call_rest, call_at, results_at, tagged_body, body_at, return_at, finish_at, resolved_at, resolve_at, release_at, context_at, disembargo_at, bootstrap_at, plain_at, message_at}
use Rattle.trace_json.specs.ReadEntries.{members_of_kind, kind_and_vat, before_kind, behind_kind, around_kind, head_at, born_at, asked_at, made_rest, made_at, delivered_rest, delivered_at, answered_at, ended_at, resolved_promise_at, rejected_at, dropped_at, finished_at, entry_advanced_at, refused_at, sent_at, got_at, down_at, tables_at, entry_at}

nat_again : (b n : ℕ) → n < b → nat_at b (nat n) ≡ Ok n
nat_again b n h = rw (lt-ltb n b h) refl

items_again : {A : Type 0} (f : Data → Read A) (g : A → Data) (P : A → Type 0) → ((x : A) → P x → f (g x) ≡ Ok x) → (xs : List A) → AllByRecursion P xs → items_at f (items_of (map g xs)) ≡ Ok xs
items_again f g P h [] fits = refl
items_again f g P h (x ∷ xs) fits = rw (h x fits.0, items_again f g P h xs fits.1) refl

flag_again : (version : TraceVersion) (flag : Bool) → FitsFlag version flag → flag_at version (boolean flag) ≡ Ok flag
flag_again One false fits = refl
flag_again One true fits = cc
flag_again Two false fits = refl
flag_again Two true fits = refl

vat_again : (v : Vat) → vat_at (vat_data v) ≡ Ok v
unfolding vat_at
vat_again vats.A = refl
vat_again vats.B = refl

reference_again : (r : RefId) → reference_at (reference_data r) ≡ Ok r
unfolding reference_at
reference_again r = refl

references_again : (rs : List RefId) → items_at reference_at (items_of (map reference_data rs)) ≡ Ok rs
references_again [] = refl
references_again (r ∷ rs) = rw (reference_again r, references_again rs) refl

op_again : (o : Op) → FitsOp o → op_at (op_data o) ≡ Ok o
op_again Noop fits = refl
op_again (Field n) fits = rw (nat_again (2 ^ 16) n fits) refl

path_again : (path : List Op) → FitsPath path → path_at (path_data path) ≡ Ok path
unfolding path_at
path_again path fits = rw (items_again op_at op_data FitsOp op_again path fits.0, le-ltb 16 (length path) fits.1) refl

answer_again : (q : QuestionId) (path : List Op) → FitsAnswer (q, path) → answer_at (answer_data q path) ≡ Ok (q, path)
unfolding both_at last_two_at answer_at field_at last_at last_value_at
answer_again q path fits = rw (path_again path fits.1, nat_again (2 ^ 32) q.0 fits.0) refl

target_again : (t : Target) → FitsTarget t → target_at (target_data t) ≡ Ok t
unfolding target_at only_at
target_again (ImportedCap id) fits = rw (nat_again (2 ^ 32) id.0 fits) refl
target_again (PromisedAnswer q path) fits = rw (answer_again q path fits) refl

descriptor_again : (d : Descriptor) → FitsDescriptor d → descriptor_at (descriptor_data d) ≡ Ok d
unfolding tagged_descriptor only_at
descriptor_again descriptor.None fits = refl
descriptor_again (descriptor.SenderHosted id) fits = rw (nat_again (2 ^ 32) id.0 fits) refl
descriptor_again (descriptor.SenderPromise id) fits = rw (nat_again (2 ^ 32) id.0 fits) refl
descriptor_again (descriptor.ReceiverHosted id) fits = rw (nat_again (2 ^ 32) id.0 fits) refl
descriptor_again (descriptor.ReceiverAnswer q path) fits = rw (answer_again q path fits) refl

stamp_again : (s : Stamp) → stamp_at (stamp_data s) ≡ Ok s
unfolding last_two_at stamp_at field_at last_at last_value_at
stamp_again s = rw (reference_again s.reference, vat_again s.vat) refl

raw_again : (raw : List ℕ × ℕ) → FitsU32 raw.1 → raw_at (payload_data raw) ≡ Ok raw
unfolding raw_at field_at last_at last_value_at
raw_again raw fits = rw (nat_again (2 ^ 32) raw.1 fits) refl

kind_again : (k : ExceptionKind) → kind_at (string (kind_name k)) ≡ Ok k
unfolding kind_at
kind_again kind.Failed = refl
kind_again kind.Overloaded = refl
kind_again kind.Disconnected = refl
kind_again kind.Unimplemented = refl

exception_again : (e : Exception) → exception_at (exception_data e) ≡ Ok e
unfolding both_at last_two_at exception_at field_at last_at last_value_at
exception_again e = rw (kind_again e.kind) refl

outcome_again : (raw : List ℕ × ℕ) → FitsU32 raw.1 → (o : Outcome) → outcome_at (outcome_by (λ p. raw) o) ≡ Ok (filled_outcome null_payload o, option_map (λ p. raw) (payload_of_outcome o))
unfolding outcome_at only_at
outcome_again raw caps (outcome.Results p) = rw (raw_again raw caps) refl
outcome_again raw caps (outcome.Exception e) = rw (exception_again e) refl

origin_again : (o : Origin) → FitsOrigin o → origin_at (origin_data o) ≡ Ok o
unfolding both_at last_two_at origin_at only_at field_origin_at field_at last_at last_value_at
origin_again (origin.Object o) fits = refl
origin_again (origin.Promise p) fits = refl
origin_again (origin.Clone r) fits = refl
origin_again (origin.Field call path) fits = rw (path_again path fits) refl

advanced_again : (a : Advanced) → advanced_at (string (advanced_name a)) ≡ Ok a
unfolding advanced_at
advanced_again advanced.Nothing = refl
advanced_again advanced.Switched = refl
advanced_again advanced.Embargoed = refl
advanced_again advanced.Broke = refl

pair_again : (p : ExportId × ℕ) → FitsPair p → pair_at (pair_data p) ≡ Ok p
unfolding pair_at
pair_again p fits = rw (nat_again (2 ^ 32) p.0.0 fits.0, nat_again (2 ^ 32) p.1 fits.1) refl

counts_again : (c : Counts) → FitsCounts c → counts_at (counts_data c) ≡ Ok c
unfolding both_at last_two_at counts_at field_at last_at last_value_at
counts_again c fits = rw (items_again pair_at pair_data FitsPair pair_again c.exports fits.0, items_again pair_at pair_data FitsPair pair_again c.imports fits.1) refl

-- ---- messages

call_again : (raw : List ℕ × ℕ) → FitsU32 raw.1 → (c : Call) → FitsCall c → call_at (call_by (λ p. raw) c) ≡ Ok (record c { payload = null_payload }, Some raw)
unfolding two_at last_two_at call_at call_rest field_at last_at last_value_at
call_again raw caps c fits =
    rw (items_again descriptor_at descriptor_data FitsDescriptor descriptor_again c.descriptors fits.caps, nat_again (2 ^ 16) c.method fits.method, raw_again raw caps, nat_again (2 ^ 32) c.question.0 fits.question, stamp_again c.stamp, target_again c.target fits.target) refl

body_again : (raw : List ℕ × ℕ) → FitsU32 raw.1 → (b : ReturnBody) → FitsBody b → body_at (body_by (λ p. raw) b) ≡ Ok (filled_body null_payload b, option_map (λ p. raw) (payload_of_body b))
unfolding tagged_body only_at results_at field_at last_at last_value_at
body_again raw caps (body.Results p ds) fits = rw (items_again descriptor_at descriptor_data FitsDescriptor descriptor_again ds fits.0, raw_again raw caps) refl
body_again raw caps (body.Exception e) fits = rw (exception_again e) refl
body_again raw caps body.Canceled fits = refl

return_again : (version : TraceVersion) (raw : List ℕ × ℕ) → FitsU32 raw.1 → (r : Return) → FitsReturn version r → return_at version (return_by version (λ p. raw) r) ≡ Ok (record r { body = filled_body null_payload r.body }, option_map (λ p. raw) (payload_of_body r.body))
unfolding return_at field_at last_at last_value_at
return_again One raw caps r fits = rw (nat_again (2 ^ 32) r.answer.0 fits.answer, body_again raw caps r.body fits.body, flag_again One r.release_param_caps fits.flag) refl
return_again Two raw caps r fits = rw (nat_again (2 ^ 32) r.answer.0 fits.answer, body_again raw caps r.body fits.body, flag_again Two r.release_param_caps fits.flag) refl

finish_again : (version : TraceVersion) (f : Finish) → FitsFinish version f → finish_at version (finish_data version f) ≡ Ok f
unfolding finish_at field_at last_at last_value_at
finish_again One f fits = rw (nat_again (2 ^ 32) f.question.0 fits.0, flag_again One f.release_result_caps fits.1) refl
finish_again Two f fits = rw (nat_again (2 ^ 32) f.question.0 fits.0, flag_again Two f.release_result_caps fits.1) refl

resolved_again : (t : ResolvedTo) → FitsResolved t → resolved_at (resolved_data t) ≡ Ok t
unfolding resolved_at only_at
resolved_again (to.Cap d) fits = rw (descriptor_again d fits) refl
resolved_again (to.Exception e) fits = rw (exception_again e) refl

resolve_again : (r : Resolve) → FitsResolve r → resolve_at (resolve_data r) ≡ Ok r
unfolding both_at last_two_at resolve_at field_at last_at last_value_at
resolve_again r fits = rw (nat_again (2 ^ 32) r.promise.0 fits.0, resolved_again r.to fits.1) refl

release_again : (r : Release) → FitsRelease r → release_at (release_data r) ≡ Ok r
unfolding both_at last_two_at release_at field_at last_at last_value_at
release_again r fits = rw (nat_again (2 ^ 32) r.count fits.0, nat_again (2 ^ 32) r.export.0 fits.1) refl

context_again : (c : DisembargoContext) → FitsContext c → context_at (context_data c) ≡ Ok c
unfolding context_at only_at
context_again (SenderLoopback id) fits = rw (nat_again (2 ^ 32) id.0 fits) refl
context_again (ReceiverLoopback id) fits = rw (nat_again (2 ^ 32) id.0 fits) refl

disembargo_again : (d : Disembargo) → FitsDisembargo d → disembargo_at (disembargo_data d) ≡ Ok d
unfolding both_at last_two_at disembargo_at field_at last_at last_value_at
disembargo_again d fits = rw (context_again d.context fits.0, target_again d.target fits.1) refl

bootstrap_again : (q : QuestionId) → FitsU32 q.0 → bootstrap_at (only (codes "question") (nat q.0)) ≡ Ok q
unfolding bootstrap_at field_at last_at last_value_at
bootstrap_again q fits = rw (nat_again (2 ^ 32) q.0 fits) refl

plain_again : (version : TraceVersion) (raw : List ℕ × ℕ) → FitsU32 raw.1 → (m : PlainMessage) → FitsPlain version m → plain_at version (plain_by version (λ p. raw) m) ≡ Ok (filled_plain null_payload m, option_map (λ p. raw) (payload_of_plain m))
unfolding plain_at only_at
plain_again version raw caps (plain.Abort e) fits = rw (exception_again e) refl
plain_again version raw caps (plain.Bootstrap q) fits = rw (bootstrap_again q fits) refl
plain_again version raw caps (plain.Call c) fits = rw (call_again raw caps c fits) refl
plain_again version raw caps (plain.Return r) fits = rw (return_again version raw caps r fits) refl
plain_again version raw caps (plain.Finish f) fits = rw (finish_again version f fits) refl
plain_again version raw caps (plain.Resolve r) fits = rw (resolve_again r fits) refl
plain_again version raw caps (plain.Release r) fits = rw (release_again r fits) refl
plain_again version raw caps (plain.Disembargo d) fits = rw (disembargo_again d fits) refl
plain_again version raw caps (plain.Other n) fits = rw (nat_again (2 ^ 16) n fits) refl

message_again : (version : TraceVersion) (raw : List ℕ × ℕ) → FitsU32 raw.1 → (m : Message) → FitsMessage version m → message_at version (message_by version (λ p. raw) m) ≡ Ok (filled_message null_payload m, option_map (λ p. raw) (payload_of_message m))
unfolding message_at only_at
message_again version raw caps (message.Unimplemented m) fits = rw (plain_again version raw caps m fits) refl
message_again version raw caps (message.Plain (plain.Abort e)) fits = rw (exception_again e) refl
message_again version raw caps (message.Plain (plain.Bootstrap q)) fits = rw (bootstrap_again q fits) refl
message_again version raw caps (message.Plain (plain.Call c)) fits = rw (call_again raw caps c fits) refl
message_again version raw caps (message.Plain (plain.Return r)) fits = rw (return_again version raw caps r fits) refl
message_again version raw caps (message.Plain (plain.Finish f)) fits = rw (finish_again version f fits) refl
message_again version raw caps (message.Plain (plain.Resolve r)) fits = rw (resolve_again r fits) refl
message_again version raw caps (message.Plain (plain.Release r)) fits = rw (release_again r fits) refl
message_again version raw caps (message.Plain (plain.Disembargo d)) fits = rw (disembargo_again d fits) refl
message_again version raw caps (message.Plain (plain.Other n)) fits = rw (nat_again (2 ^ 16) n fits) refl

-- ---- entries

pub head_of_again : (n : ℕ) → head_at (head_of n) ≡ Ok n
unfolding head_at members_of_kind field_at last_at last_value_at word_at
head_of_again n = refl

head_again : (version : TraceVersion) (raw : List ℕ × ℕ) → entry_at version (value_by version (λ p. raw) entry.Head) ≡ Ok (entry.Head, None)
unfolding entry_at head_at members_of_kind field_at last_at last_value_at word_at
head_again One raw = refl
head_again Two raw = refl

-- The value of an entry reads as the entry without its payload.
pub entry_again : (version : TraceVersion) (raw : List ℕ × ℕ) → FitsU32 raw.1 → (e : JournalEntry) → Fits version e → entry_at version (value_by version (λ p. raw) e) ≡ Ok (filled null_payload e, option_map (λ p. raw) (payload_in e))
unfolding two_at last_two_at before_kind behind_kind around_kind entry_at members_of_kind kind_and_vat made_rest field_at last_at last_value_at word_at born_at asked_at made_at delivered_rest delivered_at answered_at ended_at resolved_promise_at rejected_at dropped_at finished_at entry_advanced_at refused_at sent_at got_at down_at tables_at
entry_again version raw caps entry.Head fits = head_again version raw
entry_again version raw caps (entry.Born v r o) fits = rw (origin_again o fits, reference_again r, vat_again v) refl
entry_again version raw caps (entry.Asked v call) fits = rw (vat_again v) refl
entry_again version raw caps (entry.Made v m) fits = rw (nat_again (2 ^ 16) m.method fits.0, raw_again raw caps, reference_again m.reference, references_again m.refs, vat_again v) refl
entry_again version raw caps (entry.Delivered v d) fits = rw (nat_again (2 ^ 16) d.method fits.0, raw_again raw caps, references_again d.refs, stamp_again d.stamp, vat_again v) refl
entry_again version raw caps (entry.Answered v task o refs) fits = rw (outcome_again raw caps o, references_again refs, vat_again v) refl
entry_again version raw caps (entry.Ended v e) fits = rw (outcome_again raw caps e.outcome, references_again e.refs, vat_again v) refl
entry_again version raw caps (entry.Resolved v p r) fits = rw (reference_again r, vat_again v) refl
entry_again version raw caps (entry.Rejected v p e) fits = rw (exception_again e, vat_again v) refl
entry_again version raw caps (entry.Dropped v r) fits = rw (reference_again r, vat_again v) refl
entry_again version raw caps (entry.Finished v call) fits = rw (vat_again v) refl
entry_again version raw caps (entry.Advanced v r a) fits = rw (advanced_again a, reference_again r, vat_again v) refl
entry_again version raw caps (entry.Refused v code) fits = rw (nat_again (2 ^ 16) code fits, vat_again v) refl
entry_again version raw caps (entry.Sent v m) fits = rw (vat_again v, message_again version raw caps m fits) refl
entry_again version raw caps (entry.Got v) fits = rw (vat_again v) refl
entry_again version raw caps (entry.Down v fault) fits = rw (nat_again (2 ^ 16) fault fits, vat_again v) refl
entry_again version raw caps (entry.Tables a b) fits = rw (counts_again a fits.0, counts_again b fits.1) refl
