-- What reading a value says of it: whose entry's value it is, or the first set of the ladder of faults that it misses.
use Rattle.std.proofs.Common.{◌≡◌, IfOk, IfErr, IsOkUnless, ℕ, true, false, List, [], Option, Some, None, option_map, Result, Ok, Err, IsErr, is_err, refl, sym, ap, subst, ◌∙◌, arith}
use Rattle.base64.specs.Engines.{standard}
use Rattle.base64.specs.GeneralPurpose.{encode_of, decode_of, IsBytes}
use Rattle.base64.proofs.EngineFacts.{decode_of-encode_of}
use Rattle.serde_json.specs.Data.{Data}
use Rattle.rpc_msg.specs.Payloads.{Contents as Payload, IsEncoded, null_payload}
use Rattle.rpc_msg.specs.declared.message.ReturnBody.{ReturnBody}
use Rattle.rpc_msg.specs.declared.message.ReturnBody.TheVariants as body
use Rattle.rpc_msg.specs.declared.message.PlainMessage.{PlainMessage}
use Rattle.rpc_msg.specs.declared.message.PlainMessage.TheVariants as plain
use Rattle.rpc_msg.specs.declared.message.Message.{Message}
use Rattle.rpc_msg.specs.declared.message.Message.TheVariants as message
use Rattle.rpc_journal.specs.declared.entry.JournalEntry.{JournalEntry}
use Rattle.rpc_journal.specs.declared.entry.JournalEntry.TheVariants as entry
use Rattle.rpc_journal.specs.declared.report.Outcome.{Outcome}
use Rattle.rpc_journal.specs.declared.report.Outcome.TheVariants as outcome
use Rattle.trace_json.specs.declared.fault.TraceFault.{TraceFault}
use Rattle.trace_json.specs.declared.fault.TraceFault.TheVariants as fault
use Rattle.trace_json_parts.specs.declared.fault.Fault.TheVariants as shape
use Rattle.trace_write.specs.declared.version.TraceVersion.{TraceVersion}
use Rattle.trace_write.specs.Parts.{in_base64, outcome_by}
use Rattle.trace_write.specs.Messages.{body_by, plain_by, message_by}
use Rattle.trace_write.specs.Values.{version_number, head_of, head_data, value_by, value}
use Rattle.trace_write.specs.Fits.{FitsU32, FitsPayload, FitsOutcome, FitsBody, FitsPlain, FitsMessage, Fits}
use Rattle.trace_json.specs.Filled.{payload_of_outcome, filled_outcome, payload_of_body, filled_body, payload_of_plain, filled_plain, payload_of_message, filled_message, payload_in, filled}
use Rattle.trace_json_parts.specs.ReadParts.{Raw}
use Rattle.trace_json.specs.ReadEntries.{head_at, entry_at}
use Rattle.trace_json.specs.Faults.{IsShaped, IsDecoded, IsEntry, IsFault, IsShapeFault, IsTextFault, IsPayloadFault, IsRawFault, IsVersionFault}
use Rattle.trace_json.proofs.Payloads.{null_fits, same_parts, same_bytes, same_base64}
use Rattle.trace_json.proofs.Again.{entry_again, head_of_again}

-- ---- the one payload of an entry

payload_or : Option Payload → Payload
payload_or None = null_payload
payload_or (Some p) = p

outcome_one : (w : Payload → List ℕ × ℕ) (o : Outcome) → outcome_by w o ≡ outcome_by (λ q. w (payload_or (payload_of_outcome o))) o
unfolding payload_or
outcome_one w (outcome.Results p) = refl
outcome_one w (outcome.Exception e) = refl

body_one : (w : Payload → List ℕ × ℕ) (b : ReturnBody) → body_by w b ≡ body_by (λ q. w (payload_or (payload_of_body b))) b
unfolding payload_or
body_one w (body.Results p ds) = refl
body_one w (body.Exception e) = refl
body_one w body.Canceled = refl

plain_one : (v : TraceVersion) (w : Payload → List ℕ × ℕ) (m : PlainMessage) → plain_by v w m ≡ plain_by v (λ q. w (payload_or (payload_of_plain m))) m
unfolding payload_or
plain_one v w (plain.Abort e) = refl
plain_one v w (plain.Bootstrap q) = refl
plain_one v w (plain.Call c) = refl
plain_one v w (plain.Return r) = rw (body_one w r.body) refl
plain_one v w (plain.Finish f) = refl
plain_one v w (plain.Resolve r) = refl
plain_one v w (plain.Release r) = refl
plain_one v w (plain.Disembargo d) = refl
plain_one v w (plain.Other n) = refl

message_one : (v : TraceVersion) (w : Payload → List ℕ × ℕ) (m : Message) → message_by v w m ≡ message_by v (λ q. w (payload_or (payload_of_message m))) m
message_one v w (message.Plain m) = plain_one v w m
message_one v w (message.Unimplemented m) = rw (plain_one v w m) refl

value_one : (v : TraceVersion) (w : Payload → List ℕ × ℕ) (e : JournalEntry) → value_by v w e ≡ value_by v (λ q. w (payload_or (payload_in e))) e
unfolding payload_or
value_one v w entry.Head = refl
value_one v w (entry.Born vat r o) = refl
value_one v w (entry.Asked vat call) = refl
value_one v w (entry.Made vat m) = refl
value_one v w (entry.Delivered vat d) = refl
value_one v w (entry.Answered vat task o refs) = rw (outcome_one w o) refl
value_one v w (entry.Ended vat e) = rw (outcome_one w e.outcome) refl
value_one v w (entry.Resolved vat p r) = refl
value_one v w (entry.Rejected vat p e) = refl
value_one v w (entry.Dropped vat r) = refl
value_one v w (entry.Finished vat call) = refl
value_one v w (entry.Advanced vat r a) = refl
value_one v w (entry.Refused vat code) = refl
value_one v w (entry.Sent vat m) = rw (message_one v w m) refl
value_one v w (entry.Got vat) = refl
value_one v w (entry.Down vat fault) = refl
value_one v w (entry.Tables a b) = refl

-- ---- an entry with another payload

outcome_filled : (w : Payload → List ℕ × ℕ) (p : Payload) (o : Outcome) → outcome_by w (filled_outcome p o) ≡ outcome_by (λ q. w p) o
outcome_filled w p (outcome.Results q) = refl
outcome_filled w p (outcome.Exception e) = refl

body_filled : (w : Payload → List ℕ × ℕ) (p : Payload) (b : ReturnBody) → body_by w (filled_body p b) ≡ body_by (λ q. w p) b
body_filled w p (body.Results q ds) = refl
body_filled w p (body.Exception e) = refl
body_filled w p body.Canceled = refl

plain_filled : (v : TraceVersion) (w : Payload → List ℕ × ℕ) (p : Payload) (m : PlainMessage) → plain_by v w (filled_plain p m) ≡ plain_by v (λ q. w p) m
plain_filled v w p (plain.Abort e) = refl
plain_filled v w p (plain.Bootstrap q) = refl
plain_filled v w p (plain.Call c) = refl
plain_filled v w p (plain.Return r) = rw (body_filled w p r.body) refl
plain_filled v w p (plain.Finish f) = refl
plain_filled v w p (plain.Resolve r) = refl
plain_filled v w p (plain.Release r) = refl
plain_filled v w p (plain.Disembargo d) = refl
plain_filled v w p (plain.Other n) = refl

message_filled : (v : TraceVersion) (w : Payload → List ℕ × ℕ) (p : Payload) (m : Message) → message_by v w (filled_message p m) ≡ message_by v (λ q. w p) m
message_filled v w p (message.Plain m) = plain_filled v w p m
message_filled v w p (message.Unimplemented m) = rw (plain_filled v w p m) refl

value_filled : (v : TraceVersion) (w : Payload → List ℕ × ℕ) (p : Payload) (e : JournalEntry) → value_by v w (filled p e) ≡ value_by v (λ q. w p) e
value_filled v w p entry.Head = refl
value_filled v w p (entry.Born vat r o) = refl
value_filled v w p (entry.Asked vat call) = refl
value_filled v w p (entry.Made vat m) = refl
value_filled v w p (entry.Delivered vat d) = refl
value_filled v w p (entry.Answered vat task o refs) = rw (outcome_filled w p o) refl
value_filled v w p (entry.Ended vat e) = rw (outcome_filled w p e.outcome) refl
value_filled v w p (entry.Resolved vat q r) = refl
value_filled v w p (entry.Rejected vat q e) = refl
value_filled v w p (entry.Dropped vat r) = refl
value_filled v w p (entry.Finished vat call) = refl
value_filled v w p (entry.Advanced vat r a) = refl
value_filled v w p (entry.Refused vat code) = refl
value_filled v w p (entry.Sent vat m) = rw (message_filled v w p m) refl
value_filled v w p (entry.Got vat) = refl
value_filled v w p (entry.Down vat fault) = refl
value_filled v w p (entry.Tables a b) = refl

outcome_refilled : (q : Payload) (o : Outcome) → filled_outcome (payload_or (payload_of_outcome o)) (filled_outcome q o) ≡ o
unfolding payload_or
outcome_refilled q (outcome.Results p) = refl
outcome_refilled q (outcome.Exception e) = refl

body_refilled : (q : Payload) (b : ReturnBody) → filled_body (payload_or (payload_of_body b)) (filled_body q b) ≡ b
unfolding payload_or
body_refilled q (body.Results p ds) = refl
body_refilled q (body.Exception e) = refl
body_refilled q body.Canceled = refl

plain_refilled : (q : Payload) (m : PlainMessage) → filled_plain (payload_or (payload_of_plain m)) (filled_plain q m) ≡ m
unfolding payload_or
plain_refilled q (plain.Abort e) = refl
plain_refilled q (plain.Bootstrap p) = refl
plain_refilled q (plain.Call c) = refl
plain_refilled q (plain.Return r) = ap (λ b. plain.Return (record r { body = b })) (body_refilled q r.body)
plain_refilled q (plain.Finish f) = refl
plain_refilled q (plain.Resolve r) = refl
plain_refilled q (plain.Release r) = refl
plain_refilled q (plain.Disembargo d) = refl
plain_refilled q (plain.Other n) = refl

message_refilled : (q : Payload) (m : Message) → filled_message (payload_or (payload_of_message m)) (filled_message q m) ≡ m
message_refilled q (message.Plain m) = ap (λ k. message.Plain k) (plain_refilled q m)
message_refilled q (message.Unimplemented m) = ap (λ k. message.Unimplemented k) (plain_refilled q m)

refilled : (q : Payload) (e : JournalEntry) → filled (payload_or (payload_in e)) (filled q e) ≡ e
unfolding payload_or
refilled q entry.Head = refl
refilled q (entry.Born vat r o) = refl
refilled q (entry.Asked vat call) = refl
refilled q (entry.Made vat m) = refl
refilled q (entry.Delivered vat d) = refl
refilled q (entry.Answered vat task o refs) = ap (λ x. entry.Answered vat task x refs) (outcome_refilled q o)
refilled q (entry.Ended vat e) = ap (λ x. entry.Ended vat (record e { outcome = x })) (outcome_refilled q e.outcome)
refilled q (entry.Resolved vat p r) = refl
refilled q (entry.Rejected vat p e) = refl
refilled q (entry.Dropped vat r) = refl
refilled q (entry.Finished vat call) = refl
refilled q (entry.Advanced vat r a) = refl
refilled q (entry.Refused vat code) = refl
refilled q (entry.Sent vat m) = ap (λ x. entry.Sent vat x) (message_refilled q m)
refilled q (entry.Got vat) = refl
refilled q (entry.Down vat fault) = refl
refilled q (entry.Tables a b) = refl

outcome_kept : (o : Outcome) → filled_outcome (payload_or (payload_of_outcome o)) o ≡ o
unfolding payload_or
outcome_kept (outcome.Results p) = refl
outcome_kept (outcome.Exception e) = refl

body_kept : (b : ReturnBody) → filled_body (payload_or (payload_of_body b)) b ≡ b
unfolding payload_or
body_kept (body.Results p ds) = refl
body_kept (body.Exception e) = refl
body_kept body.Canceled = refl

plain_kept : (m : PlainMessage) → filled_plain (payload_or (payload_of_plain m)) m ≡ m
unfolding payload_or
plain_kept (plain.Abort e) = refl
plain_kept (plain.Bootstrap p) = refl
plain_kept (plain.Call c) = refl
plain_kept (plain.Return r) = ap (λ b. plain.Return (record r { body = b })) (body_kept r.body)
plain_kept (plain.Finish f) = refl
plain_kept (plain.Resolve r) = refl
plain_kept (plain.Release r) = refl
plain_kept (plain.Disembargo d) = refl
plain_kept (plain.Other n) = refl

message_kept : (m : Message) → filled_message (payload_or (payload_of_message m)) m ≡ m
message_kept (message.Plain m) = ap (λ k. message.Plain k) (plain_kept m)
message_kept (message.Unimplemented m) = ap (λ k. message.Unimplemented k) (plain_kept m)

entry_kept : (e : JournalEntry) → filled (payload_or (payload_in e)) e ≡ e
unfolding payload_or
entry_kept entry.Head = refl
entry_kept (entry.Born vat r o) = refl
entry_kept (entry.Asked vat call) = refl
entry_kept (entry.Made vat m) = refl
entry_kept (entry.Delivered vat d) = refl
entry_kept (entry.Answered vat task o refs) = ap (λ x. entry.Answered vat task x refs) (outcome_kept o)
entry_kept (entry.Ended vat e) = ap (λ x. entry.Ended vat (record e { outcome = x })) (outcome_kept e.outcome)
entry_kept (entry.Resolved vat p r) = refl
entry_kept (entry.Rejected vat p e) = refl
entry_kept (entry.Dropped vat r) = refl
entry_kept (entry.Finished vat call) = refl
entry_kept (entry.Advanced vat r a) = refl
entry_kept (entry.Refused vat code) = refl
entry_kept (entry.Sent vat m) = ap (λ x. entry.Sent vat x) (message_kept m)
entry_kept (entry.Got vat) = refl
entry_kept (entry.Down vat fault) = refl
entry_kept (entry.Tables a b) = refl

-- ---- what fits

outcome_fits : (p : Payload) → FitsPayload p → (o : Outcome) → FitsOutcome o → FitsOutcome (filled_outcome p o)
outcome_fits p h (outcome.Results q) fits = h
outcome_fits p h (outcome.Exception e) fits = tt

body_fits : (p : Payload) → FitsPayload p → (b : ReturnBody) → FitsBody b → FitsBody (filled_body p b)
body_fits p h (body.Results q ds) fits = (fits.0, h)
body_fits p h (body.Exception e) fits = tt
body_fits p h body.Canceled fits = tt

plain_fits : (v : TraceVersion) (p : Payload) → FitsPayload p → (m : PlainMessage) → FitsPlain v m → FitsPlain v (filled_plain p m)
plain_fits v p h (plain.Abort e) fits = fits
plain_fits v p h (plain.Bootstrap q) fits = fits
plain_fits v p h (plain.Call c) fits = record { caps = fits.caps; method = fits.method; payload = h; question = fits.question; target = fits.target }
plain_fits v p h (plain.Return r) fits = record { answer = fits.answer; body = body_fits p h r.body fits.body; flag = fits.flag }
plain_fits v p h (plain.Finish f) fits = fits
plain_fits v p h (plain.Resolve r) fits = fits
plain_fits v p h (plain.Release r) fits = fits
plain_fits v p h (plain.Disembargo d) fits = fits
plain_fits v p h (plain.Other n) fits = fits

message_fits : (v : TraceVersion) (p : Payload) → FitsPayload p → (m : Message) → FitsMessage v m → FitsMessage v (filled_message p m)
message_fits v p h (message.Plain m) fits = plain_fits v p h m fits
message_fits v p h (message.Unimplemented m) fits = plain_fits v p h m fits

filled_fits : (v : TraceVersion) (p : Payload) → FitsPayload p → (e : JournalEntry) → Fits v e → Fits v (filled p e)
filled_fits v p h entry.Head fits = fits
filled_fits v p h (entry.Born vat r o) fits = fits
filled_fits v p h (entry.Asked vat call) fits = fits
filled_fits v p h (entry.Made vat m) fits = (fits.0, h)
filled_fits v p h (entry.Delivered vat d) fits = (fits.0, h)
filled_fits v p h (entry.Answered vat task o refs) fits = outcome_fits p h o fits
filled_fits v p h (entry.Ended vat e) fits = outcome_fits p h e.outcome fits
filled_fits v p h (entry.Resolved vat q r) fits = fits
filled_fits v p h (entry.Rejected vat q e) fits = fits
filled_fits v p h (entry.Dropped vat r) fits = fits
filled_fits v p h (entry.Finished vat call) fits = fits
filled_fits v p h (entry.Advanced vat r a) fits = fits
filled_fits v p h (entry.Refused vat code) fits = fits
filled_fits v p h (entry.Sent vat m) fits = message_fits v p h m fits
filled_fits v p h (entry.Got vat) fits = fits
filled_fits v p h (entry.Down vat fault) fits = fits
filled_fits v p h (entry.Tables a b) fits = fits

outcome_payload : (o : Outcome) → FitsOutcome o → FitsPayload (payload_or (payload_of_outcome o))
unfolding payload_or
outcome_payload (outcome.Results p) fits = fits
outcome_payload (outcome.Exception e) fits = null_fits

body_payload : (b : ReturnBody) → FitsBody b → FitsPayload (payload_or (payload_of_body b))
unfolding payload_or
body_payload (body.Results p ds) fits = fits.1
body_payload (body.Exception e) fits = null_fits
body_payload body.Canceled fits = null_fits

plain_payload : (v : TraceVersion) (m : PlainMessage) → FitsPlain v m → FitsPayload (payload_or (payload_of_plain m))
unfolding payload_or
plain_payload v (plain.Abort e) fits = null_fits
plain_payload v (plain.Bootstrap q) fits = null_fits
plain_payload v (plain.Call c) fits = fits.payload
plain_payload v (plain.Return r) fits = body_payload r.body fits.body
plain_payload v (plain.Finish f) fits = null_fits
plain_payload v (plain.Resolve r) fits = null_fits
plain_payload v (plain.Release r) fits = null_fits
plain_payload v (plain.Disembargo d) fits = null_fits
plain_payload v (plain.Other n) fits = null_fits

message_payload : (v : TraceVersion) (m : Message) → FitsMessage v m → FitsPayload (payload_or (payload_of_message m))
message_payload v (message.Plain m) fits = plain_payload v m fits
message_payload v (message.Unimplemented m) fits = plain_payload v m fits

entry_payload : (v : TraceVersion) (e : JournalEntry) → Fits v e → FitsPayload (payload_or (payload_in e))
unfolding payload_or
entry_payload v entry.Head fits = null_fits
entry_payload v (entry.Born vat r o) fits = null_fits
entry_payload v (entry.Asked vat call) fits = null_fits
entry_payload v (entry.Made vat m) fits = fits.1
entry_payload v (entry.Delivered vat d) fits = fits.1
entry_payload v (entry.Answered vat task o refs) fits = outcome_payload o fits
entry_payload v (entry.Ended vat e) fits = outcome_payload e.outcome fits
entry_payload v (entry.Resolved vat p r) fits = null_fits
entry_payload v (entry.Rejected vat p e) fits = null_fits
entry_payload v (entry.Dropped vat r) fits = null_fits
entry_payload v (entry.Finished vat call) fits = null_fits
entry_payload v (entry.Advanced vat r a) fits = null_fits
entry_payload v (entry.Refused vat code) fits = null_fits
entry_payload v (entry.Sent vat m) fits = message_payload v m fits
entry_payload v (entry.Got vat) fits = null_fits
entry_payload v (entry.Down vat fault) fits = null_fits
entry_payload v (entry.Tables a b) fits = null_fits

-- ---- the ladder

decoded_of_entry : (v : TraceVersion) (d : Data) → IsEntry v d → IsDecoded v d
decoded_of_entry v d s =
    let p : Payload = payload_or (payload_in s.0) in
    let h : FitsPayload p = entry_payload v s.0 s.1 in
    (p.bytes, p.caps, s.0, h.bytes, h.caps, s.1, s.2 ∙ value_one v in_base64 s.0)

shaped_of_decoded : (v : TraceVersion) (d : Data) → IsDecoded v d → IsShaped v d
shaped_of_decoded v d s = (encode_of standard s.0, s.1, s.2, s.4, s.5, s.6)

-- ---- readings

shaped_reads : (v : TraceVersion) (d : Data) (raw : List ℕ × ℕ) → FitsU32 raw.1 → (e : JournalEntry) → Fits v e → d ≡ value_by v (λ p. raw) e → entry_at v d ≡ Ok (filled null_payload e, option_map (λ p. raw) (payload_in e))
shaped_reads v d raw caps e fits is = ap (entry_at v) is ∙ entry_again v raw caps e fits

one_reading : (v : TraceVersion) (d : Data) (x y : JournalEntry × Raw) → entry_at v d ≡ Ok x → entry_at v d ≡ Ok y → x ≡ y
one_reading v d x y h k = let r : Ok x ≡ Ok y = sym h ∙ k in cc

some_raw : (raw other : List ℕ × ℕ) (o : Option Payload) → option_map (λ p. other) o ≡ Some raw → other ≡ raw
some_raw raw other None h = cc
some_raw raw other (Some p) h = cc

no_raw : (other : List ℕ × ℕ) (o : Option Payload) → option_map (λ p. other) o ≡ None → o ≡ None
no_raw other None h = refl
no_raw other (Some p) h = cc

-- What stands for the payload is found, whatever entry's value it is.
same_raw : (v : TraceVersion) (d : Data) (x : JournalEntry) (raw : List ℕ × ℕ) → entry_at v d ≡ Ok (x, Some raw)
    → (other : List ℕ × ℕ) → FitsU32 other.1 → (e : JournalEntry) → Fits v e → d ≡ value_by v (λ p. other) e → other ≡ raw
same_raw v d x raw read other caps e fits is =
    some_raw raw other (payload_in e) (ap (λ r. r.1) (one_reading v d _ _ (shaped_reads v d other caps e fits is) read))

entry_raw : JournalEntry → List ℕ × ℕ
entry_raw e = in_base64 (payload_or (payload_in e))

entry_caps : (v : TraceVersion) (e : JournalEntry) → Fits v e → FitsU32 (entry_raw e).1
unfolding entry_raw
entry_caps v e fits = let h : FitsPayload (payload_or (payload_in e)) = entry_payload v e fits in h.caps

entry_stands : (v : TraceVersion) (d : Data) (e : JournalEntry) → d ≡ value v e → d ≡ value_by v (λ p. entry_raw e) e
unfolding entry_raw
entry_stands v d e is = is ∙ value_one v in_base64 e

entry_reads : (v : TraceVersion) (d : Data) (e : JournalEntry) → Fits v e → d ≡ value v e → entry_at v d ≡ Ok (filled null_payload e, option_map (λ p. entry_raw e) (payload_in e))
entry_reads v d e fits is = shaped_reads v d (entry_raw e) (entry_caps v e fits) e fits (entry_stands v d e is)

-- ---- an entry was read

pub filled_value : (v : TraceVersion) (d : Data) (x : JournalEntry) (raw : List ℕ × ℕ) (p : Payload) → d ≡ value_by v (λ q. raw) x → in_base64 p ≡ raw → d ≡ value v (filled p x)
filled_value v d x raw p is h = is ∙ ap (λ (r : List ℕ × ℕ). value_by v (λ q. r) x) (sym h) ∙ sym (value_filled v in_base64 p x)

pub filled_fit : (v : TraceVersion) (p : Payload) → FitsPayload p → (x : JournalEntry) → Fits v x → Fits v (filled p x)
filled_fit v p h x fits = filled_fits v p h x fits

unfilled : (e : JournalEntry) → payload_in e ≡ None → filled null_payload e ≡ e
unfolding payload_or
unfilled e h = ap (λ (o : Option Payload). filled (payload_or o) e) (sym h) ∙ entry_kept e

pub same_bare : (v : TraceVersion) (d : Data) (x : JournalEntry) → entry_at v d ≡ Ok (x, None) → (e : JournalEntry) → Fits v e → d ≡ value v e → x ≡ e
same_bare v d x read e fits is =
    let r = one_reading v d _ _ read (entry_reads v d e fits is) in
    ap (λ z. z.0) r ∙ unfilled e (no_raw (entry_raw e) (payload_in e) (sym (ap (λ z. z.1) r)))

pub same_filled : (v : TraceVersion) (d : Data) (x : JournalEntry) (raw : List ℕ × ℕ) (p : Payload) → entry_at v d ≡ Ok (x, Some raw) → in_base64 p ≡ raw → FitsPayload p → (e : JournalEntry) → Fits v e → d ≡ value v e → filled p x ≡ e
unfolding entry_raw
same_filled v d x raw p read h hp e fits is =
    let q : Payload = payload_or (payload_in e) in
    let r = one_reading v d _ _ read (entry_reads v d e fits is) in
    let s : entry_raw e ≡ raw = some_raw raw (entry_raw e) (payload_in e) (sym (ap (λ z. z.1) r)) in
    let t : p ≡ q = same_base64 p q hp (entry_payload v e fits) (h ∙ sym s) in
    ap (λ k. filled k x) t ∙ ap (λ k. filled q k) (ap (λ z. z.0) r) ∙ refilled null_payload e

-- ---- a fault was found

pub fault_shape : (v : TraceVersion) (d : Data) → entry_at v d ≡ Err shape.WrongShape → (f : TraceFault) → IsShapeFault f d → IsFault v f (Some d)
fault_shape v d read fault.Memory h = tt
fault_shape v d read fault.NotJson h = absurd h
fault_shape v d read fault.WrongShape h = record {
  no_entry = λ s. let r : Err shape.WrongShape ≡ Ok (filled null_payload s.2, option_map (λ p. (s.0, s.1)) (payload_in s.2)) = sym read ∙ shaped_reads v d (s.0, s.1) s.3 s.2 s.4 s.5 in cc;
  no_head = λ n is. let r : Err shape.WrongShape ≡ Ok n = sym h ∙ ap head_at is ∙ head_of_again n in cc;
}
fault_shape v d read fault.BadBase64 h = absurd h
fault_shape v d read fault.BadPayload h = absurd h
fault_shape v d read fault.Version h = record {
  number = h.0;
  head = h.1;
  another = λ same. let r : Err shape.WrongShape ≡ Ok (entry.Head, None) = sym read ∙ shaped_reads v d ([], 0) (omega arith) entry.Head tt (h.1 ∙ ap head_of same) in cc;
}

not_err : (text bytes : List ℕ) → IsErr (decode_of standard text) → IsBytes bytes → text ≡ encode_of standard bytes → ⊥
not_err text bytes h b e =
    let r : IsErr (decode_of standard (encode_of standard bytes)) = subst (λ (t : List ℕ). IsErr (decode_of standard t)) e h in
    let s : true ≡ false = sym r ∙ ap (λ q. is_err q) (decode_of-encode_of standard bytes refl b) in cc

missed_payload : (v : TraceVersion) (d : Data) (x : JournalEntry) (raw : List ℕ × ℕ) (bytes : List ℕ) → entry_at v d ≡ Ok (x, Some raw) → raw.0 ≡ encode_of standard bytes → IsBytes bytes
    → ¬ IsEncoded (record { bytes = bytes; caps = raw.1 }) → IsEntry v d → ⊥
unfolding entry_raw
missed_payload v d x raw bytes read e b h s =
    let p : Payload = payload_or (payload_in s.0) in
    let fit : FitsPayload p = entry_payload v s.0 s.1 in
    let same : in_base64 p ≡ raw = same_raw v d x raw read (entry_raw s.0) (entry_caps v s.0 s.1) s.0 s.1 (entry_stands v d s.0 s.2) in
    let whole : p ≡ record { bytes = bytes; caps = raw.1 } = same_parts p (record { bytes = bytes; caps = raw.1 }) (same_bytes p.bytes bytes fit.bytes b (ap (λ r. r.0) same ∙ e)) (ap (λ r. r.1) same) in
    h (subst (λ (q : Payload). IsEncoded q) whole fit.encoded)

-- A fault of a text, or of the bytes that it is, is one of what stands for a payload.
pub raw_text : (f : TraceFault) (text : List ℕ) (caps : ℕ) → IsTextFault f text → IsRawFault f (text, caps)
raw_text fault.Memory text caps h = tt
raw_text fault.NotJson text caps h = absurd h
raw_text fault.WrongShape text caps h = absurd h
raw_text fault.BadBase64 text caps h = h
raw_text fault.BadPayload text caps h = absurd h
raw_text fault.Version text caps h = absurd h

pub raw_bytes : (f : TraceFault) (text bytes : List ℕ) (caps : ℕ) → text ≡ encode_of standard bytes → IsBytes bytes → IsPayloadFault f bytes caps → IsRawFault f (text, caps)
raw_bytes fault.Memory text bytes caps e b h = tt
raw_bytes fault.NotJson text bytes caps e b h = absurd h
raw_bytes fault.WrongShape text bytes caps e b h = absurd h
raw_bytes fault.BadBase64 text bytes caps e b h = absurd h
raw_bytes fault.BadPayload text bytes caps e b h = (bytes, e, b, h)
raw_bytes fault.Version text bytes caps e b h = absurd h

pub fault_raw : (v : TraceVersion) (d : Data) (x : JournalEntry) (raw : List ℕ × ℕ) → entry_at v d ≡ Ok (x, Some raw) → d ≡ value_by v (λ p. raw) x → Fits v x → FitsU32 raw.1 → (f : TraceFault) → IsRawFault f raw → IsFault v f (Some d)
fault_raw v d x raw read is fits caps fault.Memory h = tt
fault_raw v d x raw read is fits caps fault.NotJson h = absurd h
fault_raw v d x raw read is fits caps fault.WrongShape h = absurd h
fault_raw v d x raw read is fits caps fault.BadBase64 h = record {
  shaped = (raw.0, raw.1, x, caps, fits, is);
  missed = λ s. not_err raw.0 s.0 h s.3 (sym (ap (λ r. r.0) (same_raw v d x raw read (encode_of standard s.0, s.1) s.4 s.2 s.5 s.6)));
}
fault_raw v d x raw read is fits caps fault.BadPayload h = record {
  decoded = (h.0, raw.1, x, h.2, caps, fits, is ∙ ap (λ (t : List ℕ). value_by v (λ p. (t, raw.1)) x) h.1);
  missed = λ s. missed_payload v d x raw h.0 read h.1 h.2 h.3 s;
}
fault_raw v d x raw read is fits caps fault.Version h = absurd h

-- The only entry whose value is a head says the version's number.
head_number_same : (v : TraceVersion) (n : ℕ) (e : JournalEntry) → head_of n ≡ value v e → n ≡ version_number v
head_number_same v n entry.Head h = cc
head_number_same v n (entry.Born vat r o) h = cc
head_number_same v n (entry.Asked vat call) h = cc
head_number_same v n (entry.Made vat m) h = cc
head_number_same v n (entry.Delivered vat x) h = cc
head_number_same v n (entry.Answered vat task o refs) h = cc
head_number_same v n (entry.Ended vat x) h = cc
head_number_same v n (entry.Resolved vat p r) h = cc
head_number_same v n (entry.Rejected vat p x) h = cc
head_number_same v n (entry.Dropped vat r) h = cc
head_number_same v n (entry.Finished vat call) h = cc
head_number_same v n (entry.Advanced vat r a) h = cc
head_number_same v n (entry.Refused vat code) h = cc
head_number_same v n (entry.Sent vat m) h = cc
head_number_same v n (entry.Got vat) h = cc
head_number_same v n (entry.Down vat f) h = cc
head_number_same v n (entry.Tables a b) h = cc

-- The value of an entry has no fault but want of memory.
pub no_fault : (v : TraceVersion) (d : Data) (f : TraceFault) → IsFault v f (Some d) → (e : JournalEntry) → Fits v e → d ≡ value v e → f ≡ fault.Memory
no_fault v d fault.Memory h e fits is = refl
no_fault v d fault.NotJson h e fits is = cc
no_fault v d fault.WrongShape h e fits is = absurd (h.no_entry (shaped_of_decoded v d (decoded_of_entry v d (e, fits, is))))
no_fault v d fault.BadBase64 h e fits is = absurd (h.missed (decoded_of_entry v d (e, fits, is)))
no_fault v d fault.BadPayload h e fits is = absurd (h.missed (e, fits, is))
no_fault v d fault.Version h e fits is = absurd (h.another (head_number_same v h.number e (sym h.head ∙ is)))

-- ---- what was answered

pub only_by_fault : (v : TraceVersion) (d : Data) (r : Result JournalEntry TraceFault) → IfErr r (λ f. IsFault v f (Some d)) → (e : JournalEntry) → Fits v e → d ≡ value v e → IsOkUnless r fault.Memory
only_by_fault v d (Ok x) h e fits is = tt
only_by_fault v d (Err f) h e fits is = no_fault v d f h e fits is

-- What the entry of a value is, with the payload that `raw` stands for.
abbrev IsFilled : JournalEntry → List ℕ × ℕ → JournalEntry → Type 0
IsFilled x raw e = (p : Payload) × (in_base64 p ≡ raw) × FitsPayload p × (e ≡ filled p x)

pub filled_ok : (v : TraceVersion) (d : Data) (x : JournalEntry) (raw : List ℕ × ℕ) → d ≡ value_by v (λ q. raw) x → Fits v x → (r : Result JournalEntry TraceFault) → IfOk r (IsFilled x raw) → IfOk r (λ e. (d ≡ value v e) × Fits v e)
filled_ok v d x raw is fits (Ok e) h = (filled_value v d x raw h.0 is h.1 ∙ ap (value v) (sym h.3), subst (Fits v) (sym h.3) (filled_fit v h.0 h.2 x fits))
filled_ok v d x raw is fits (Err f) h = tt

pub filled_same : (v : TraceVersion) (d : Data) (x : JournalEntry) (raw : List ℕ × ℕ) → entry_at v d ≡ Ok (x, Some raw) → (r : Result JournalEntry TraceFault) → IfOk r (IsFilled x raw) → (e : JournalEntry) → Fits v e → d ≡ value v e → IfOk r (λ y. y ≡ e)
filled_same v d x raw read (Ok y) h e fits is = h.3 ∙ same_filled v d x raw h.0 read h.1 h.2 e fits is
filled_same v d x raw read (Err f) h e fits is = tt

pub filled_fault : (v : TraceVersion) (d : Data) (x : JournalEntry) (raw : List ℕ × ℕ) → entry_at v d ≡ Ok (x, Some raw) → d ≡ value_by v (λ p. raw) x → Fits v x → FitsU32 raw.1 → (r : Result JournalEntry TraceFault) → IfErr r (λ f. IsRawFault f raw) → IfErr r (λ f. IsFault v f (Some d))
filled_fault v d x raw read is fits caps (Ok y) h = tt
filled_fault v d x raw read is fits caps (Err f) h = fault_raw v d x raw read is fits caps f h

-- ---- the first line

pub no_head : (d : Data) → head_at d ≡ Err shape.WrongShape → (n : ℕ) → ¬ (d ≡ head_of n)
no_head d h n is = let r : Err shape.WrongShape ≡ Ok n = sym h ∙ ap head_at is ∙ head_of_again n in cc

pub no_version : (t : Option Data) (d : Data) → t ≡ Some d → head_at d ≡ Err shape.WrongShape → (v : TraceVersion) → ¬ (t ≡ Some (head_data v))
no_version t d e h v is = let s : Some d ≡ Some (head_data v) = sym e ∙ is in no_head d h (version_number v) cc

pub version_fault : (t : Option Data) (d : Data) → t ≡ Some d → head_at d ≡ Err shape.WrongShape → IsVersionFault fault.WrongShape t
version_fault t d e h = subst (λ (o : Option Data). IsVersionFault fault.WrongShape o) (sym e) (no_head d h)
