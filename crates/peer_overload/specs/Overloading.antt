-- What becomes of each envelope of the peer where a vat may have no room for an answer more (docs/messages.md, "Peers of other make").
use Rattle.std.specs.Prelude.{◌≡◌, Bool, true, false, ◌||◌, cond, nat_le, List, map, Result, Ok, Err, Option, Some, None, codes}
use Rattle.std.specs.FinMap as finite
use Rattle.finite_maps.specs.Tally.{Map}
use Rattle.rpc_msg.specs.declared.ids.QuestionId.{QuestionId}
use Rattle.rpc_msg.specs.declared.parts.Target.{Target}
use Rattle.rpc_msg.specs.declared.parts.Target.TheVariants as target
use Rattle.rpc_msg.specs.declared.parts.Descriptor.{Descriptor}
use Rattle.rpc_msg.specs.declared.parts.Descriptor.TheVariants as descriptor
use Rattle.rpc_msg.specs.declared.exception.ExceptionKind.TheVariants.{Overloaded}
use Rattle.rpc_msg.specs.declared.message.Call.{Call}
use Rattle.rpc_msg.specs.declared.message.Finish.{Finish}
use Rattle.rpc_msg.specs.declared.message.Return.{Return}
use Rattle.rpc_msg.specs.declared.message.ReturnBody.{ReturnBody}
use Rattle.rpc_msg.specs.declared.message.ReturnBody.TheVariants as body
use Rattle.rpc_msg.specs.declared.message.Resolve.{Resolve}
use Rattle.rpc_msg.specs.declared.message.ResolvedTo.{ResolvedTo}
use Rattle.rpc_msg.specs.declared.message.ResolvedTo.TheVariants as resolved
use Rattle.rpc_msg.specs.declared.message.PlainMessage.{PlainMessage}
use Rattle.rpc_msg.specs.declared.message.PlainMessage.TheVariants as plain
use Rattle.rpc_msg.specs.declared.message.Message.{Message}
use Rattle.rpc_msg.specs.declared.message.Message.TheVariants as message
use Rattle.rpc_codec.specs.declared.envelope.TakenFromOther.{TakenFromOther}
use Rattle.rpc_codec.specs.Envelopes.{What, profile, tail_call, taken_from_other, seen_envelope}
use Rattle.peer_overload.specs.declared.errors.OverloadFault.{OverloadFault}
use Rattle.peer_overload.specs.declared.errors.OverloadFault.TheVariants.{QuestionInUse, TooManyRefused}
use Rattle.peer_overload.specs.declared.errors.OverloadError.{OverloadError}
use Rattle.peer_overload.specs.declared.errors.OverloadError.TheVariants as error
use Rattle.peer_overload.specs.declared.refusals.Refusal.{Refusal}
use Rattle.peer_overload.specs.declared.refusals.Refusal.TheVariants.{Plain, Tail, TakenTail}
use Rattle.peer_overload.specs.declared.admission.Admission.{Admission}
use Rattle.peer_overload.specs.declared.admission.Admission.TheVariants as admission

-- The peer's questions that were refused and are not finished, by their ids.
abbrev pub Overloading : Type 0
Overloading = Map Refusal

abbrev pub fresh : Overloading
fresh = finite.empty

-- A refused question is as this says now.
abbrev pub with_refusal : Overloading → QuestionId → Refusal → Overloading
with_refusal s q r = finite.insert s q.0 r

-- It is finished.
abbrev pub without_refusal : Overloading → QuestionId → Overloading
without_refusal s q = finite.remove s q.0

-- ---- what names a refused question

abbrev pub is_refused : Overloading → QuestionId → Bool
is_refused s q = finite.contains_key s q.0

-- A call goes to what a refused question was to give.
abbrev pub goes_to_refused : Overloading → Target → Bool
goes_to_refused s (target.ImportedCap e) = false
goes_to_refused s (target.PromisedAnswer q path) = is_refused s q

-- A capability that a refused question was to give is none.
abbrev pub cleared : Overloading → Descriptor → Descriptor
cleared s (descriptor.ReceiverAnswer q path) = cond (is_refused s q) descriptor.None (descriptor.ReceiverAnswer q path)
cleared s d = d

abbrev pub cleared_all : Overloading → List Descriptor → List Descriptor
cleared_all s ds = map (cleared s) ds

abbrev pub cleared_call : Overloading → Call → Call
cleared_call s c = record c { descriptors = cleared_all s c.descriptors }

abbrev pub cleared_body : Overloading → ReturnBody → ReturnBody
cleared_body s (body.Results p ds) = body.Results p (cleared_all s ds)
cleared_body s b = b

abbrev pub cleared_return : Overloading → Return → Return
cleared_return s r = record r { body = cleared_body s r.body }

abbrev pub cleared_to : Overloading → ResolvedTo → ResolvedTo
cleared_to s (resolved.Cap d) = resolved.Cap (cleared s d)
cleared_to s to = to

abbrev pub cleared_resolve : Overloading → Resolve → Resolve
cleared_resolve s r = record r { to = cleared_to s r.to }

-- ---- what the peer is told

abbrev pub too_many : ReturnBody
too_many = body.Exception (record { kind = Overloaded; reason = codes "too many calls" })

-- The Return of a refused question. The vat has seen none of its descriptors, so all that they gave goes back.
abbrev pub overloaded : QuestionId → Message
overloaded q = message.Plain (plain.Return (record { answer = q; release_param_caps = true; body = too_many }))

-- ---- what comes

pub data Outcome : Type 0 where
  -- the vat hears it
  admitted : What → Outcome
  -- the peer is told that the vat is overloaded
  refused : QuestionId → Outcome
  -- the peer is told that the results of its tail call are kept
  refused_tail : QuestionId → Outcome
  -- nobody hears of it
  nothing : Outcome

-- What an envelope comes to, and the state after it.
pub record Coming : Type 0 where
  pub state : Overloading
  pub outcome : Outcome

abbrev pub admits : Overloading → What → Coming
admits s w = record { state = s; outcome = admitted w }

abbrev pub hears : Overloading → PlainMessage → Coming
hears s m = admits s (profile (message.Plain m))

abbrev pub told : QuestionId → Refusal → Outcome
told q Plain = refused q
told q Tail = refused_tail q
told q TakenTail = refused_tail q

-- at most 65,536 refused questions are open
abbrev pub refuses : Overloading → QuestionId → Refusal → Result Coming OverloadFault
refuses s q r = cond (nat_le 65536 (finite.len s)) (Err TooManyRefused) (Ok (record { state = with_refusal s q r; outcome = told q r }))

-- A question comes, as this envelope: the vat hears it, or it is refused, as where there is no room. Its id must not be that of a
-- refused question.
abbrev pub asks : Overloading → QuestionId → Refusal → Bool → What → Result Coming OverloadFault
asks s q r is_over w = cond (is_refused s q) (Err QuestionInUse) (cond is_over (refuses s q r) (Ok (admits s w)))

abbrev pub calls : Overloading → Bool → Call → Refusal → What → Result Coming OverloadFault
calls s is_full c r w = asks s c.question r (is_full || goes_to_refused s c.target) w

-- A Finish comes, of a refused question or of another one.
abbrev pub finishes : Overloading → Finish → Bool → Coming
finishes s f true = record { state = without_refusal s f.question; outcome = nothing }
finishes s f false = hears s (plain.Finish f)

-- The vat hears the refusal of a tail call as the outcome of the question that takes it.
abbrev pub return_to : TakenFromOther → PlainMessage
return_to t = plain.Return (record { answer = t.answer; release_param_caps = t.release_param_caps; body = too_many })

-- A Return comes that takes the results of a question. A refused tail call is taken once.
abbrev pub takes : Overloading → TakenFromOther → Option Refusal → Coming
takes s t (Some Tail) = hears (with_refusal s t.question TakenTail) (return_to t)
takes s t (Some Plain) = admits s (taken_from_other t)
takes s t (Some TakenTail) = admits s (taken_from_other t)
takes s t None = admits s (taken_from_other t)

-- A message of the profile comes.
abbrev pub comes_plain : Overloading → Bool → PlainMessage → Result Coming OverloadFault
comes_plain s is_full (plain.Bootstrap q) = asks s q Plain is_full (profile (message.Plain (plain.Bootstrap q)))
comes_plain s is_full (plain.Call c) = calls s is_full c Plain (profile (message.Plain (plain.Call (cleared_call s c))))
comes_plain s is_full (plain.Return r) = Ok (hears s (plain.Return (cleared_return s r)))
comes_plain s is_full (plain.Finish f) = Ok (finishes s f (is_refused s f.question))
comes_plain s is_full (plain.Resolve r) = Ok (hears s (plain.Resolve (cleared_resolve s r)))
comes_plain s is_full m = Ok (hears s m)

abbrev pub comes_message : Overloading → Bool → Message → Result Coming OverloadFault
comes_message s is_full (message.Plain m) = comes_plain s is_full m
comes_message s is_full (message.Unimplemented m) = Ok (admits s (profile (message.Unimplemented m)))

-- An envelope comes, where the vat has as many answers as it may have, or not.
abbrev pub comes : Overloading → Bool → What → Result Coming OverloadFault
comes s is_full (profile m) = comes_message s is_full m
comes s is_full (tail_call c) = calls s is_full c Tail (tail_call (cleared_call s c))
comes s is_full (taken_from_other t) = Ok (takes s t (finite.get s t.question.0))
comes s is_full w = Ok (admits s w)

-- ---- what the function answers

abbrev pub seen_admission : Admission → Outcome
seen_admission (admission.Admitted e) = admitted (seen_envelope e)
seen_admission (admission.Refused q) = refused q
seen_admission (admission.RefusedTail q) = refused_tail q
seen_admission admission.Nothing = nothing

-- An envelope came: this is what it comes to; or it is at fault or memory is wanting, and nothing changes.
abbrev pub Comes : Overloading → Result Coming OverloadFault → Result Admission OverloadError → Overloading → Type 0
Comes old coming (Ok a) new = coming ≡ Ok (record { state = new; outcome = seen_admission a })
Comes old coming (Err error.Memory) new = new ≡ old
Comes old coming (Err (error.Fault f)) new = (coming ≡ Err f) × (new ≡ old)
