-- What is cleared gives what it gave, and what is refused gives it back.
use Rattle.std.proofs.Common.{◌≡◌, ℕ, ◌+◌, true, false, List, [], ◌∷◌, Ok, Err, refl, ap, ◌∙◌, eq-eqb, arith}
use Rattle.std.specs.Prelude.{Bool, cond, nat_le, if◌then◌else◌, Option, Some, None, Result, IfOk}
use Rattle.std.specs.FinMap as finite
use Rattle.rpc_msg.specs.Messages.{descriptors_of, descriptors_of_body, descriptors_of_resolved, given}
use Rattle.rpc_msg.specs.declared.ids.ExportId.{ExportId}
use Rattle.rpc_msg.specs.declared.ids.QuestionId.{QuestionId}
use Rattle.rpc_msg.specs.declared.parts.Descriptor.{Descriptor}
use Rattle.rpc_msg.specs.declared.parts.Descriptor.TheVariants as descriptor
use Rattle.rpc_msg.specs.declared.message.Finish.{Finish}
use Rattle.rpc_msg.specs.declared.message.ReturnBody.{ReturnBody}
use Rattle.rpc_msg.specs.declared.message.ReturnBody.TheVariants as body
use Rattle.rpc_msg.specs.declared.message.ResolvedTo.{ResolvedTo}
use Rattle.rpc_msg.specs.declared.message.ResolvedTo.TheVariants as resolved
use Rattle.rpc_msg.specs.declared.message.PlainMessage.{PlainMessage}
use Rattle.rpc_msg.specs.declared.message.PlainMessage.TheVariants as plain
use Rattle.rpc_msg.specs.declared.message.Message.TheVariants as message
use Rattle.rpc_codec.specs.declared.envelope.TakenFromOther.{TakenFromOther}
use Rattle.rpc_codec.specs.Envelopes.{What, profile, tail_call, sent_elsewhere, taken_from_other, strange}
use Rattle.rpc_codec.specs.Carried.{descriptors_in, gives, times}
use Rattle.peer_overload.specs.declared.errors.OverloadFault.{OverloadFault}
use Rattle.peer_overload.specs.declared.errors.OverloadFault.TheVariants.{QuestionInUse, TooManyRefused}
use Rattle.peer_overload.specs.declared.refusals.Refusal.{Refusal}
use Rattle.peer_overload.specs.declared.refusals.Refusal.TheVariants.{Plain, Tail, TakenTail}
use Rattle.peer_overload.specs.Overloading.{Coming, Overloading, admits, asks, cleared_all, cleared_body, cleared_call, cleared_resolve, cleared_return, cleared_to, comes, finishes, is_refused, takes, told, with_refusal}
use Rattle.peer_overload.specs.Laws.{given_back, heard_gives, is_question}

module _ (s : Overloading) where
  one_cleared : (b : Bool) (q : QuestionId) (d : Descriptor) (ds : List Descriptor) → given (d ∷ ds) ≡ given ds → given (cond b descriptor.None d ∷ ds) ≡ given ds
  one_cleared true q d ds none = refl
  one_cleared false q d ds none = none

  all_cleared : (ds : List Descriptor) → given (cleared_all s ds) ≡ given ds
  all_cleared [] = refl
  all_cleared (descriptor.None ∷ ds) = all_cleared ds
  all_cleared (descriptor.SenderHosted x ∷ ds) = ap (λ ns. x.0 ∷ ns) (all_cleared ds)
  all_cleared (descriptor.SenderPromise x ∷ ds) = ap (λ ns. x.0 ∷ ns) (all_cleared ds)
  all_cleared (descriptor.ReceiverHosted x ∷ ds) = all_cleared ds
  all_cleared (descriptor.ReceiverAnswer q path ∷ ds) = one_cleared (is_refused s q) q (descriptor.ReceiverAnswer q path) (cleared_all s ds) refl ∙ all_cleared ds

  body_cleared : (b : ReturnBody) → given (descriptors_of_body (cleared_body s b)) ≡ given (descriptors_of_body b)
  body_cleared (body.Results p ds) = all_cleared ds
  body_cleared (body.Exception x) = refl
  body_cleared body.Canceled = refl

  to_cleared : (to : ResolvedTo) → given (descriptors_of_resolved (cleared_to s to)) ≡ given (descriptors_of_resolved to)
  to_cleared (resolved.Cap d) = all_cleared (d ∷ [])
  to_cleared (resolved.Exception x) = refl

  module _ (e : ExportId) where
    -- Each count is heard or given back.
    abbrev Once : What → Coming → Type 0
    Once w c = gives e w ≡ heard_gives e c.outcome + given_back e w c.outcome

    -- what is heard gives as much
    is_heard : (w : What) (heard : What) (new : Overloading) → given (descriptors_in heard) ≡ given (descriptors_in w) → Once w (admits new heard)
    is_heard w heard new same = let a = ap (λ ns. times e ns) same in omega (arith, a)

    plainly : (m heard : PlainMessage) → given (descriptors_of (message.Plain heard)) ≡ given (descriptors_of (message.Plain m)) → Once (profile (message.Plain m)) (admits s (profile (message.Plain heard)))
    plainly m heard same = is_heard (profile (message.Plain m)) (profile (message.Plain heard)) s same

    given_all : (b : Bool) (n : ℕ) → b ≡ true → n ≡ 0 + (if b then n else 0)
    given_all true n is = omega arith
    given_all false n is = absurd (let h : false ≡ true = is in cc)

    is_told : (w : What) (q : QuestionId) (r : Refusal) (new : Overloading) → is_question q w ≡ true → Once w (record { state = new; outcome = told q r })
    is_told w q Plain new is = given_all (is_question q w) (gives e w) is
    is_told w q Tail new is = given_all (is_question q w) (gives e w) is
    is_told w q TakenTail new is = given_all (is_question q w) (gives e w) is

    if_full : (w : What) (b : Bool) (c : Coming) → Once w c → IfOk (cond b (Err TooManyRefused) (Ok c)) (λ (c : Coming). Once w c)
    if_full w true c once = tt
    if_full w false c once = once

    if_in_use : (w : What) (b : Bool) (r : Result Coming OverloadFault) → IfOk r (λ (c : Coming). Once w c) → IfOk (cond b (Err QuestionInUse) r) (λ (c : Coming). Once w c)
    if_in_use w true r once = tt
    if_in_use w false r once = once

    if_over : (w : What) (b : Bool) (r t : Result Coming OverloadFault) → IfOk r (λ (c : Coming). Once w c) → IfOk t (λ (c : Coming). Once w c) → IfOk (cond b r t) (λ (c : Coming). Once w c)
    if_over w true r t refuses admits = refuses
    if_over w false r t refuses admits = admits

    asked : (w heard : What) (q : QuestionId) (r : Refusal) (b : Bool) → is_question q w ≡ true → given (descriptors_in heard) ≡ given (descriptors_in w)
        → IfOk (asks s q r b heard) (λ (c : Coming). Once w c)
    asked w heard q r b is same =
        if_in_use w (is_refused s q) _ (if_over w b _ _ (if_full w (nat_le 65536 (finite.len s)) _ (is_told w q r (with_refusal s q r) is)) (is_heard w heard s same))

    finished : (f : Finish) (b : Bool) → Once (profile (message.Plain (plain.Finish f))) (finishes s f b)
    finished f true = refl
    finished f false = refl

    taken : (t : TakenFromOther) (o : Option Refusal) → Once (taken_from_other t) (takes s t o)
    taken t (Some Tail) = refl
    taken t (Some Plain) = refl
    taken t (Some TakenTail) = refl
    taken t None = refl

    plain_came : (is_full : Bool) (m : PlainMessage) → IfOk (comes s is_full (profile (message.Plain m))) (λ (c : Coming). Once (profile (message.Plain m)) c)
    plain_came is_full (plain.Bootstrap q) = asked (profile (message.Plain (plain.Bootstrap q))) (profile (message.Plain (plain.Bootstrap q))) q Plain is_full (eq-eqb q.0 q.0 refl) refl
    plain_came is_full (plain.Call c) = asked (profile (message.Plain (plain.Call c))) (profile (message.Plain (plain.Call (cleared_call s c)))) c.question Plain _ (eq-eqb c.question.0 c.question.0 refl) (all_cleared c.descriptors)
    plain_came is_full (plain.Return r) = plainly (plain.Return r) (plain.Return (cleared_return s r)) (body_cleared r.body)
    plain_came is_full (plain.Finish f) = finished f (is_refused s f.question)
    plain_came is_full (plain.Resolve r) = plainly (plain.Resolve r) (plain.Resolve (cleared_resolve s r)) (to_cleared r.to)
    plain_came is_full (plain.Abort x) = plainly (plain.Abort x) (plain.Abort x) refl
    plain_came is_full (plain.Release r) = plainly (plain.Release r) (plain.Release r) refl
    plain_came is_full (plain.Disembargo d) = plainly (plain.Disembargo d) (plain.Disembargo d) refl
    plain_came is_full (plain.Other n) = plainly (plain.Other n) (plain.Other n) refl

    pub came : (is_full : Bool) (w : What) → IfOk (comes s is_full w) (λ (c : Coming). Once w c)
    came is_full (profile (message.Plain m)) = plain_came is_full m
    came is_full (profile (message.Unimplemented m)) = is_heard (profile (message.Unimplemented m)) (profile (message.Unimplemented m)) s refl
    came is_full (tail_call c) = asked (tail_call c) (tail_call (cleared_call s c)) c.question Tail _ (eq-eqb c.question.0 c.question.0 refl) (all_cleared c.descriptors)
    came is_full (sent_elsewhere t) = refl
    came is_full (taken_from_other t) = taken t (finite.get s t.question.0)
    came is_full (strange n original) = refl
