-- Where no question was refused and there is room, all is heard as it came.
use Rattle.std.proofs.Common.{◌≡◌, Bool, true, false, cond, List, [], ◌∷◌, Ok, Err, is_some, refl, sym, ap, subst, ◌∙◌}
use Rattle.std.specs.Prelude.{Option}
use Rattle.std.specs.Ordering.{nat_cmp}
use Rattle.std.specs.FinMap as finite
use Rattle.std.specs.FinMap.{get-empty}
use Rattle.rpc_msg.specs.declared.ids.QuestionId.{QuestionId}
use Rattle.rpc_msg.specs.declared.parts.Target.{Target}
use Rattle.rpc_msg.specs.declared.parts.Target.TheVariants as target
use Rattle.rpc_msg.specs.declared.parts.Descriptor.{Descriptor}
use Rattle.rpc_msg.specs.declared.parts.Descriptor.TheVariants as descriptor
use Rattle.rpc_msg.specs.declared.message.Call.{Call}
use Rattle.rpc_msg.specs.declared.message.ReturnBody.{ReturnBody}
use Rattle.rpc_msg.specs.declared.message.ReturnBody.TheVariants as body
use Rattle.rpc_msg.specs.declared.message.ResolvedTo.{ResolvedTo}
use Rattle.rpc_msg.specs.declared.message.ResolvedTo.TheVariants as resolved
use Rattle.rpc_msg.specs.declared.message.PlainMessage.{PlainMessage}
use Rattle.rpc_msg.specs.declared.message.PlainMessage.TheVariants as plain
use Rattle.rpc_msg.specs.declared.message.Message.TheVariants as message
use Rattle.rpc_codec.specs.Envelopes.{What, profile, tail_call, sent_elsewhere, taken_from_other, strange}
use Rattle.peer_overload.specs.declared.errors.OverloadFault.TheVariants.{QuestionInUse}
use Rattle.peer_overload.specs.declared.refusals.Refusal.{Refusal}
use Rattle.peer_overload.specs.declared.refusals.Refusal.TheVariants.{Plain, Tail}
use Rattle.peer_overload.specs.Overloading.{Overloading, admits, asks, cleared, cleared_all, cleared_body, cleared_call, cleared_to, comes, finishes, fresh, goes_to_refused, hears, is_refused, takes}

none_is : (q : QuestionId) → is_refused fresh q ≡ false
none_is q = ap (λ (o : Option Refusal). is_some o) (get-empty nat_cmp q.0)

no_target : (t : Target) → goes_to_refused fresh t ≡ false
no_target (target.ImportedCap e) = refl
no_target (target.PromisedAnswer q path) = none_is q

as_it_is : (d : Descriptor) → cleared fresh d ≡ d
as_it_is (descriptor.ReceiverAnswer q path) = ap (λ (b : Bool). cond b descriptor.None (descriptor.ReceiverAnswer q path)) (none_is q)
as_it_is descriptor.None = refl
as_it_is (descriptor.SenderHosted e) = refl
as_it_is (descriptor.SenderPromise e) = refl
as_it_is (descriptor.ReceiverHosted e) = refl

as_they_are : (ds : List Descriptor) → cleared_all fresh ds ≡ ds
as_they_are [] = refl
as_they_are (d ∷ ds) = λ i. as_it_is d i ∷ as_they_are ds i

same_body : (b : ReturnBody) → cleared_body fresh b ≡ b
same_body (body.Results p ds) = ap (body.Results p) (as_they_are ds)
same_body (body.Exception e) = refl
same_body body.Canceled = refl

same_to : (to : ResolvedTo) → cleared_to fresh to ≡ to
same_to (resolved.Cap d) = ap resolved.Cap (as_it_is d)
same_to (resolved.Exception e) = refl

asked : (q : QuestionId) (r : Refusal) (b : Bool) (w : What) → b ≡ false → asks fresh q r b w ≡ Ok (admits fresh w)
asked q r b w e = ap (λ (d : Bool). asks fresh q r d w) e ∙ ap (λ (d : Bool). cond d (Err QuestionInUse) (Ok (admits fresh w))) (none_is q)

called : (c : Call) (r : Refusal) (of : Call → What) → asks fresh c.question r (goes_to_refused fresh c.target) (of (cleared_call fresh c)) ≡ Ok (admits fresh (of c))
called c r of =
    asked c.question r (goes_to_refused fresh c.target) (of (cleared_call fresh c)) (no_target c.target)
    ∙ ap (λ (ds : List Descriptor). Ok (admits fresh (of (record c { descriptors = ds })))) (as_they_are c.descriptors)

plainly : (m : PlainMessage) → comes fresh false (profile (message.Plain m)) ≡ Ok (hears fresh m)
plainly (plain.Bootstrap q) = asked q Plain false (profile (message.Plain (plain.Bootstrap q))) refl
plainly (plain.Call c) = called c Plain (λ (d : Call). profile (message.Plain (plain.Call d)))
plainly (plain.Return r) = ap (λ (b : ReturnBody). Ok (hears fresh (plain.Return (record r { body = b })))) (same_body r.body)
plainly (plain.Finish f) = ap (λ (b : Bool). Ok (finishes fresh f b)) (none_is f.question)
plainly (plain.Resolve r) = ap (λ (to : ResolvedTo). Ok (hears fresh (plain.Resolve (record r { to = to })))) (same_to r.to)
plainly (plain.Abort e) = refl
plainly (plain.Release r) = refl
plainly (plain.Disembargo d) = refl
plainly (plain.Other n) = refl

pub heard : (w : What) → comes fresh false w ≡ Ok (admits fresh w)
heard (profile (message.Plain m)) = plainly m
heard (profile (message.Unimplemented m)) = refl
heard (tail_call c) = called c Tail tail_call
heard (sent_elsewhere t) = refl
heard (taken_from_other t) = ap (λ (o : Option Refusal). Ok (takes fresh t o)) (get-empty nat_cmp t.question.0)
heard (strange n original) = refl

pub passed : (s : Overloading) (is_full : Bool) (w : What) → is_full ≡ false → finite.len s ≡ 0 → comes s is_full w ≡ Ok (admits s w)
passed s true w room none = absurd (let e : true ≡ false = room in cc)
passed s false w room none = subst (λ (t : Overloading). comes t false w ≡ Ok (admits t w)) (sym (finite.empty_of_len s none)) (heard w)
