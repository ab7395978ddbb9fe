use Rattle.std.proofs.Common.{◌≡◌, ℕ, ◌+◌, true, false, List, [], ◌∷◌, ◌++◌, Some, None, refl, ap, ◌∙◌, arith}
use Rattle.std.specs.Prelude.{Option, Bool, IfOk}
use Rattle.std.specs.FinMap as finite
use Rattle.std.proofs.lemmas.List.{append-nil}
use Rattle.finite_maps.specs.Tally.{tally, worth}
use Rattle.finite_maps.proofs.Tallies.{tally-insert, tally-remove}
use Rattle.rpc_msg.specs.declared.ids.QuestionId.{QuestionId}
use Rattle.rpc_msg.specs.declared.message.Finish.{Finish}
use Rattle.rpc_msg.specs.declared.message.Return.{Return}
use Rattle.rpc_msg.specs.declared.message.ReturnBody.{ReturnBody}
use Rattle.rpc_msg.specs.declared.message.ReturnBody.TheVariants as body
use Rattle.rpc_msg.specs.declared.message.PlainMessage.{PlainMessage}
use Rattle.rpc_msg.specs.declared.message.PlainMessage.TheVariants as plain
use Rattle.rpc_msg.specs.declared.message.Message.{Message}
use Rattle.rpc_msg.specs.declared.message.Message.TheVariants as message
use Rattle.rpc_codec.specs.declared.envelope.TakenFromOther.{TakenFromOther}
use Rattle.rpc_codec.specs.Envelopes.{What, profile, tail_call, sent_elsewhere, taken_from_other, strange}
use Rattle.peer_tail_calls.specs.declared.tails.Tail.{Tail}
use Rattle.peer_tail_calls.specs.declared.tails.Tail.TheVariants.{Asked, Taken, Finishing, Finished, Kept, Told}
use Rattle.peer_tail_calls.specs.Adapting.{Adapting, Coming, Going, comes, finishes, gives as goes_as, goes, hears, taker_of, takes, told_by}
use Rattle.peer_tail_calls.specs.Back.{Back, all_give_back, by_flag, came_gives_back, gives_back, of_call, of_results, times_call, told_gives_back, waiting, waits}
use Rattle.peer_tail_calls.specs.Laws.{IsFirst, IsNew, IsNotHeld, IsNoTail, IsNoTailPlain}
use Rattle.peer_tail_calls.proofs.laws.gives_back_once.Goals as goal

module _ (s : Adapting) where
  -- ---- what the peer is told

  told_same : (r : Return) (b : ReturnBody) → told_gives_back (Some (told_by r b)) ≡ by_flag r.release_param_caps (of_call r.answer)
  told_same r (body.Results p ds) = refl
  told_same r (body.Exception x) = refl
  told_same r body.Canceled = refl

  return_told : (r : Return) (o : Option Tail) → told_gives_back (goes_as s r o).said ≡ by_flag r.release_param_caps (of_call r.answer)
  return_told r None = refl
  return_told r (Some Asked) = told_same r r.body
  return_told r (Some (Taken taker)) = told_same r r.body
  return_told r (Some (Finishing taker)) = told_same r r.body
  return_told r (Some Finished) = told_same r r.body
  return_told r (Some (Kept b)) = refl
  return_told r (Some Told) = refl

  told_plain : (m : PlainMessage) → told_gives_back (goes s (message.Plain m)).said ≡ gives_back (message.Plain m)
  told_plain (plain.Return r) = return_told r (finite.get s.tails r.answer.0)
  told_plain (plain.Abort x) = refl
  told_plain (plain.Bootstrap q) = refl
  told_plain (plain.Call c) = refl
  told_plain (plain.Finish f) = refl
  told_plain (plain.Resolve r) = refl
  told_plain (plain.Release r) = refl
  told_plain (plain.Disembargo d) = refl
  told_plain (plain.Other n) = refl

  told_back : (m : PlainMessage) → told_gives_back (goes s (message.Unimplemented m)).said ≡ gives_back (message.Unimplemented m)
  told_back (plain.Return r) = refl
  told_back (plain.Abort x) = refl
  told_back (plain.Bootstrap q) = refl
  told_back (plain.Call c) = refl
  told_back (plain.Finish f) = refl
  told_back (plain.Resolve r) = refl
  told_back (plain.Release r) = refl
  told_back (plain.Disembargo d) = refl
  told_back (plain.Other n) = refl

  told : (m : Message) → told_gives_back (goes s m).said ≡ gives_back m
  told (message.Plain m) = told_plain m
  told (message.Unimplemented m) = told_back m

  -- ---- what the vat hears

  heard_plain : (m : PlainMessage) → IsNoTailPlain s m → IfOk (comes s (profile (message.Plain m))) (λ (c : Coming). all_give_back c.heard ≡ gives_back (message.Plain m))
  heard_plain (plain.Finish f) none =
      ap (λ (o : Option Tail). all_give_back (finishes s f o).heard) none ∙ append-nil (gives_back (message.Plain (plain.Finish f)))
  heard_plain (plain.Return r) none = append-nil (gives_back (message.Plain (plain.Return r)))
  heard_plain (plain.Abort x) none = refl
  heard_plain (plain.Bootstrap q) none = refl
  heard_plain (plain.Call c) none = refl
  heard_plain (plain.Resolve r) none = refl
  heard_plain (plain.Release r) none = refl
  heard_plain (plain.Disembargo d) none = refl
  heard_plain (plain.Other n) none = refl

  heard : (m : Message) → IsNoTail s m → IfOk (comes s (profile m)) (λ (c : Coming). all_give_back c.heard ≡ gives_back m)
  heard (message.Plain m) none = heard_plain m none
  heard (message.Unimplemented m) none = append-nil (gives_back (message.Unimplemented m))

  -- ---- Returns that wait

  module _ (q : QuestionId) where
    -- What the Return of a tail call's taker gives back waits or does not.
    moved : (a : ℕ) (o : Option Tail) (t : Tail) → finite.get s.tails a ≡ o → tally (waits q) (finite.insert s.tails a t) + worth (waits q) o ≡ waits q t + waiting q s
    moved a o t is =
        let put = tally-insert (waits q) s.tails a t in
        let was = tally-remove (waits q) s.tails a in
        let there = ap (worth (waits q)) is in
        omega (arith, put, was, there)

    gone : (a : ℕ) (o : Option Tail) → finite.get s.tails a ≡ o → waiting q s ≡ worth (waits q) o + tally (waits q) (finite.remove s.tails a)
    gone a o is = let was = tally-remove (waits q) s.tails a in let there = ap (worth (waits q)) is in omega (arith, was, there)

    -- a Finish gives back nothing of a call
    no_call : (b : Bool) (p : QuestionId) → times_call q (by_flag b (of_results p)) ≡ 0
    no_call true p = refl
    no_call false p = refl

    then_nothing : (bs : List Back) → times_call q (bs ++ []) ≡ times_call q bs
    then_nothing bs = ap (times_call q) (append-nil bs)

    then_finish : (b : Bool) (x : QuestionId) (p : QuestionId) → times_call q (by_flag b (of_call x) ++ of_results p ∷ []) ≡ times_call q (by_flag b (of_call x))
    then_finish true x p = refl
    then_finish false x p = refl

    -- Each time that what a call gave is given back is heard, or waits.
    abbrev Once : What → Coming → Type 0
    Once w c = times_call q (came_gives_back w) + waiting q s ≡ times_call q (all_give_back c.heard) + waiting q c.state

    as_it_came : (m : Message) → Once (profile m) (hears s (m ∷ []))
    as_it_came m = let a = then_nothing (gives_back m) in omega (arith, a)

    finish_came : (f : Finish) (o : Option Tail) → finite.get s.tails f.question.0 ≡ o → IsNotHeld o → Once (profile (message.Plain (plain.Finish f))) (finishes s f o)
    finish_came f None is first = as_it_came (message.Plain (plain.Finish f))
    finish_came f (Some Asked) is first =
        let a = no_call f.release_result_caps f.question in let b = moved f.question.0 (Some Asked) Finished is in omega (arith, a, b)
    finish_came f (Some (Taken taker)) is first =
        let a = no_call f.release_result_caps f.question in let b = moved f.question.0 (Some (Taken taker)) (Finishing taker) is in omega (arith, a, b)
    finish_came f (Some (Finishing taker)) is first = absurd first
    finish_came f (Some Finished) is first = let a = no_call f.release_result_caps f.question in omega (arith, a)
    finish_came f (Some (Kept b)) is first = let a = no_call f.release_result_caps f.question in let b = gone f.question.0 (Some (Kept b)) is in omega (arith, a, b)
    finish_came f (Some Told) is first = let a = no_call f.release_result_caps f.question in let b = gone f.question.0 (Some Told) is in omega (arith, a, b)

    take_came : (t : TakenFromOther) (o : Option Tail) → finite.get s.tails t.question.0 ≡ o → IfOk (takes s t o) (λ (c : Coming). Once (taken_from_other t) c)
    take_came t None is = tt
    take_came t (Some Asked) is = let a = moved t.question.0 (Some Asked) (Taken (taker_of t)) is in omega (arith, a)
    take_came t (Some (Taken taker)) is = tt
    take_came t (Some (Finishing taker)) is = tt
    take_came t (Some Finished) is = tt
    take_came t (Some (Kept b)) is =
        let a = moved t.question.0 (Some (Kept b)) Told is in let b = then_nothing (by_flag t.release_param_caps (of_call t.answer)) in omega (arith, a, b)
    take_came t (Some Told) is = tt

    plain_came : (m : PlainMessage) → IsFirst s (profile (message.Plain m)) → IfOk (comes s (profile (message.Plain m))) (λ (c : Coming). Once (profile (message.Plain m)) c)
    plain_came (plain.Finish f) first = finish_came f (finite.get s.tails f.question.0) refl first
    plain_came (plain.Abort x) first = as_it_came (message.Plain (plain.Abort x))
    plain_came (plain.Bootstrap p) first = as_it_came (message.Plain (plain.Bootstrap p))
    plain_came (plain.Call c) first = as_it_came (message.Plain (plain.Call c))
    plain_came (plain.Return r) first = as_it_came (message.Plain (plain.Return r))
    plain_came (plain.Resolve r) first = as_it_came (message.Plain (plain.Resolve r))
    plain_came (plain.Release r) first = as_it_came (message.Plain (plain.Release r))
    plain_came (plain.Disembargo d) first = as_it_came (message.Plain (plain.Disembargo d))
    plain_came (plain.Other n) first = as_it_came (message.Plain (plain.Other n))

    came : (w : What) → IsNew s w → IsFirst s w → IfOk (comes s w) (λ (c : Coming). Once w c)
    came (profile (message.Plain m)) new first = plain_came m first
    came (profile (message.Unimplemented m)) new first = as_it_came (message.Unimplemented m)
    came (tail_call c) new first = let a = moved c.question.0 None Asked new in omega (arith, a)
    came (sent_elsewhere t) new first = tt
    came (taken_from_other t) new first = take_came t (finite.get s.tails t.question.0) refl
    came (strange n original) new first = refl

    abbrev Went : Going → Type 0
    Went g = waiting q s ≡ times_call q (all_give_back g.heard) + waiting q g.state

    nothing_heard : waiting q s ≡ 0 + waiting q s
    nothing_heard = omega arith

    return_went : (r : Return) (o : Option Tail) → finite.get s.tails r.answer.0 ≡ o → Went (goes_as s r o)
    return_went r None is = nothing_heard
    return_went r (Some Asked) is = let a = moved r.answer.0 (Some Asked) (Kept r.body) is in omega (arith, a)
    return_went r (Some (Taken taker)) is =
        let a = moved r.answer.0 (Some (Taken taker)) Told is in let b = then_nothing (by_flag taker.release_param_caps (of_call taker.question)) in omega (arith, a, b)
    return_went r (Some (Finishing taker)) is =
        let a = gone r.answer.0 (Some (Finishing taker)) is in let b = then_finish taker.release_param_caps taker.question r.answer in omega (arith, a, b)
    return_went r (Some Finished) is = gone r.answer.0 (Some Finished) is
    return_went r (Some (Kept b)) is = nothing_heard
    return_went r (Some Told) is = nothing_heard

    plain_went : (m : PlainMessage) → Went (goes s (message.Plain m))
    plain_went (plain.Return r) = return_went r (finite.get s.tails r.answer.0) refl
    plain_went (plain.Abort x) = nothing_heard
    plain_went (plain.Bootstrap p) = nothing_heard
    plain_went (plain.Call c) = nothing_heard
    plain_went (plain.Finish f) = nothing_heard
    plain_went (plain.Resolve r) = nothing_heard
    plain_went (plain.Release r) = nothing_heard
    plain_went (plain.Disembargo d) = nothing_heard
    plain_went (plain.Other n) = nothing_heard

    back_went : (m : PlainMessage) → Went (goes s (message.Unimplemented m))
    back_went (plain.Return r) = nothing_heard
    back_went (plain.Abort x) = nothing_heard
    back_went (plain.Bootstrap p) = nothing_heard
    back_went (plain.Call c) = nothing_heard
    back_went (plain.Finish f) = nothing_heard
    back_went (plain.Resolve r) = nothing_heard
    back_went (plain.Release r) = nothing_heard
    back_went (plain.Disembargo d) = nothing_heard
    back_went (plain.Other n) = nothing_heard

    went : (m : Message) → Went (goes s m)
    went (message.Plain m) = plain_went m
    went (message.Unimplemented m) = back_went m

pub returns : goal.returns
returns c = record { told = λ s m. told s m; heard = λ s m none. heard s m none; came = λ s w q new first. came s q w new first; went = λ s m q. went s q m }
