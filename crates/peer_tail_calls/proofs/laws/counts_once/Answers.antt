use Rattle.std.proofs.Common.{◌≡◌, ℕ, ◌+◌, List, [], ◌∷◌, Some, None, refl, sym, subst, ap, ◌∙◌, arith}
use Rattle.std.specs.Prelude.{Option, IfOk, is_some}
use Rattle.std.specs.Ordering.{nat_cmp}
use Rattle.std.specs.FinMap as finite
use Rattle.std.specs.FinMap.{get-empty}
use Rattle.finite_maps.proofs.Gets.{get-insert_other, get-insert_same, get-remove_other, get-remove_same}
use Rattle.rpc_msg.specs.Messages.{descriptors_of, descriptors_of_body, given}
use Rattle.rpc_msg.specs.declared.ids.ExportId.{ExportId}
use Rattle.rpc_msg.specs.declared.message.Finish.{Finish}
use Rattle.rpc_msg.specs.declared.message.Return.{Return}
use Rattle.rpc_msg.specs.declared.message.ReturnBody.{ReturnBody}
use Rattle.rpc_msg.specs.declared.message.ReturnBody.TheVariants as body
use Rattle.rpc_msg.specs.declared.message.PlainMessage.{PlainMessage}
use Rattle.rpc_msg.specs.declared.message.PlainMessage.TheVariants as plain
use Rattle.rpc_msg.specs.declared.message.Message.{Message}
use Rattle.rpc_msg.specs.declared.message.Message.TheVariants as message
use Rattle.rpc_codec.specs.declared.envelope.TakenFromOther.{TakenFromOther}
use Rattle.rpc_codec.specs.Envelopes.{What, profile, tail_call, sent_elsewhere, taken_from_other, strange}
use Rattle.rpc_codec.specs.Carried.{gives, times}
use Rattle.peer_tail_calls.specs.declared.tails.Tail.{Tail}
use Rattle.peer_tail_calls.specs.declared.tails.Tail.TheVariants.{Asked, Taken, Finishing, Finished, Kept, Told}
use Rattle.peer_tail_calls.specs.Nulling.{nulled_body, nulled_call, nulled_return}
use Rattle.peer_tail_calls.specs.Adapting.{Adapting, Coming, Going, comes, finish_of, finishes, gives as goes_as, goes, hears, return_to, says, taker_of, takes, told, told_by, with_tail, without_tail}
use Rattle.peer_tail_calls.specs.Held.{Agrees, AgreesAt, FlagOfOneIsTrue, FlagsAreTrue, Held, after, after_one, given_with, gives_late, held_of, held_with, holds, late, takes_off, takes_off_one, told_gives, under}
use Rattle.peer_tail_calls.specs.Laws.{CameOnce, IsNew, WentOnce}
use Rattle.peer_tail_calls.proofs.Holding.{apart, at_key, both, both_gone, both_put, held_gone, if_none, none_under, not_some, one_more, says_here, tail_gone, tail_put}
use Rattle.peer_tail_calls.proofs.HeardGive.{heard_same, none_beside}
use Rattle.peer_tail_calls.proofs.laws.counts_once.Goals as goal

module _ (h : Held) (s : Adapting) (agrees : Agrees h s) where
  -- ---- what comes

  -- It is heard as it came, and is no Finish.
  as_it_came : (m : Message) → after_one h m ≡ h → ((e : ExportId) → takes_off_one e h m ≡ 0) → FlagOfOneIsTrue h m
      → CameOnce h s (profile m) (hears s (m ∷ []))
  as_it_came m left none flag = record {
    counts = λ e. let a = ap (λ k. held_of e k) left in let b = none e in omega (arith, a, b);
    flags = (flag, tt);
    agrees = λ new. subst (λ (k : Held). Agrees k s) (sym left) agrees;
  }

  -- Nothing is heard.
  not_yet : (w : What) (new : Adapting) → (IsNew s w → Agrees h new) → CameOnce h s w (hears new [])
  not_yet w new kept = record {
    counts = λ e. omega arith;
    flags = tt;
    agrees = kept;
  }

  -- A Finish is heard with a true flag: it takes off all.
  finish_heard : (f : Finish) (new : Adapting) → Agrees (finite.remove h f.question.0) new → CameOnce h s (profile (message.Plain (plain.Finish f))) (hears new (finish_of f.question ∷ []))
  finish_heard f new kept = record {
    counts = λ e. let a = apart e h f.question in omega (arith, a);
    flags = (λ some. refl, tt);
    agrees = λ new. kept;
  }

  finish_comes : (f : Finish) (o : Option Tail) → finite.get s.tails f.question.0 ≡ o → CameOnce h s (profile (message.Plain (plain.Finish f))) (finishes s f o)
  finish_comes f None is =
      let free : finite.get h f.question.0 ≡ None = says_here h s.tails agrees f.question.0 None is in
      record {
        counts = λ e. let a = apart e h f.question in let b = none_under e h f.question free in let c = if_none f.release_result_caps (times e (under h f.question)) b in omega (arith, a, b, c);
        flags = (λ some. absurd (not_some (finite.get h f.question.0) free some), tt);
        agrees = λ new. held_gone h s.tails agrees f.question.0 (subst (λ (y : Option Tail). AgreesAt None y) (sym is) refl);
      }
  finish_comes f (Some Asked) is = finish_heard f (with_tail s f.question Finished) (held_gone h _ (tail_put h s.tails agrees f.question.0 Finished (says_here h s.tails agrees f.question.0 (Some Asked) is)) f.question.0 (subst (λ (y : Option Tail). AgreesAt None y) (sym (get-insert_same s.tails f.question.0 Finished)) refl))
  finish_comes f (Some (Taken taker)) is = not_yet (profile (message.Plain (plain.Finish f))) (with_tail s f.question (Finishing taker)) (λ new. tail_put h s.tails agrees f.question.0 (Finishing taker) (says_here h s.tails agrees f.question.0 (Some (Taken taker)) is))
  finish_comes f (Some (Finishing taker)) is =
      let free : finite.get h f.question.0 ≡ None = says_here h s.tails agrees f.question.0 (Some (Finishing taker)) is in
      record {
        counts = λ e. let a = apart e h f.question in let b = apart e (finite.remove h f.question.0) f.question in omega (arith, a, b);
        flags = (λ some. refl, (λ some. refl, tt));
        agrees = λ new. held_gone _ _ (both_gone h s.tails agrees f.question.0) f.question.0 (subst (λ (y : Option Tail). AgreesAt None y) (sym (get-remove_same s.tails f.question.0)) refl);
      }
  finish_comes f (Some Finished) is = finish_heard f s (held_gone h s.tails agrees f.question.0 (subst (λ (y : Option Tail). AgreesAt None y) (sym is) refl))
  finish_comes f (Some (Kept b)) is = finish_heard f (without_tail s f.question) (both_gone h s.tails agrees f.question.0)
  finish_comes f (Some Told) is = finish_heard f (without_tail s f.question) (both_gone h s.tails agrees f.question.0)

  take_comes : (t : TakenFromOther) (o : Option Tail) → finite.get s.tails t.question.0 ≡ o → IfOk (takes s t o) (λ (c : Coming). CameOnce h s (taken_from_other t) c)
  take_comes t None is = tt
  take_comes t (Some Asked) is = not_yet (taken_from_other t) (with_tail s t.question (Taken (taker_of t))) (λ new. tail_put h s.tails agrees t.question.0 (Taken (taker_of t)) (says_here h s.tails agrees t.question.0 (Some Asked) is))
  take_comes t (Some (Taken taker)) is = tt
  take_comes t (Some (Finishing taker)) is = tt
  take_comes t (Some Finished) is = tt
  take_comes t (Some (Kept b)) is = record {
    counts = λ e. omega arith;
    flags = (tt, tt);
    agrees = λ new. tail_put h s.tails agrees t.question.0 Told (ap (λ (x : Option (List ℕ)). is_some x) (says_here h s.tails agrees t.question.0 (Some (Kept b)) is));
  }
  take_comes t (Some Told) is = tt

  plain_comes : (m : PlainMessage) → IfOk (comes s (profile (message.Plain m))) (λ (c : Coming). CameOnce h s (profile (message.Plain m)) c)
  plain_comes (plain.Finish f) = finish_comes f (finite.get s.tails f.question.0) refl
  plain_comes (plain.Abort x) = as_it_came (message.Plain (plain.Abort x)) refl (λ e. refl) tt
  plain_comes (plain.Bootstrap q) = as_it_came (message.Plain (plain.Bootstrap q)) refl (λ e. refl) tt
  plain_comes (plain.Call c) = as_it_came (message.Plain (plain.Call c)) refl (λ e. refl) tt
  plain_comes (plain.Return r) = as_it_came (message.Plain (plain.Return r)) refl (λ e. refl) tt
  plain_comes (plain.Resolve r) = as_it_came (message.Plain (plain.Resolve r)) refl (λ e. refl) tt
  plain_comes (plain.Release r) = as_it_came (message.Plain (plain.Release r)) refl (λ e. refl) tt
  plain_comes (plain.Disembargo d) = as_it_came (message.Plain (plain.Disembargo d)) refl (λ e. refl) tt
  plain_comes (plain.Other n) = as_it_came (message.Plain (plain.Other n)) refl (λ e. refl) tt

  comes_once : (w : What) → IfOk (comes s w) (λ (c : Coming). CameOnce h s w c)
  comes_once (profile (message.Plain m)) = plain_comes m
  comes_once (profile (message.Unimplemented m)) = as_it_came (message.Unimplemented m) refl (λ e. refl) tt
  comes_once (tail_call c) = record {
    counts = λ e. omega arith;
    flags = (tt, tt);
    agrees = λ new. tail_put h s.tails agrees c.question.0 Asked (says_here h s.tails agrees c.question.0 None new);
  }
  comes_once (sent_elsewhere t) = tt
  comes_once (taken_from_other t) = take_comes t (finite.get s.tails t.question.0) refl
  comes_once (strange n original) = record {
    counts = λ e. omega arith;
    flags = (tt, tt);
    agrees = λ new. agrees;
  }

  -- ---- what goes

  told_none : (e : ExportId) (r : Return) (b : ReturnBody) → r.body ≡ b → told_gives e (Some (told_by r b)) ≡ 0
  told_none e r (body.Results p ds) is = refl
  told_none e r (body.Exception x) is = refl
  told_none e r body.Canceled is = ap (λ (b : ReturnBody). times e (given (descriptors_of_body b))) is

  nulled_same : (b : ReturnBody) → descriptors_of_body (nulled_body b) ≡ descriptors_of_body b
  nulled_same (body.Results p ds) = refl
  nulled_same (body.Exception x) = refl
  nulled_same body.Canceled = refl

  -- A message goes, where with it that is held, and so much of each export comes late.
  abbrev Went : Held → (ExportId → ℕ) → Message → Going → Type 0
  Went k comes_late m g =
      ((e : ExportId) → gives e (profile m) + held_of e h ≡ told_gives e g.said + (held_of e (after k g.heard) + takes_off e k g.heard) + comes_late e)
      × FlagsAreTrue k g.heard
      × Agrees (after k g.heard) g.state

  went_once : (m : Message) → Went (held_with h s m) (λ e. gives_late e s m) m (goes s m) → WentOnce h s m (goes s m)
  went_once m w = record { counts = w.0; flags = w.1; agrees = w.2 }

  -- The peer is told it, and the vat hears nothing.
  as_it_went : (m n : Message) → descriptors_of n ≡ descriptors_of m → Went h (λ e. 0) m (says s n)
  as_it_went m n same = (λ e. let a = ap (λ ds. times e (given ds)) same in omega (arith, a), tt, agrees)

  unchanged : (m : Message) → Went h (λ e. 0) m (says s m)
  unchanged m = as_it_went m m refl

  -- The outcome of a tail call is kept, or the vat hears it.
  outcome_goes : (r : Return) (t : Tail) (heard : List Message) → finite.get h r.answer.0 ≡ None → AgreesAt (Some (given_with r)) (Some t)
      → after (finite.insert h r.answer.0 (given_with r)) heard ≡ finite.insert h r.answer.0 (given_with r)
      → ((e : ExportId) → takes_off e (finite.insert h r.answer.0 (given_with r)) heard ≡ 0) → FlagsAreTrue (finite.insert h r.answer.0 (given_with r)) heard
      → Went (finite.insert h r.answer.0 (given_with r)) (λ e. 0) (message.Plain (plain.Return r)) (record { state = with_tail s r.answer t; said = Some (told r); heard = heard })
  outcome_goes r t heard free here left no_less flags = (
    λ e.
        let a = told_none e r r.body refl in
        let b = one_more e h r.answer (given_with r) free in
        let c = ap (λ k. held_of e k) left in
        let d = no_less e in
        omega (arith, a, b, c, d),
    flags,
    subst (λ (k : Held). Agrees k (with_tail s r.answer t)) (sym left) (both_put h s.tails agrees r.answer.0 (given_with r) t here),
  )

  return_goes : (r : Return) (o : Option Tail) → finite.get s.tails r.answer.0 ≡ o → Went (holds h r o) (λ e. late e r o) (message.Plain (plain.Return r)) (goes_as s r o)
  return_goes r None is = as_it_went (message.Plain (plain.Return r)) (message.Plain (plain.Return (nulled_return r))) (nulled_same r.body)
  return_goes r (Some Asked) is = outcome_goes r (Kept r.body) [] (says_here h s.tails agrees r.answer.0 (Some Asked) is) refl refl (λ e. refl) tt
  return_goes r (Some (Taken taker)) is =
      outcome_goes r Told (return_to taker r.answer r.body ∷ []) (says_here h s.tails agrees r.answer.0 (Some (Taken taker)) is) refl refl (λ e. refl) (tt, tt)
  return_goes r (Some (Finishing taker)) is =
      let free : finite.get h r.answer.0 ≡ None = says_here h s.tails agrees r.answer.0 (Some (Finishing taker)) is in (
        λ e.
            let a = told_none e r r.body refl in
            let b = one_more e h r.answer (given_with r) free in
            let c = apart e (finite.insert h r.answer.0 (given_with r)) r.answer in
            omega (arith, a, b, c),
        (tt, (λ some. refl, tt)),
        both r.answer.0 h (finite.remove (finite.insert h r.answer.0 (given_with r)) r.answer.0) s.tails (finite.remove s.tails r.answer.0) agrees
            (λ q apart. get-remove_other (finite.insert h r.answer.0 (given_with r)) r.answer.0 q apart ∙ get-insert_other h r.answer.0 (given_with r) q apart)
            (get-remove_other s.tails r.answer.0)
            (at_key (get-remove_same (finite.insert h r.answer.0 (given_with r)) r.answer.0) (get-remove_same s.tails r.answer.0) refl),
      )
  return_goes r (Some Finished) is = (
    λ e. let a = told_none e r r.body refl in omega (arith, a),
    tt,
    tail_gone h s.tails agrees r.answer.0 (says_here h s.tails agrees r.answer.0 (Some Finished) is),
  )
  return_goes r (Some (Kept b)) is = as_it_went (message.Plain (plain.Return r)) (message.Plain (plain.Return (nulled_return r))) (nulled_same r.body)
  return_goes r (Some Told) is = as_it_went (message.Plain (plain.Return r)) (message.Plain (plain.Return (nulled_return r))) (nulled_same r.body)

  plain_goes : (m : PlainMessage) → Went (held_with h s (message.Plain m)) (λ e. gives_late e s (message.Plain m)) (message.Plain m) (goes s (message.Plain m))
  plain_goes (plain.Return r) = return_goes r (finite.get s.tails r.answer.0) refl
  plain_goes (plain.Call c) = as_it_went (message.Plain (plain.Call c)) (message.Plain (plain.Call (nulled_call c))) refl
  plain_goes (plain.Abort x) = unchanged (message.Plain (plain.Abort x))
  plain_goes (plain.Bootstrap q) = unchanged (message.Plain (plain.Bootstrap q))
  plain_goes (plain.Finish f) = unchanged (message.Plain (plain.Finish f))
  plain_goes (plain.Resolve r) = unchanged (message.Plain (plain.Resolve r))
  plain_goes (plain.Release r) = unchanged (message.Plain (plain.Release r))
  plain_goes (plain.Disembargo d) = unchanged (message.Plain (plain.Disembargo d))
  plain_goes (plain.Other n) = unchanged (message.Plain (plain.Other n))

  back_goes : (m : PlainMessage) → Went h (λ e. 0) (message.Unimplemented m) (goes s (message.Unimplemented m))
  back_goes (plain.Release r) = (λ e. omega arith, tt, agrees)
  back_goes (plain.Return r) = unchanged (message.Unimplemented (plain.Return r))
  back_goes (plain.Call c) = unchanged (message.Unimplemented (plain.Call c))
  back_goes (plain.Abort x) = unchanged (message.Unimplemented (plain.Abort x))
  back_goes (plain.Bootstrap q) = unchanged (message.Unimplemented (plain.Bootstrap q))
  back_goes (plain.Finish f) = unchanged (message.Unimplemented (plain.Finish f))
  back_goes (plain.Resolve r) = unchanged (message.Unimplemented (plain.Resolve r))
  back_goes (plain.Disembargo d) = unchanged (message.Unimplemented (plain.Disembargo d))
  back_goes (plain.Other n) = unchanged (message.Unimplemented (plain.Other n))

  goes_once : (m : Message) → WentOnce h s m (goes s m)
  goes_once (message.Plain m) = went_once (message.Plain m) (plain_goes m)
  goes_once (message.Unimplemented m) = went_once (message.Unimplemented m) (back_goes m)

pub returns : goal.returns
returns c = record {
  heard = λ s w e. heard_same e s w;
  heard_beside = λ s m e. none_beside e s m;
  first = λ q. at_key (get-empty nat_cmp q) (get-empty nat_cmp q) refl;
  came = λ h s w agrees. comes_once h s agrees w;
  went = λ h s m agrees. goes_once h s agrees m;
}
