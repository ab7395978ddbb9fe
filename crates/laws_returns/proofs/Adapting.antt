-- Each part of the adapter hands a question on, or has its Return told.
use Rattle.std.proofs.Common.{◌≡◌, ℕ, true, false, Some, None, Result, Ok, Err, nat_eq, refl, ◌∙◌, arith}
use Rattle.std.specs.Prelude.{Option, Bool, ◌||◌, cond, nat_le, IfOk, List}
use Rattle.std.specs.FinMap as finite
use Rattle.capn_trees.specs.Trees.{Tree}
use Rattle.rpc_msg.specs.declared.ids.ExportId.{ExportId}
use Rattle.rpc_msg.specs.declared.ids.QuestionId.{QuestionId}
use Rattle.rpc_msg.specs.declared.parts.Descriptor.{Descriptor}
use Rattle.rpc_msg.specs.declared.message.Finish.{Finish}
use Rattle.rpc_msg.specs.declared.message.Return.{Return}
use Rattle.rpc_msg.specs.declared.message.ReturnBody.{ReturnBody}
use Rattle.rpc_msg.specs.declared.message.ReturnBody.TheVariants as body
use Rattle.rpc_msg.specs.declared.message.PlainMessage.{PlainMessage}
use Rattle.rpc_msg.specs.declared.message.PlainMessage.TheVariants as plain
use Rattle.rpc_msg.specs.declared.message.Message.{Message}
use Rattle.rpc_msg.specs.declared.message.Message.TheVariants as message
use Rattle.rpc_codec.specs.declared.envelope.TakenFromOther.{TakenFromOther}
use Rattle.rpc_codec.specs.Envelopes.{What, profile, tail_call, sent_elsewhere, taken_from_other, strange}
use Rattle.peer_descriptors.specs.Replacing.{plain_with, what_with}
use Rattle.peer_overload.specs.declared.errors.OverloadFault.{OverloadFault}
use Rattle.peer_overload.specs.declared.errors.OverloadFault.TheVariants.{QuestionInUse, TooManyRefused}
use Rattle.peer_overload.specs.declared.refusals.Refusal.{Refusal}
use Rattle.peer_overload.specs.declared.refusals.Refusal.TheVariants as refusal
use Rattle.peer_overload.specs.Overloading.{Overloading, Outcome, admitted, refused, refused_tail, nothing}
use Rattle.peer_overload.specs.Overloading as overload
use Rattle.peer_kinds.specs.Kinds as kinds
use Rattle.peer_kinds.specs.Kinds.{Standings}
use Rattle.peer_finishes.specs.declared.questions.Awaited.{Awaited}
use Rattle.peer_finishes.specs.declared.questions.Awaited.TheVariants as awaited
use Rattle.peer_finishes.specs.Finishing as finishes
use Rattle.peer_broken.specs.Naming as names
use Rattle.peer_tail_calls.specs.declared.errors.AdapterFault.{AdapterFault}
use Rattle.peer_tail_calls.specs.declared.tails.Tail.{Tail}
use Rattle.peer_tail_calls.specs.declared.tails.Tail.TheVariants.{Asked, Taken, Finishing, Finished, Kept, Told}
use Rattle.peer_tail_calls.specs.Adapting.{Adapting}
use Rattle.peer_tail_calls.specs.Adapting as tails
use Rattle.peer_adapter.specs.declared.errors.PeerFault.{PeerFault}
use Rattle.peer_adapter.specs.Peering.{Besides, Coming, Peering, Tables, admits, admits_by, besides_of, besides_with, comes, finished_by, goes, goes_by, heard_by, hears, kinds_by}
use Rattle.peer_adapter.specs.Peering.Besides.{Tells, Keeps}
use Rattle.laws_nodes.specs.Ones.{one_if}
use Rattle.laws_returns.specs.Counts.{asks_plain, asks_in, returns}
use Rattle.laws_returns.specs.Adapted.{asked_by, told_by, told_besides, IsHeardOrTold, IsTold, AdapterReturns}

module _ (q : ℕ) where
  -- ---- Other descriptors

  with_plain : (m : PlainMessage) (ds : List Descriptor) → asks_plain q m ≡ asks_plain q (plain_with m ds)
  with_plain (plain.Abort x) ds = refl
  with_plain (plain.Bootstrap p) ds = refl
  with_plain (plain.Call c) ds = refl
  with_plain (plain.Return r) ds = refl
  with_plain (plain.Finish f) ds = refl
  with_plain (plain.Resolve r) ds = refl
  with_plain (plain.Release r) ds = refl
  with_plain (plain.Disembargo d) ds = refl
  with_plain (plain.Other n) ds = refl

  with_others : (w : What) (ds : List Descriptor) → asked_by q w ≡ asked_by q (what_with w ds)
  with_others (profile (message.Plain m)) ds = with_plain m ds
  with_others (profile (message.Unimplemented m)) ds = refl
  with_others (tail_call c) ds = refl
  with_others (sent_elsewhere x) ds = refl
  with_others (taken_from_other x) ds = refl
  with_others (strange n original) ds = refl

  -- ---- Tail calls

  finish_asks : (s : Adapting) (f : Finish) (o : Option Tail) → 0 ≡ asks_in q (tails.finishes s f o).heard
  finish_asks s f None = refl
  finish_asks s f (Some Asked) = refl
  finish_asks s f (Some (Taken taker)) = refl
  finish_asks s f (Some (Finishing taker)) = refl
  finish_asks s f (Some Finished) = refl
  finish_asks s f (Some (Kept b)) = refl
  finish_asks s f (Some Told) = refl

  take_asks : (s : Adapting) (x : TakenFromOther) (o : Option Tail) → IfOk (tails.takes s x o) (λ (c : tails.Coming). 0 ≡ asks_in q c.heard)
  take_asks s x None = tt
  take_asks s x (Some Asked) = refl
  take_asks s x (Some (Taken taker)) = tt
  take_asks s x (Some (Finishing taker)) = tt
  take_asks s x (Some Finished) = tt
  take_asks s x (Some (Kept b)) = refl
  take_asks s x (Some Told) = tt

  plain_asks : (s : Adapting) (m : PlainMessage) → asks_plain q m ≡ asks_in q (tails.comes_plain s m).heard
  plain_asks s (plain.Finish f) = finish_asks s f (finite.get s.tails f.question.0)
  plain_asks s (plain.Abort x) = refl
  plain_asks s (plain.Bootstrap p) = omega arith
  plain_asks s (plain.Call c) = omega arith
  plain_asks s (plain.Return r) = refl
  plain_asks s (plain.Resolve r) = refl
  plain_asks s (plain.Release r) = refl
  plain_asks s (plain.Disembargo d) = refl
  plain_asks s (plain.Other n) = refl

  tail_asks : (s : Adapting) (w : What) → IfOk (tails.comes s w) (λ (c : tails.Coming). asked_by q w ≡ asks_in q c.heard)
  tail_asks s (profile (message.Plain m)) = plain_asks s m
  tail_asks s (profile (message.Unimplemented m)) = refl
  tail_asks s (tail_call c) = omega arith
  tail_asks s (sent_elsewhere x) = tt
  tail_asks s (taken_from_other x) = take_asks s x (finite.get s.tails x.question.0)
  tail_asks s (strange n original) = refl

  -- ---- What comes

  module _ (t : Tables) (w : What) where
    besides_none : (es : List ExportId) (o : Option Tree) → told_besides q (besides_of es o) ≡ 0
    besides_none es None = refl
    besides_none es (Some original) = refl

    heard_once : (s : Peering) (es : List ExportId) (v : What) (r : Result tails.Coming AdapterFault) → asked_by q w ≡ asked_by q v → IfOk r (λ (c : tails.Coming). asked_by q v ≡ asks_in q c.heard)
        → IfOk (heard_by s es r) (IsHeardOrTold q w)
    heard_once s es v (Err f) same once = tt
    heard_once s es v (Ok c) same once = let none = besides_none es c.unknown in omega (arith, same, once, none)

    named_once : (s : Peering) (v : What) → asked_by q w ≡ asked_by q v → IfOk (kinds_by t s (kinds.heard v)) (IsHeardOrTold q w)
    named_once s v same =
        let n : names.Coming = names.comes t.broken t.finished s.names v in
        heard_once (record s { names = n.state }) n.given_back n.came (tails.comes s.tails n.came) (same ∙ with_others v _) (tail_asks s.tails n.came)

    abbrev KindAsks : kinds.Outcome → Type 0
    KindAsks (kinds.heard v) = asked_by q w ≡ asked_by q v
    KindAsks (kinds.set_aside given) = asked_by q w ≡ 0

    kinds_once : (s : Peering) (o : kinds.Outcome) → KindAsks o → IfOk (kinds_by t s o) (IsHeardOrTold q w)
    kinds_once s (kinds.heard v) same = named_once s v same
    kinds_once s (kinds.set_aside given) same = omega (arith, same)

    aside_asks : (b : Bool) (given : Option ExportId) (v : What) → asked_by q w ≡ 0 → asked_by q w ≡ asked_by q v → KindAsks (cond b (kinds.set_aside given) (kinds.heard v))
    aside_asks true given v none same = none
    aside_asks false given v none same = same

    plain_kinds : (m : PlainMessage) → asked_by q w ≡ asks_plain q m → KindAsks (kinds.comes t.standing (profile (message.Plain m)))
    plain_kinds (plain.Resolve r) same = aside_asks (kinds.is_hosted (t.standing r.promise)) (kinds.given_to r.to) (kinds.in_first_kinds t.standing (profile (message.Plain (plain.Resolve r)))) same same
    plain_kinds (plain.Abort x) same = same
    plain_kinds (plain.Bootstrap p) same = same
    plain_kinds (plain.Call c) same = same
    plain_kinds (plain.Return r) same = same
    plain_kinds (plain.Finish f) same = same
    plain_kinds (plain.Release r) same = same
    plain_kinds (plain.Disembargo d) same = same
    plain_kinds (plain.Other n) same = same

    what_kinds : (v : What) → asked_by q w ≡ asked_by q v → KindAsks (kinds.comes t.standing v)
    what_kinds (profile (message.Plain m)) same = plain_kinds m same
    what_kinds (profile (message.Unimplemented m)) same = same
    what_kinds (tail_call c) same = same
    what_kinds (sent_elsewhere x) same = same
    what_kinds (taken_from_other x) same = same
    what_kinds (strange n original) same = same

    -- It is admitted as it asks, or it is refused.
    abbrev OutcomeAsks : Outcome → Type 0
    OutcomeAsks (admitted v) = asked_by q w ≡ asked_by q v
    OutcomeAsks (refused p) = asked_by q w ≡ one_if (nat_eq q p.0)
    OutcomeAsks (refused_tail p) = asked_by q w ≡ one_if (nat_eq q p.0)
    OutcomeAsks nothing = asked_by q w ≡ 0

    outcome_once : (s : Peering) (o : Outcome) → OutcomeAsks o → IfOk (admits t s o) (IsHeardOrTold q w)
    outcome_once s (admitted v) same = kinds_once s (kinds.comes t.standing v) (what_kinds v same)
    outcome_once s (refused p) same = omega (arith, same)
    outcome_once s (refused_tail p) same = omega (arith, same)
    outcome_once s nothing same = omega (arith, same)

    admitted_once : (s : Peering) (r : Result overload.Coming OverloadFault) → IfOk r (λ (c : overload.Coming). OutcomeAsks c.outcome) → IfOk (admits_by t s r) (IsHeardOrTold q w)
    admitted_once s (Err f) same = tt
    admitted_once s (Ok c) same = outcome_once (record s { overload = c.state }) c.outcome same

    asks_once : (s : Overloading) (v : What) (p : QuestionId) (r : Refusal) (in_use over full : Bool) → asked_by q w ≡ one_if (nat_eq q p.0) → asked_by q w ≡ asked_by q v
        → IfOk (cond in_use (Err QuestionInUse) (cond over (cond full (Err TooManyRefused) (Ok (record { state = overload.with_refusal s p r; outcome = overload.told p r }))) (Ok (overload.admits s v)))) (λ (c : overload.Coming). OutcomeAsks c.outcome)
    asks_once s v p r true over full is same = tt
    asks_once s v p r false true true is same = tt
    asks_once s v p refusal.Plain false true false is same = is
    asks_once s v p refusal.Tail false true false is same = is
    asks_once s v p refusal.TakenTail false true false is same = is
    asks_once s v p r false false full is same = same

  finish_once : (t : Tables) (s : Overloading) (f : Finish) (b : Bool) → OutcomeAsks t (profile (message.Plain (plain.Finish f))) (overload.finishes s f b).outcome
  finish_once t s f true = refl
  finish_once t s f false = refl

  take_once : (t : Tables) (s : Overloading) (x : TakenFromOther) (r : Option Refusal) → OutcomeAsks t (taken_from_other x) (overload.takes s x r).outcome
  take_once t s x (Some refusal.Tail) = refl
  take_once t s x (Some refusal.Plain) = refl
  take_once t s x (Some refusal.TakenTail) = refl
  take_once t s x None = refl

  module _ (t : Tables) (s : Overloading) (is_full : Bool) where
    plain_once : (m : PlainMessage) → IfOk (overload.comes s is_full (profile (message.Plain m))) (λ (c : overload.Coming). OutcomeAsks t (profile (message.Plain m)) c.outcome)
    plain_once (plain.Bootstrap p) = asks_once t (profile (message.Plain (plain.Bootstrap p))) s (profile (message.Plain (plain.Bootstrap p))) p refusal.Plain (overload.is_refused s p) is_full (nat_le 65536 (finite.len s)) refl refl
    plain_once (plain.Call c) =
        asks_once t (profile (message.Plain (plain.Call c))) s (profile (message.Plain (plain.Call (overload.cleared_call s c)))) c.question refusal.Plain (overload.is_refused s c.question) (is_full || overload.goes_to_refused s c.target) (nat_le 65536 (finite.len s)) refl refl
    plain_once (plain.Finish f) = finish_once t s f (overload.is_refused s f.question)
    plain_once (plain.Return r) = refl
    plain_once (plain.Resolve r) = refl
    plain_once (plain.Abort x) = refl
    plain_once (plain.Release r) = refl
    plain_once (plain.Disembargo d) = refl
    plain_once (plain.Other n) = refl

    what_once : (w : What) → IfOk (overload.comes s is_full w) (λ (c : overload.Coming). OutcomeAsks t w c.outcome)
    what_once (profile (message.Plain m)) = plain_once m
    what_once (profile (message.Unimplemented m)) = refl
    what_once (tail_call c) =
        asks_once t (tail_call c) s (tail_call (overload.cleared_call s c)) c.question refusal.Tail (overload.is_refused s c.question) (is_full || overload.goes_to_refused s c.target) (nat_le 65536 (finite.len s)) refl refl
    what_once (sent_elsewhere x) = refl
    what_once (taken_from_other x) = take_once t s x (finite.get s x.question.0)
    what_once (strange n original) = refl

  -- A Finish that goes behind what came takes the place of nothing: what came is no question then.
  with_finish : (f : Finish) (b : Besides) → told_besides q b ≡ 0 → told_besides q (besides_with (Some f) b) ≡ 0
  with_finish f (Tells told) none = refl
  with_finish f (Keeps original) none = refl

  abbrev AsksNothing : What → Option Finish → Type 0
  AsksNothing w None = Unit {0}
  AsksNothing w (Some f) = asked_by q w ≡ 0

  behind_once : (w : What) (o : Option Finish) (r : Result Coming PeerFault) → AsksNothing w o → IfOk r (IsHeardOrTold q w) → IfOk (finished_by o r) (IsHeardOrTold q w)
  behind_once w o (Err f) none once = tt
  behind_once w None (Ok c) none once = once
  behind_once w (Some f) (Ok c) none once = let n : told_besides q c.besides ≡ 0 = omega (arith, once, none) in let m = with_finish f c.besides n in omega (arith, once, none, m)

  returned_none : (w : What) (o : Option Finish) → asked_by q w ≡ 0 → AsksNothing w o
  returned_none w None e = tt
  returned_none w (Some f) e = e

  back_none : (s : finishes.Finishing) (m : PlainMessage) → AsksNothing (profile (message.Unimplemented m)) (finishes.comes_back s m).told
  back_none s m = returned_none (profile (message.Unimplemented m)) (finishes.comes_back s m).told refl

  plain_none : (s : finishes.Finishing) (m : PlainMessage) → AsksNothing (profile (message.Plain m)) (finishes.comes_plain s m).told
  plain_none s (plain.Return r) = returned_none (profile (message.Plain (plain.Return r))) (finishes.returns s r.answer).told refl
  plain_none s (plain.Abort x) = tt
  plain_none s (plain.Bootstrap p) = tt
  plain_none s (plain.Call c) = tt
  plain_none s (plain.Finish f) = tt
  plain_none s (plain.Resolve r) = tt
  plain_none s (plain.Release r) = tt
  plain_none s (plain.Disembargo d) = tt
  plain_none s (plain.Other n) = tt

  finish_none : (s : finishes.Finishing) (w : What) → AsksNothing w (finishes.comes s w).told
  finish_none s (profile (message.Plain m)) = plain_none s m
  finish_none s (profile (message.Unimplemented m)) = back_none s m
  finish_none s (tail_call c) = tt
  finish_none s (sent_elsewhere x) = returned_none (sent_elsewhere x) (finishes.returns s x.answer).told refl
  finish_none s (taken_from_other x) = returned_none (taken_from_other x) (finishes.returns s x.answer).told refl
  finish_none s (strange n original) = tt

  came_once : (t : Tables) (s : Peering) (w : What) → IfOk (comes t s w) (IsHeardOrTold q w)
  came_once t s w =
      let c : finishes.Coming = finishes.comes s.finishes w in
      let then : Peering = record s { finishes = c.state } in
      behind_once w c.told (hears t then w) (finish_none s.finishes w) (admitted_once t w then (overload.comes s.overload t.is_full w) (what_once t s.overload t.is_full w))

  -- ---- What goes

  abbrev IsGone : Message → tails.Going → Type 0
  IsGone m g = (returns q m ≡ told_by q g.said) × (asks_in q g.heard ≡ 0)

  kept_told : (r : Return) (b : ReturnBody) → one_if (nat_eq q r.answer.0) ≡ told_by q (Some (tails.told_by r b))
  kept_told r (body.Results p ds) = refl
  kept_told r (body.Exception e) = refl
  kept_told r body.Canceled = refl

  return_gone : (s : Adapting) (r : Return) (o : Option Tail) → IsGone (message.Plain (plain.Return r)) (tails.gives s r o)
  return_gone s r None = (refl, refl)
  return_gone s r (Some Asked) = (kept_told r r.body, refl)
  return_gone s r (Some (Taken taker)) = (kept_told r r.body, refl)
  return_gone s r (Some (Finishing taker)) = (kept_told r r.body, refl)
  return_gone s r (Some Finished) = (kept_told r r.body, refl)
  return_gone s r (Some (Kept b)) = (refl, refl)
  return_gone s r (Some Told) = (refl, refl)

  plain_gone : (s : Adapting) (m : PlainMessage) → IsGone (message.Plain m) (tails.goes s (message.Plain m))
  plain_gone s (plain.Return r) = return_gone s r (finite.get s.tails r.answer.0)
  plain_gone s (plain.Abort x) = (refl, refl)
  plain_gone s (plain.Bootstrap p) = (refl, refl)
  plain_gone s (plain.Call c) = (refl, refl)
  plain_gone s (plain.Finish f) = (refl, refl)
  plain_gone s (plain.Resolve r) = (refl, refl)
  plain_gone s (plain.Release r) = (refl, refl)
  plain_gone s (plain.Disembargo d) = (refl, refl)
  plain_gone s (plain.Other n) = (refl, refl)

  back_gone : (s : Adapting) (m : PlainMessage) → IsGone (message.Unimplemented m) (tails.goes s (message.Unimplemented m))
  back_gone s (plain.Release r) = (refl, refl)
  back_gone s (plain.Return r) = (refl, refl)
  back_gone s (plain.Abort x) = (refl, refl)
  back_gone s (plain.Bootstrap p) = (refl, refl)
  back_gone s (plain.Call c) = (refl, refl)
  back_gone s (plain.Finish f) = (refl, refl)
  back_gone s (plain.Resolve r) = (refl, refl)
  back_gone s (plain.Disembargo d) = (refl, refl)
  back_gone s (plain.Other n) = (refl, refl)

  finish_gone : (s : Peering) (f : Finish) (o : Option Awaited) → IsTold q (message.Plain (plain.Finish f)) (goes_by s (finishes.finishes s.finishes f o))
  finish_gone s f None = plain_gone s.tails (plain.Finish f)
  finish_gone s f (Some awaited.Asked) = (refl, refl)
  finish_gone s f (Some (awaited.Finished flag)) = plain_gone s.tails (plain.Finish f)

  went_once : (s : Peering) (m : Message) → IsTold q m (goes s m)
  went_once s (message.Plain (plain.Finish f)) = finish_gone s f (finite.get s.finishes.awaited f.question.0)
  went_once s (message.Plain (plain.Return r)) = plain_gone s.tails (plain.Return r)
  went_once s (message.Plain (plain.Abort x)) = (refl, refl)
  went_once s (message.Plain (plain.Bootstrap p)) = (refl, refl)
  went_once s (message.Plain (plain.Call c)) = (refl, refl)
  went_once s (message.Plain (plain.Resolve r)) = (refl, refl)
  went_once s (message.Plain (plain.Release r)) = (refl, refl)
  went_once s (message.Plain (plain.Disembargo d)) = (refl, refl)
  went_once s (message.Plain (plain.Other n)) = (refl, refl)
  went_once s (message.Unimplemented m) = back_gone s.tails m

pub adapter_returns : AdapterReturns
adapter_returns = record { came = λ t s w q. came_once q t s w; went = λ s m q. went_once q s m }
