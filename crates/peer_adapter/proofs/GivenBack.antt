-- What a peer gives is heard, owed or given back.
use Rattle.std.proofs.Common.{◌≡◌, ◌+◌, Some, None, List, Result, Ok, Err, refl, sym, ap, subst, ◌∙◌, arith}
use Rattle.std.specs.Prelude.{Option, IfOk}
use Rattle.std.specs.FinMap as finite
use Rattle.capn_trees.specs.Trees.{Tree}
use Rattle.rpc_msg.specs.declared.ids.ExportId.{ExportId}
use Rattle.rpc_msg.specs.declared.message.Finish.{Finish}
use Rattle.rpc_msg.specs.declared.message.PlainMessage.{PlainMessage}
use Rattle.rpc_msg.specs.declared.message.PlainMessage.TheVariants as plain
use Rattle.rpc_msg.specs.declared.message.Message.{Message}
use Rattle.rpc_msg.specs.declared.message.Message.TheVariants as message
use Rattle.rpc_codec.specs.declared.envelope.TakenFromOther.{TakenFromOther}
use Rattle.rpc_codec.specs.Envelopes.{What, profile, tail_call, sent_elsewhere, taken_from_other, strange}
use Rattle.rpc_codec.specs.Carried as carried
use Rattle.peer_overload.specs.declared.errors.OverloadFault.{OverloadFault}
use Rattle.peer_overload.specs.Overloading.{Overloading, Outcome, admitted, refused, refused_tail, nothing}
use Rattle.peer_overload.specs.Overloading as overload
use Rattle.peer_overload.specs.Laws as overload_laws
use Rattle.peer_overload.specs.declared.refusals.Refusal.{Refusal}
use Rattle.peer_overload.specs.declared.refusals.Refusal.TheVariants as refusal
use Rattle.peer_kinds.specs.Kinds as kinds
use Rattle.peer_kinds.specs.Laws as kinds_laws
use Rattle.peer_finishes.specs.Finishing as finishes
use Rattle.peer_broken.specs.Naming.{Naming}
use Rattle.peer_broken.specs.Naming as names
use Rattle.peer_broken.specs.Laws as broken_laws
use Rattle.peer_tail_calls.specs.declared.errors.AdapterFault.{AdapterFault}
use Rattle.peer_tail_calls.specs.declared.tails.Tail.{Tail}
use Rattle.peer_tail_calls.specs.declared.tails.Tail.TheVariants.{Asked, Taken, Finishing, Finished, Kept, Told}
use Rattle.peer_tail_calls.specs.declared.heard.Said.{Said}
use Rattle.peer_tail_calls.specs.declared.heard.Said.TheVariants as said
use Rattle.peer_tail_calls.specs.Held as held
use Rattle.peer_tail_calls.specs.Adapting.{Adapting}
use Rattle.peer_tail_calls.specs.Adapting as tails
use Rattle.peer_tail_calls.specs.Laws as tail_laws
use Rattle.peer_adapter.specs.declared.errors.PeerFault.{PeerFault}
use Rattle.peer_adapter.specs.Peering.{Besides, Coming, Peering, Tables, admits, admits_by, besides_of, besides_with, comes, finished_by, gives, goes, heard_by, hears, kinds_by, passes}
use Rattle.peer_adapter.specs.Peering.Besides.{Tells, Keeps}
use Rattle.peer_adapter.specs.Laws.{CameOnce, WentOnce, besides_give_back, flag_owes, said_gives_back}

-- Of what the vat understands nothing is kept to go back.
known_finish : (s : Adapting) (f : Finish) (o : Option Tail) → (tails.finishes s f o).unknown ≡ None
known_finish s f None = refl
known_finish s f (Some Asked) = refl
known_finish s f (Some (Taken taker)) = refl
known_finish s f (Some (Finishing taker)) = refl
known_finish s f (Some Finished) = refl
known_finish s f (Some (Kept b)) = refl
known_finish s f (Some Told) = refl

known_plain : (s : Adapting) (m : PlainMessage) → (tails.comes_plain s m).unknown ≡ None
known_plain s (plain.Finish f) = known_finish s f (finite.get s.tails f.question.0)
known_plain s (plain.Abort x) = refl
known_plain s (plain.Bootstrap q) = refl
known_plain s (plain.Call c) = refl
known_plain s (plain.Return r) = refl
known_plain s (plain.Resolve r) = refl
known_plain s (plain.Release r) = refl
known_plain s (plain.Disembargo d) = refl
known_plain s (plain.Other n) = refl

known_message : (s : Adapting) (m : Message) → (tails.comes_message s m).unknown ≡ None
known_message s (message.Plain m) = known_plain s m
known_message s (message.Unimplemented m) = refl

known_take : (s : Adapting) (x : TakenFromOther) (o : Option Tail) → IfOk (tails.takes s x o) (λ (c : tails.Coming). c.unknown ≡ None)
known_take s x None = tt
known_take s x (Some Asked) = refl
known_take s x (Some (Taken taker)) = tt
known_take s x (Some (Finishing taker)) = tt
known_take s x (Some Finished) = tt
known_take s x (Some (Kept b)) = refl
known_take s x (Some Told) = tt

abbrev IsKnown : What → Type 0
IsKnown (profile m) = Unit {0}
IsKnown (tail_call c) = Unit {0}
IsKnown (sent_elsewhere x) = Unit {0}
IsKnown (taken_from_other x) = Unit {0}
IsKnown (strange n original) = ⊥

known : (s : Adapting) (w : What) → IsKnown w → IfOk (tails.comes s w) (λ (c : tails.Coming). c.unknown ≡ None)
known s (profile m) is = known_message s m
known s (tail_call c) is = refl
known s (sent_elsewhere x) is = tt
known s (taken_from_other x) is = known_take s x (finite.get s.tails x.question.0)
known s (strange n original) is = absurd is

-- Beside what the vat hears, the peer is told of no message.
abbrev IsQuiet : Besides → Type 0
IsQuiet (Tells told) = told.said ≡ None
IsQuiet (Keeps original) = ⊥

module _ (t : Tables) where
  known_quiet : (s : Peering) (es : List ExportId) (r : Result tails.Coming AdapterFault) → IfOk r (λ (c : tails.Coming). c.unknown ≡ None) → IfOk (heard_by s es r) (λ (c : Coming). IsQuiet c.besides)
  known_quiet s es (Err f) is = tt
  known_quiet s es (Ok c) is = subst (λ (o : Option Tree). IsQuiet (besides_of es o)) (sym is) refl

  taken_quiet : (s : Peering) (x : TakenFromOther) → IfOk (admits t s (admitted (taken_from_other x))) (λ (c : Coming). IsQuiet c.besides)
  taken_quiet s x =
      let n : names.Coming = names.comes t.broken t.finished s.names (taken_from_other x) in
      known_quiet (record s { names = n.state }) n.given_back (tails.takes s.tails x (finite.get s.tails.tails x.question.0)) (known_take s.tails x (finite.get s.tails.tails x.question.0))

  takes_quiet : (s : Peering) (x : TakenFromOther) (o : Option Refusal) → IfOk (admits_by t s (Ok (overload.takes s.overload x o))) (λ (c : Coming). IsQuiet c.besides)
  takes_quiet s x (Some refusal.Tail) = refl
  takes_quiet s x (Some refusal.Plain) = taken_quiet s x
  takes_quiet s x (Some refusal.TakenTail) = taken_quiet s x
  takes_quiet s x None = taken_quiet s x

module _ (e : ExportId) (kinded : kinds_laws.CountsOnce) (named : broken_laws.CountsOnce) (turned : tail_laws.CountsOnce) where
  module _ (t : Tables) (s : Peering) (w : What) where
    -- It is named, and then heard.
    heard_once : (v : What) (n : names.Coming) (r : Result tails.Coming AdapterFault) → carried.gives e w ≡ carried.gives e v → broken_laws.CameOnce e s.names v n
        → IfOk r (λ (c : tails.Coming). carried.gives e n.came ≡ held.all_give e c.heard) → IfOk r (λ (c : tails.Coming). c.unknown ≡ None)
        → IfOk (heard_by (record s { names = n.state }) n.given_back r) (λ (c : Coming). CameOnce e s w c)
    heard_once v n (Err f) same is_named is_heard is_known = tt
    heard_once v n (Ok c) same is_named is_heard is_known =
        let b = ap (λ (o : Option Tree). besides_give_back e w (besides_of n.given_back o)) is_known in
        omega (arith, same, is_named, is_heard, b)

    named_as : What → names.Coming
    named_as v = names.comes t.broken t.finished s.names v

    passed_once : (v : What) → IsKnown (named_as v).came → carried.gives e w ≡ carried.gives e v → IfOk (kinds_by t s (kinds.heard v)) (λ (c : Coming). CameOnce e s w c)
    unfolding named_as
    passed_once v is same =
        heard_once v (named_as v) (tails.comes s.tails (named_as v).came) same (named.came t.broken t.finished s.names v e) (turned.heard s.tails (named_as v).came e) (known s.tails (named_as v).came is)

    named_once : (v : What) → carried.gives e w ≡ carried.gives e v → IfOk (kinds_by t s (kinds.heard v)) (λ (c : Coming). CameOnce e s w c)
    unfolding named_as
    named_once (profile m) same = passed_once (profile m) tt same
    named_once (tail_call x) same = passed_once (tail_call x) tt same
    named_once (sent_elsewhere x) same = tt
    named_once (taken_from_other x) same = passed_once (taken_from_other x) tt same
    named_once (strange n original) same = omega (arith, same)

    kinds_once : (o : kinds.Outcome) → carried.gives e w ≡ kinds_laws.counted e o → IfOk (kinds_by t s o) (λ (c : Coming). CameOnce e s w c)
    kinds_once (kinds.heard v) same = named_once v same
    kinds_once (kinds.set_aside given) same = omega (arith, same)

    admitted_once : (v : What) → carried.gives e w ≡ carried.gives e v → IfOk (admits t s (admitted v)) (λ (c : Coming). CameOnce e s w c)
    admitted_once v same = kinds_once (kinds.comes t.standing v) (same ∙ kinded t.standing v e)

    outcome_once : (x : Outcome) → carried.gives e w ≡ overload_laws.heard_gives e x + overload_laws.given_back e w x → IfOk (admits t s x) (λ (c : Coming). CameOnce e s w c)
    outcome_once (admitted v) once = admitted_once v (omega (arith, once))
    outcome_once (refused q) once = omega (arith, once)
    outcome_once (refused_tail q) once = omega (arith, once)
    outcome_once nothing once = omega (arith, once)

  came_once : (t : Tables) (s : Peering) (w : What) (r : Result overload.Coming OverloadFault)
      → IfOk r (λ (c : overload.Coming). carried.gives e w ≡ overload_laws.heard_gives e c.outcome + overload_laws.given_back e w c.outcome)
      → IfOk (admits_by t s r) (λ (c : Coming). CameOnce e s w c)
  came_once t s w (Ok c) once = outcome_once t (record s { overload = c.state }) w c.outcome once
  came_once t s w (Err f) once = tt

  -- A Finish that goes behind what came gives nothing back.
  module _ (s : Peering) (w : What) where
    told_same : (f : Finish) (b : Besides) → IsQuiet b → besides_give_back e w (besides_with (Some f) b) ≡ besides_give_back e w b
    told_same f (Tells told) quiet = ap (λ (o : Option Said). broken_laws.times e told.given_back + said_gives_back e w o) (sym quiet)
    told_same f (Keeps original) quiet = absurd quiet

    behind_once : (o : Option Finish) (r : Result Coming PeerFault) → IfOk r (λ (c : Coming). IsQuiet c.besides) → IfOk r (λ (c : Coming). CameOnce e s w c)
        → IfOk (finished_by o r) (λ (c : Coming). CameOnce e s w c)
    behind_once o (Err f) quiet once = tt
    behind_once None (Ok c) quiet once = once
    behind_once (Some f) (Ok c) quiet once = let same = told_same f c.besides quiet in omega (arith, once, same)

    alone_once : (r : Result Coming PeerFault) → IfOk r (λ (c : Coming). CameOnce e s w c) → IfOk (finished_by None r) (λ (c : Coming). CameOnce e s w c)
    alone_once (Err f) once = tt
    alone_once (Ok c) once = once

  module _ (t : Tables) (s : Peering) where
    -- the state with the questions that are open then
    abbrev then : What → Peering
    then w = record s { finishes = (finishes.comes s.finishes w).state }

    abbrev Once : What → Type 0
    Once w = IfOk (hears t (then w) w) (λ (c : Coming). CameOnce e s w c) → IfOk (comes t s w) (λ (c : Coming). CameOnce e s w c)

    all_plain : (m : PlainMessage) → Once (profile (message.Plain m))
    all_plain (plain.Return r) once =
        let w = profile (message.Plain (plain.Return r)) in
        behind_once s w (finishes.comes s.finishes w).told (hears t (then w) w) refl once
    all_plain (plain.Abort x) once = alone_once s (profile (message.Plain (plain.Abort x))) (hears t (then (profile (message.Plain (plain.Abort x)))) (profile (message.Plain (plain.Abort x)))) once
    all_plain (plain.Bootstrap q) once = alone_once s (profile (message.Plain (plain.Bootstrap q))) (hears t (then (profile (message.Plain (plain.Bootstrap q)))) (profile (message.Plain (plain.Bootstrap q)))) once
    all_plain (plain.Call c) once = alone_once s (profile (message.Plain (plain.Call c))) (hears t (then (profile (message.Plain (plain.Call c)))) (profile (message.Plain (plain.Call c)))) once
    all_plain (plain.Finish f) once = alone_once s (profile (message.Plain (plain.Finish f))) (hears t (then (profile (message.Plain (plain.Finish f)))) (profile (message.Plain (plain.Finish f)))) once
    all_plain (plain.Resolve r) once = alone_once s (profile (message.Plain (plain.Resolve r))) (hears t (then (profile (message.Plain (plain.Resolve r)))) (profile (message.Plain (plain.Resolve r)))) once
    all_plain (plain.Release r) once = alone_once s (profile (message.Plain (plain.Release r))) (hears t (then (profile (message.Plain (plain.Release r)))) (profile (message.Plain (plain.Release r)))) once
    all_plain (plain.Disembargo d) once = alone_once s (profile (message.Plain (plain.Disembargo d))) (hears t (then (profile (message.Plain (plain.Disembargo d)))) (profile (message.Plain (plain.Disembargo d)))) once
    all_plain (plain.Other n) once = alone_once s (profile (message.Plain (plain.Other n))) (hears t (then (profile (message.Plain (plain.Other n)))) (profile (message.Plain (plain.Other n)))) once

    back_told : (m : PlainMessage) → (finishes.comes_back s.finishes m).told ≡ None
    back_told (plain.Bootstrap q) = refl
    back_told (plain.Call c) = refl
    back_told (plain.Return r) = refl
    back_told (plain.Finish f) = refl
    back_told (plain.Abort x) = refl
    back_told (plain.Resolve r) = refl
    back_told (plain.Release r) = refl
    back_told (plain.Disembargo d) = refl
    back_told (plain.Other n) = refl

    all_back : (m : PlainMessage) → Once (profile (message.Unimplemented m))
    all_back m once =
        let w = profile (message.Unimplemented m) in
        subst (λ (o : Option Finish). IfOk (finished_by o (hears t (then w) w)) (λ (c : Coming). CameOnce e s w c)) (sym (back_told m)) (alone_once s w (hears t (then w) w) once)

    all_once : (w : What) → Once w
    all_once (profile (message.Plain m)) once = all_plain m once
    all_once (profile (message.Unimplemented m)) once = all_back m once
    all_once (tail_call x) once = alone_once s (tail_call x) (hears t (then (tail_call x)) (tail_call x)) once
    all_once (sent_elsewhere x) once = behind_once s (sent_elsewhere x) (finishes.comes s.finishes (sent_elsewhere x)).told (hears t (then (sent_elsewhere x)) (sent_elsewhere x)) tt once
    all_once (taken_from_other x) once =
        let w = taken_from_other x in
        behind_once s w (finishes.comes s.finishes w).told (hears t (then w) w) (takes_quiet t (then w) x (finite.get s.overload x.question.0)) once
    all_once (strange n original) once = alone_once s (strange n original) (hears t (then (strange n original)) (strange n original)) once

    pub all_came : (w : What)
        → IfOk (overload.comes s.overload t.is_full w) (λ (c : overload.Coming). carried.gives e w ≡ overload_laws.heard_gives e c.outcome + overload_laws.given_back e w c.outcome)
        → IfOk (comes t s w) (λ (c : Coming). CameOnce e s w c)
    all_came w once = all_once w (came_once t (then w) w (overload.comes s.overload t.is_full w) once)

  module _ (s : Naming) where
    -- What is owed is due with what the peer is told, by Releases or by its flag.
    abbrev Due : Option Said → Type 0
    Due x = broken_laws.owed e s ≡ broken_laws.owed e (gives s x).state + (broken_laws.times e (gives s x).by_release + flag_owes e s x)

    still_owed : broken_laws.owed e s ≡ broken_laws.owed e s + (0 + 0)
    still_owed = omega arith

    plain_due : (m : PlainMessage) → Due (Some (said.Message (message.Plain m)))
    plain_due (plain.Return r) = let a = named.returned s r.answer r.release_param_caps e in omega (arith, a)
    plain_due (plain.Finish f) = let a = named.finished s f.question f.release_result_caps e in omega (arith, a)
    plain_due (plain.Abort x) = still_owed
    plain_due (plain.Bootstrap q) = still_owed
    plain_due (plain.Call c) = still_owed
    plain_due (plain.Resolve r) = still_owed
    plain_due (plain.Release r) = still_owed
    plain_due (plain.Disembargo d) = still_owed
    plain_due (plain.Other n) = still_owed

    due : (x : Option Said) → Due x
    due None = still_owed
    due (Some (said.Message (message.Plain m))) = plain_due m
    due (Some (said.Message (message.Unimplemented m))) = still_owed
    due (Some (said.SentElsewhere x)) = let a = named.returned s x.answer x.release_param_caps e in omega (arith, a)

  passed : (s : Peering) (o : Option Message) → WentOnce e s (passes s o)
  passed s None = omega arith
  passed s (Some m) =
      let a = turned.heard_beside s.tails m e in
      let b = due s.names (tails.goes s.tails m).said in
      omega (arith, a, b)

  pub went_once : (s : Peering) (m : Message) → WentOnce e s (goes s m)
  went_once s m = passed (record s { finishes = (finishes.goes s.finishes m).state }) (finishes.goes s.finishes m).said
