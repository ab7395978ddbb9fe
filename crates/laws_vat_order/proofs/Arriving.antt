-- Calls that come: where they land, and behind which they stand.
use Rattle.std.proofs.Common.{◌≡◌, ◌⊎◌, inl, inr, ℕ, ◌≤◌, ◌<◌, Bool, true, false, List, [], ◌∷◌, Option, None, Some, IsSome, refl, sym, ap, subst, ◌∙◌, arith}
use Rattle.std.specs.Ordering.{nat_cmp}
use Rattle.std.specs.FinMap as map
use Rattle.finite_maps.specs.Tally.{Map}
use Rattle.finite_maps.proofs.Tested.{at_put, at_cut}
use Rattle.finite_maps.proofs.Gets.{get-insert_same}
use Rattle.rpc_msg.specs.declared.parts.Target.{Target}
use Rattle.rpc_msg.specs.declared.parts.Target.TheVariants.{ImportedCap, PromisedAnswer}
use Rattle.rpc_msg.specs.declared.message.Call.{Call}
use Rattle.rpc_msg.specs.declared.message.PlainMessage.TheVariants as plain
use Rattle.rpc_msg.specs.declared.message.Message.{Message}
use Rattle.rpc_msg.specs.declared.message.Message.TheVariants as message
use Rattle.rpc_machine.specs.declared.node.Node.{Node}
use Rattle.rpc_machine.specs.declared.command.Effects.{Effects}
use Rattle.rpc_machine.specs.declared.calls.WaitingCall.{WaitingCall}
use Rattle.rpc_machine.specs.declared.calls.KeptOutcome.{KeptOutcome}
use Rattle.rpc_machine.specs.declared.entries.AnswerEntry.{AnswerEntry}
use Rattle.rpc_machine.specs.State.{State}
use Rattle.rpc_machine.specs.Nodes.{value_of, settle}
use Rattle.rpc_machine.specs.Laws.{OfEachStep}
use Rattle.rpc_machine.specs.Faults.{fault_of, target_node, is_foreign}
use Rattle.rpc_machine.specs.Descriptors.{export_node, answer_node, take_all, taken_of}
use Rattle.rpc_machine.specs.Messages.{opened, received_request}
use Rattle.rpc_machine.specs.Down.{fallen}
use Rattle.rpc_machine.specs.Numbers.{want_of_room}
use Rattle.rpc_machine.specs.Places.{named_by_export}
use Rattle.rpc_machine.specs.declared.command.Level.{Level}
use Rattle.rpc_machine.specs.declared.command.Level.TheVariants.{Zero, One}
use Rattle.rpc_machine.specs.declared.calls.Caller.TheVariants as caller
use Rattle.rpc_machine.specs.declared.entries.Export.{Export}
use Rattle.rpc_machine.specs.rpc_journal.specs.declared.report.Delivery.{Delivery}
use Rattle.rpc_machine.specs.Settling.{returned_map}
use Rattle.rpc_machine.specs.Progress.{export_ids}
use Rattle.rpc_machine.specs.Steps.{Handles, Receives, WasDown, FaultsBy, LacksRoom, IsHandled}
use Rattle.laws_acts.specs.Moments.{Moment, beginning, is_collecting}
use Rattle.laws_acts.specs.MessageActs.{Back, Brings, ByReturn, ByEchoedRoot, ByEchoedCall, Consumes}
use Rattle.laws_acts.specs.MessageActs as consume
use Rattle.laws_acts.specs.SmallActs.{Act, Acts, NoMore, IsEnd}
use Rattle.laws_acts.specs.SmallActs as act
use Rattle.laws_acts.proofs.EachStep.{Ended, handled}
use Rattle.laws_steps.specs.Settled.{IsThere, AreThere, LeadsOn}
use Rattle.laws_steps.specs.NodesThere.{IsReached, Stays, Commanded, Received}
use Rattle.laws_steps.specs.Callers.{IsFor, peer, HasOutcome}
use Rattle.laws_steps.proofs.Exceptions.{AllExceptions}
use Rattle.laws_steps.proofs.Among.{named, in_exports}
use Rattle.laws_steps.proofs.Reached.{are_there, own_there, go_on, after_message}
use Rattle.laws_nodes.specs.Settling.{AllStop}
use Rattle.laws_nodes.proofs.Stopping.{same, begins}
use Rattle.laws_nodes.proofs.Acyclic.{each_stops, within}
use Rattle.laws_vat_order.specs.Lines.{HasAt, IsAt, ForPromise, ForFieldAt, IsAhead, times_waiting, delivered, sent_on, Lacks}
use Rattle.laws_vat_order.specs.Order.{DoesNotPass, Follows}
use Rattle.laws_vat_order.specs.Arriving.{IsStep, OfCommand, OfMessage, IsAnswer, Comes, Waits, Here, Further, Stands, StandsHere, StandsFurther, Lands, Joins, ArrivalsKeepOrder}
use Rattle.laws_vat_order.proofs.Sending.{Asked}
use Rattle.laws_vat_order.proofs.Counting as counting
use Rattle.laws_vat_order.proofs.Lists.{YetHas, outcome_new}
use Rattle.laws_vat_order.proofs.Moving.{Line, AtPromise, AtField, lead, Quiet, Below, Fine, acted}
use Rattle.laws_vat_order.proofs.Steps as steps
use Rattle.laws_vat_order.proofs.Steps.{one_act, once}
use Rattle.laws_vat_order.proofs.Tracking.{MostOne, Tracked, tracked, Moved, InYet, Itself}
use Rattle.laws_vat_order.proofs.Following.{ended}

-- ---- Its answer stays

-- The answer is for that outcome, and was not finished.
abbrev IsOpenAnswer : ℕ → Option AnswerEntry → Type 0
IsOpenAnswer u None = ⊥
IsOpenAnswer u (Some a) = (a.outcome ≡ u) × (a.finished ≡ false)

abbrev Answers : ℕ → ℕ → Moment → Type 0
Answers q u d = IsOpenAnswer u (map.get d.state.answers q)

returned_stays : (q u : ℕ) (m : Map AnswerEntry) (k : ℕ) (a : AnswerEntry) (ids : List ℕ) → map.get m k ≡ Some a → IsOpenAnswer u (map.get m q) → IsOpenAnswer u (map.get (returned_map m k a a.finished ids) q)
returned_stays q u m k a ids e h = by a.finished refl
  where
    by : (b : Bool) → a.finished ≡ b → IsOpenAnswer u (map.get (returned_map m k a b ids) q)
    by true f = at_cut (λ j o. IsOpenAnswer u (map.get m j) → IsOpenAnswer u o) m k (λ i. let w : (a.outcome ≡ u) × (a.finished ≡ false) = subst (IsOpenAnswer u) e i in absurd (let z : true ≡ false = sym f ∙ w.1 in cc)) (λ j g i. i) q h
    by false f = at_put (λ j o. IsOpenAnswer u (map.get m j) → IsOpenAnswer u o) m k (record a { returned = Some (export_ids ids) }) (λ i. subst (IsOpenAnswer u) e i) (λ j g i. i) q h

answer_stays : (q u : ℕ) (d new : Moment) → Answers q u d → Act d new → Answers q u new
answer_stays q u d new i (act.SendsReturn x y e f j h) = rw h (returned_stays q u d.state.answers x.answer.0 y _ f i)
answer_stays q u d new i (act.Delivers c n rest o e f h) = rw h i
answer_stays q u d new i (act.Waits c n rest p calls e f j h) = rw h i
answer_stays q u d new i (act.Holds c n rest o path x e f j h) = rw h i
answer_stays q u d new i (act.Relays c n rest k t ds es e f j z h) = rw h i
answer_stays q u d new i (act.Breaks c n rest reason e f h) = rw h i
answer_stays q u d new i (act.NextArisen o v rest e f h) = rw h i
answer_stays q u d new i (act.Knows o v fit x ps e f j k h) = rw h i
answer_stays q u d new i (act.Reports c v from e f h) = rw h i
answer_stays q u d new i (act.TellsNobody c v e f h) = rw h i
answer_stays q u d new i (act.MakesReturn k v x b ds es e f j z h) = rw h i
answer_stays q u d new i (act.Clears x e f h) = rw h i
answer_stays q u d new i (act.Lists x e h) = rw h i
answer_stays q u d new i (act.SendsResolve x rest k es e w f h) = rw h i
answer_stays q u d new i (act.SendsBroken x rest reason e f h) = rw h i
answer_stays q u d new i (act.PromiseGoes p to w e f h) = rw h i
answer_stays q u d new i (act.OutcomeGoes o x v w e f j k l h) = rw h i
answer_stays q u d new i (act.ImportGoes k x w e f h) = rw h i
answer_stays q u d new i (act.Sweeps over e f j h) = rw h i
answer_stays q u d new i (act.SendsFinish k x rest e f j z l h) = rw h i
answer_stays q u d new i (act.Closes k x rest e f j z l h) = rw h i
answer_stays q u d new i (act.Releases w e f h) = rw h i

is_its : (u b : ℕ) (o : Option AnswerEntry) → IsOpenAnswer u o → IsAnswer b o → u ≡ b
is_its u b None h k = absurd h
is_its u b (Some a) h k = sym h.0 ∙ k

-- ---- The first act

-- A Call opens an answer, with an outcome that has a new key, and is to be routed.
record Opens (s : State) (c : Call) (new : Moment) : Type 0 where
  pub key : ℕ
  pub call : WaitingCall
  pub outcome : KeptOutcome
  pub is_for : call.outcome ≡ key
  pub unknown : outcome.value ≡ None
  pub is_new : map.get s.outcomes key ≡ None
  pub promises : new.state.promises ≡ s.promises
  pub outcomes : new.state.outcomes ≡ map.insert s.outcomes key outcome
  pub embargoes : new.state.embargoes ≡ s.embargoes
  pub yet : new.yet ≡ (call, target_node s c.target) ∷ []
  pub answers : IsOpenAnswer key (map.get new.state.answers c.question.0)
  pub rest : new ≡ record (beginning s) { state = new.state; yet = new.yet }

not_brought : {A : Type 0} (s : State) (c : Call) (b : Back) → Brings s (message.Plain (plain.Call c)) b → A
not_brought s c b (ByReturn r e f) = absurd (let z : message.Plain (plain.Call c) ≡ message.Plain (plain.Return r) = e in cc)
not_brought s c b (ByEchoedRoot q e f) = absurd (let z : message.Plain (plain.Call c) ≡ message.Unimplemented (plain.Bootstrap q) = e in cc)
not_brought s c b (ByEchoedCall k e f) = absurd (let z : message.Plain (plain.Call c) ≡ message.Unimplemented (plain.Call k) = e in cc)

not_foreign : (l : Level) (c : Call) → is_foreign l (plain.Call c) ≡ false
not_foreign Zero c = refl
not_foreign One c = refl

opened_by : (s : State) (c : Call) (u : ℕ) (new : Moment) → map.get s.outcomes u ≡ None
    → new ≡ record (beginning s) {
      state = record (opened s c.question.0 u (taken_of s c.descriptors)) { imports = (take_all s c.descriptors).imports };
      yet = (record { request = received_request s c; outcome = u }, target_node s c.target) ∷ [];
    }
    → Opens s c new
opened_by s c u new j h = record {
  key = u;
  call = record { request = received_request s c; outcome = u };
  outcome = record { caller = caller.Peer (record { 0 = c.question.0 }); value = None; waiting = [] };
  is_for = refl;
  unknown = refl;
  is_new = j;
  promises = ap (λ (m : Moment). m.state.promises) h;
  outcomes = ap (λ (m : Moment). m.state.outcomes) h;
  embargoes = ap (λ (m : Moment). m.state.embargoes) h;
  yet = ap (λ (m : Moment). m.yet) h;
  answers =
      subst (λ (m : Moment). IsOpenAnswer u (map.get m.state.answers c.question.0)) (sym h)
      (subst (IsOpenAnswer u) (sym (get-insert_same s.answers c.question.0 (record { outcome = u; taken = export_ids (taken_of s c.descriptors); returned = None; finished = false }))) (refl, refl));
  rest = rw h refl;
}

opens : (s : State) (c : Call) (new : Moment) → Consumes (beginning s) (message.Plain (plain.Call c)) new → Opens s c new
opens s c new (consume.OpensRoot q o e f j h) = absurd (let z : message.Plain (plain.Call c) ≡ message.Plain (plain.Bootstrap q) = e in cc)
opens s c new (consume.OpensCall k u e f j h) = let z : message.Plain (plain.Call c) ≡ message.Plain (plain.Call k) = e in let g : k ≡ c = cc in subst (λ (y : Call). Opens s y new) g (opened_by s k u new j h)
opens s c new (consume.Loses b x e f j k h) = not_brought s c b e
opens s c new (consume.ComesToCall b x y e f j k l h) = not_brought s c b e
opens s c new (consume.ComesToRelay b x u e f j k l h) = not_brought s c b e
opens s c new (consume.IsFinished x y e f j h) = absurd (let z : message.Plain (plain.Call c) ≡ message.Plain (plain.Finish x) = e in cc)
opens s c new (consume.IsResolved r e h) = absurd (let z : message.Plain (plain.Call c) ≡ message.Plain (plain.Resolve r) = e in cc)
opens s c new (consume.IsReleased r e h) = absurd (let z : message.Plain (plain.Call c) ≡ message.Plain (plain.Release r) = e in cc)
opens s c new (consume.SendsBack t to x e f h) = absurd (let z : message.Plain (plain.Call c) ≡ message.Plain (plain.Disembargo _) = e in cc)
opens s c new (consume.Lifts t x b e f h) = absurd (let z : message.Plain (plain.Call c) ≡ message.Plain (plain.Disembargo _) = e in cc)
opens s c new (consume.SendsForeign p e f h) =
    let z : message.Plain (plain.Call c) ≡ message.Plain p = e in
    let g : p ≡ plain.Call c = cc in
    absurd (let y : true ≡ false = sym f ∙ ap (is_foreign s.level) g ∙ not_foreign s.level c in cc)
opens s c new (consume.SendsOther n e h) = absurd (let z : message.Plain (plain.Call c) ≡ message.Plain (plain.Other n) = e in cc)
opens s c new (consume.TakesBack r e h) = absurd (let z : message.Plain (plain.Call c) ≡ message.Unimplemented (plain.Resolve r) = e in cc)
opens s c new (consume.Ignores r e h) = absurd (let z : message.Plain (plain.Call c) ≡ message.Unimplemented (plain.Release r) = e in cc)

module _ (s : State) (c : Call) (new : Moment) (o : Opens s c new) where
  quiet_then : Quiet new
  quiet_then = inr (ap is_collecting o.rest, ap (λ (m : Moment). m.telling) o.rest, ap (λ (m : Moment). m.clearing) o.rest)

  none_coming : AllExceptions new.coming
  none_coming = subst (λ (m : Moment). AllExceptions m.coming) (sym o.rest) tt

  none_arisen : AllExceptions new.arisen
  none_arisen = subst (λ (m : Moment). AllExceptions m.arisen) (sym o.rest) tt

  -- It is to be routed to where its target stands.
  tracked_then : counting.all_waiting o.key new ≤ 1 → Tracked s o.key (target_node s c.target) new
  tracked_then l = (l, quiet_then, subst (λ (m : Moment). MostOne m.coming m.arisen) (sym o.rest) tt, inl (Moved (target_node s c.target) none_coming none_arisen (InYet (subst (YetHas (target_node s c.target) o.key) (sym o.yet) (inl (o.is_for, refl)))) Itself))

  module _ (a : ℕ) (stop : AllStop s) where
    leads_then : lead s s.promises (map.insert s.outcomes o.key o.outcome) (target_node s c.target) ≡ settle s (target_node s c.target)
    leads_then = (same s (record s { outcomes = map.insert s.outcomes o.key o.outcome }) (begins s o.key o.outcome (ap value_of o.is_new ∙ sym o.unknown)) stop).1 (target_node s c.target)

    line_at : (m : Node) → settle s (target_node s c.target) ≡ m → IsAt s a m → Line s a o.key s.promises (map.insert s.outcomes o.key o.outcome) s.embargoes ((o.call, target_node s c.target) ∷ [])
    line_at _ e (ForPromise p h) = AtPromise p (target_node s c.target) h (inl (o.is_for, refl)) (leads_then ∙ e)
    line_at _ e (ForFieldAt u path h) = AtField u path (target_node s c.target) (outcome_new (HasAt path a) s.outcomes o.key o.outcome o.is_new u h) (inl (o.is_for, refl)) (leads_then ∙ e)

    line_then : IsAt s a (settle s (target_node s c.target)) → Line s a o.key new.state.promises new.state.outcomes new.state.embargoes new.yet
    line_then i = rw (o.promises, o.outcomes, o.embargoes, o.yet) (line_at (settle s (target_node s c.target)) refl i)

    fine_then : counting.all_waiting a new ≤ 1 → counting.all_waiting o.key new ≤ 1 → IsAt s a (settle s (target_node s c.target)) → Fine s a o.key new
    fine_then j k i =
        let none : new.effects.deliveries ≡ [] = ap (λ (m : Moment). m.effects.deliveries) o.rest in
        let unsent : new.effects.sends ≡ [] = ap (λ (m : Moment). m.effects.sends) o.rest in (
          j,
          k,
          quiet_then,
          (subst (Below new.state.next_task) (sym none) tt, subst (Asked new.state.questions) (sym unsent) tt),
          inl (line_then i, subst (λ (ys : List Delivery). Lacks o.key (delivered new.state.tasks ys)) (sym none) tt, subst (λ (ms : List Message). Lacks o.key (sent_on new.state.questions ms)) (sym unsent) tt),
        )

-- ---- Each step

no_answer : (s t : State) (n q k : ℕ) → t ≡ fallen s n → IsAnswer k (map.get t.answers q) → ⊥
no_answer s t n q k e h = subst (IsAnswer k) (ap (λ (u : State). map.get u.answers q) e ∙ map.get-empty nat_cmp q) h

there_at : (t : State) → IsReached t → (target : Target) → IsThere t (target_node t target)
there_at t r (ImportedCap e) = by (map.get t.exports e.0) refl
  where
    by : (o : Option Export) → map.get t.exports e.0 ≡ o → IsThere t (export_node o)
    by None f = tt
    by (Some x) f = own_there t x.node ((are_there t r).there x.node (in_exports t x.node (named named_by_export e.0 x x.node t.exports f (inl refl))))
there_at t r (PromisedAnswer q path) = by (map.get t.answers q.0) refl
  where
    has : (o : Option KeptOutcome) → IsFor (peer q.0) o → IsSome o
    has None h = absurd h
    has (Some x) h = refl

    by : (o : Option AnswerEntry) → map.get t.answers q.0 ≡ o → IsThere t (answer_node path o)
    by None f = tt
    by (Some x) f = has (map.get t.outcomes x.outcome) (subst (HasOutcome t.outcomes q.0) f ((are_there t r).callers.answers q.0))

pub lands : Lands
lands s c a x t r i e = by i.received
  where
    n : Node
    n = target_node s c.target

    walked : fault_of s (message.Plain (plain.Call c)) ≡ None → Handles s (message.Plain (plain.Call c)) x t → IsAt t a (settle t (target_node s c.target)) ⊎ (times_waiting a t ≡ 0)
    walked free h = last (handled P s (message.Plain (plain.Call c)) x t free begin goes h)
      where
        P : Moment → Type 0
        P d = (start : Moment) × (u : ℕ) × Consumes (beginning s) (message.Plain (plain.Call c)) start × Acts d start × Tracked s u (target_node s c.target) d × Answers c.question.0 u d

        begin : (new : Moment) → Consumes (beginning s) (message.Plain (plain.Call c)) new → P new
        begin new f = let o = opens s c new f in (new, o.key, f, NoMore, tracked_then s c new o (counting.consumed o.key s (message.Plain (plain.Call c)) new f (once s r o.key)), o.answers)

        goes : (d new : Moment) → P d → Act d new → P new
        goes d new p f = (p.0, p.1, p.2, one_act d new p.0 p.3 f, tracked s p.1 (target_node s c.target) d new (within.messages s (message.Plain (plain.Call c)) p.0 d (each_stops s r) p.2 p.3) p.4 f, answer_stays c.question.0 p.1 d new p.5 f)

        last : Ended P x t → IsAt t a (settle t (target_node s c.target)) ⊎ (times_waiting a t ≡ 0)
        last k =
            let reached : IsReached t = go_on s t r (Received (message.Plain (plain.Call c)) x i.received Stays) in
            let p = k.holds in
            let same_key : p.1 ≡ a = is_its p.1 a (map.get k.last.state.answers c.question.0) p.5 (subst (λ (u : State). IsAnswer a (map.get u.answers c.question.0)) k.ends.state i.answer) in
            let there : IsThere t (target_node s c.target) = subst (IsThere t) e (there_at t reached c.target) in
            subst (λ (u : State). IsAt u a (settle u (target_node s c.target)) ⊎ (times_waiting a u ≡ 0)) (sym k.ends.state)
            (subst (λ (z : ℕ). IsAt k.last.state z (settle k.last.state (target_node s c.target)) ⊎ (times_waiting z k.last.state ≡ 0)) same_key
            (ended s p.1 (target_node s c.target) k.last t (subst AllStop k.ends.state (each_stops t reached)) (subst AreThere k.ends.state (after_message s (message.Plain (plain.Call c)) x t r i.received)) p.4 (ap (λ (m : Moment). m.yet) k.ends.rest) (ap (λ (m : Moment). m.clearing) k.ends.rest) (subst (λ (u : State). IsThere u (target_node s c.target)) k.ends.state there)))

    by : Receives s (message.Plain (plain.Call c)) x t → IsAt t a (settle t (target_node s c.target)) ⊎ (times_waiting a t ≡ 0)
    by (WasDown d u) = absurd (let z : false ≡ true = subst IsSome i.up d in cc)
    by (FaultsBy j d f g h) = absurd (no_answer s t j c.question.0 a h i.answer)
    by (LacksRoom d f u) = absurd (no_answer s t want_of_room c.question.0 a u.new_is i.answer)
    by (IsHandled d f h w) = walked f h

pub joins : Joins
joins s c b x t r i a here = by i.received
  where
    walked : fault_of s (message.Plain (plain.Call c)) ≡ None → Handles s (message.Plain (plain.Call c)) x t → DoesNotPass a b x t
    walked free h = last (handled P s (message.Plain (plain.Call c)) x t free begin goes h)
      where
        P : Moment → Type 0
        P d = (start : Moment) × (u : ℕ) × Consumes (beginning s) (message.Plain (plain.Call c)) start × Acts d start × Fine s a u d × Answers c.question.0 u d

        begin : (new : Moment) → Consumes (beginning s) (message.Plain (plain.Call c)) new → P new
        begin new f =
            let o = opens s c new f in
            (new, o.key, f, NoMore, fine_then s c new o a (each_stops s r) (counting.consumed a s (message.Plain (plain.Call c)) new f (once s r a)) (counting.consumed o.key s (message.Plain (plain.Call c)) new f (once s r o.key)) here, o.answers)

        goes : (d new : Moment) → P d → Act d new → P new
        goes d new p f = (p.0, p.1, p.2, one_act d new p.0 p.3 f, acted s a p.1 d new (within.messages s (message.Plain (plain.Call c)) p.0 d (each_stops s r) p.2 p.3) p.4 f, answer_stays c.question.0 p.1 d new p.5 f)

        last : Ended P x t → DoesNotPass a b x t
        last k =
            let p = k.holds in
            let same_key : p.1 ≡ b = is_its p.1 b (map.get k.last.state.answers c.question.0) p.5 (subst (λ (u : State). IsAnswer b (map.get u.answers c.question.0)) k.ends.state i.answer) in
            subst (λ (z : ℕ). DoesNotPass a z x t) same_key (steps.ended s a p.1 k.last x t p.4 k.ends)

    by : Receives s (message.Plain (plain.Call c)) x t → DoesNotPass a b x t
    by (WasDown d u) = absurd (let z : false ≡ true = subst IsSome i.up d in cc)
    by (FaultsBy j d f g h) = absurd (no_answer s t j c.question.0 b h i.answer)
    by (LacksRoom d f u) = absurd (no_answer s t want_of_room c.question.0 b u.new_is i.answer)
    by (IsHandled d f h w) = walked f h

-- ---- Many steps

pub reached_by : (s t : State) (x : Effects) → IsReached s → IsStep s x t → IsReached t
reached_by s t x r (OfCommand c k o) = go_on s t r (Commanded c k x o Stays)
reached_by s t x r (OfMessage m o) = go_on s t r (Received m x o Stays)

pub passes_none : (s t : State) (x : Effects) (a b : ℕ) → IsReached s → IsStep s x t → IsAhead s a b → DoesNotPass a b x t
passes_none s t x a b r (OfCommand c k o) i = steps.of_command a b s c k x t r o i
passes_none s t x a b r (OfMessage m o) i = steps.of_message a b s m x t r o i

-- What passes none and still waits is ahead.
pub still_ahead : (a b : ℕ) (x : Effects) (t : State) → 0 < times_waiting a t → DoesNotPass a b x t → IsAhead t a b
still_ahead a b x t w (inl h) = h.0
still_ahead a b x t w (inr h) = let z = h.0 in absurd (omega arith)

pub waits_first : (a : ℕ) (last s : State) → Waits a last s → 0 < times_waiting a s
waits_first a last s (Here w) = w
waits_first a last s (Further x w i more) = w

pub ahead_on : (a b : ℕ) (last s : State) → Waits a last s → IsReached s → IsAhead s a b → IsAhead last a b × IsReached last
ahead_on a b last s (Here w) r h = (h, r)
ahead_on a b last s (Further {mid = mid} x w i more) r h = ahead_on a b last mid more (reached_by s mid x r i) (still_ahead a b x mid (waits_first a last mid more) (passes_none s mid x a b r i h))

module _ (laws : OfEachStep LeadsOn) (a : ℕ) (target : Target) (n : Node) where
  follows_on : (s t : State) (x : Effects) → IsReached s → IsStep s x t → IsAt s a (settle s n) → Follows a n t
  follows_on s t x r (OfCommand c k o) i = Rattle.laws_vat_order.proofs.Following.of_command a n laws s c k x t r o i
  follows_on s t x r (OfMessage m o) i = Rattle.laws_vat_order.proofs.Following.of_message a n laws s m x t r o i

  first_stands : (last s : State) → Stands a target n last s → (0 < times_waiting a s) × (target_node s target ≡ n)
  first_stands last s (StandsHere w e) = (w, e)
  first_stands last s (StandsFurther x w e i more) = (w, e)

  still_there : (t : State) → 0 < times_waiting a t → IsAt t a (settle t n) ⊎ (times_waiting a t ≡ 0) → IsAt t a (settle t n)
  still_there t w (inl h) = h
  still_there t w (inr h) = absurd (omega arith)

  stands_on : (last s : State) → Stands a target n last s → IsReached s → IsAt s a (settle s n) → IsAt last a (settle last n) × (target_node last target ≡ n) × IsReached last
  stands_on last s (StandsHere w e) r h = (h, e, r)
  stands_on last s (StandsFurther {mid = mid} x w e i more) r h =
      let k = reached_by s mid x r i in
      let f = first_stands last mid more in
      stands_on last mid more k (still_there mid f.0 (follows_on s mid x r i h (subst (IsThere mid) f.1 (there_at mid k target))))

module _ (laws : OfEachStep LeadsOn) (one two : Call) (n : Node) (a b : ℕ) (x y : Effects) (s t u v : State) (r : IsReached s) (e : target_node s one.target ≡ n) (came : Comes s one a x t) (stands : Stands a one.target n u t) (same_target : two.target ≡ one.target) (comes : Comes u two b y v) where
  reached_first : IsReached t
  reached_first = go_on s t r (Received (message.Plain (plain.Call one)) x came.received Stays)

  at_second : IsAt u a (settle u n) × (target_node u one.target ≡ n) × IsReached u
  at_second =
      let f = first_stands laws a one.target n u t stands in
      let k : IsAt t a (settle t n) ⊎ (times_waiting a t ≡ 0) = subst (λ (m : Node). IsAt t a (settle t m) ⊎ (times_waiting a t ≡ 0)) e (lands s one a x t r came (f.1 ∙ sym e)) in
      stands_on laws a one.target n u t stands reached_first (still_there laws a one.target n t f.0 k)

  second_comes : DoesNotPass a b y v
  second_comes =
      let k = at_second in
      let f : target_node u two.target ≡ n = ap (target_node u) same_target ∙ k.1 in
      joins u two b y v k.2 comes a (subst (λ (m : Node). IsAt u a (settle u m)) (sym f) k.0)

  second_behind : (w : State) → Waits a w v → IsAhead w a b × IsReached w
  second_behind w more =
      ahead_on a b w v more (go_on u v at_second.2 (Received (message.Plain (plain.Call two)) y comes.received Stays)) (still_ahead a b y v (waits_first a w v more) second_comes)

pub arrivals : OfEachStep LeadsOn → ArrivalsKeepOrder
arrivals laws = record {
  behind = λ one two n a b x y s t u v w r e c k f d more. (second_behind laws one two n a b x y s t u v r e c k f d w more).0;
  leaves = λ one two n a b x y z s t u v w end r e c k f d more i. (let p = second_behind laws one two n a b x y s t u v r e c k f d w more in passes_none w end z a b p.1 i p.0);
  comes = λ one two n a b x y s t u v r e c k f d. second_comes laws one two n a b x y s t u v r e c k f d;
}
