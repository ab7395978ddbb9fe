-- Of a reference of which nothing is pending in two vats, nothing is pending in the machine of routes to which they are tied.
use Rattle.std.specs.FinMap as map
use Rattle.std.specs.FinMap.Entries as entries
use Rattle.std.specs.List.{AllByRecursion}
use Rattle.std.specs.Ordering.{eq_by_cmp, nat_cmp}
use Rattle.std.proofs.Common.{◌≡◌, ◌⊎◌, inl, inr, ℕ, Bool, true, false, cond, Option, None, Some, List, [], ◌∷◌, ◌++◌, append-nil, refl, sym, ap, subst, ◌∙◌}
use Rattle.finite_maps.specs.Tally.{Map}
use Rattle.finite_maps.proofs.Tested.{equal, ties}
use Rattle.rpc_msg.specs.declared.ids.Stamp.{Stamp}
use Rattle.rpc_msg.specs.declared.ids.Vat.{Vat}
use Rattle.rpc_msg.specs.declared.ids.Vat.TheVariants.{A, B}
use Rattle.rpc_msg.specs.declared.message.DisembargoContext.{DisembargoContext}
use Rattle.rpc_msg.specs.declared.message.DisembargoContext.TheVariants.{SenderLoopback, ReceiverLoopback}
use Rattle.rpc_msg.specs.declared.message.Message.{Message}
use Rattle.rpc_msg.specs.declared.message.Message.TheVariants as message
use Rattle.rpc_msg.specs.declared.message.PlainMessage.TheVariants as plain
use Rattle.rpc_msg.specs.declared.parts.Target.{Target}
use Rattle.rpc_journal.specs.History.{DeliveredAt, Ref, caller, same_ref}
use Rattle.rpc_machine.specs.declared.calls.HeldCall.{HeldCall}
use Rattle.rpc_machine.specs.declared.calls.KeptOutcome.{KeptOutcome}
use Rattle.rpc_machine.specs.declared.calls.Promise.{Promise}
use Rattle.rpc_machine.specs.declared.calls.Promise.TheVariants as promise
use Rattle.rpc_machine.specs.declared.calls.Value.{Value}
use Rattle.rpc_machine.specs.declared.calls.WaitingCall.{WaitingCall}
use Rattle.rpc_machine.specs.declared.entries.Embargo.{Embargo}
use Rattle.rpc_machine.specs.declared.node.Node.TheVariants as node
use Rattle.rpc_machine.specs.declared.node.Reason.TheVariants.{BrokenPromise}
use Rattle.rpc_machine.specs.State.{State}
use Rattle.rpc_machine.specs.Lists.{from_each, of_map}
use Rattle.rpc_machine.specs.Pending.{in_messages, pending, through}
use Rattle.rpc_machine.specs.Queries.{is_through, stamps_at_outcome, stamps_at_promise, stamps_of_calls, stamps_of_held, stamps_under, waiting}
use Rattle.rpc_machine.specs.World.{World}
use Rattle.laws_order.specs.Machine.{Kind}
use Rattle.laws_order.specs.Machine as routing
use Rattle.laws_order.specs.Invariant.{InPlace, InvariantWith, WaitsIn}
use Rattle.laws_order.specs.Order.{IsCall, NoCallOf, NonePending, kept_calls}
use Rattle.laws_routes.specs.Points.{AField, APromise, AnObject, Apart, Group, Nowhere, OfOutcome, OfPromise, Point, group_of, routes}
use Rattle.laws_routes.specs.Ghosts.{Ghost, ref_at}
use Rattle.laws_routes.specs.Sides.{AllHeld, AllWait, AreCalls, HasEmbargo, HeldFor, IsEmbargoOf, IsOpenOutcome, IsOpenPromise, OutcomeHolds, PromiseWaits, Side}
use Rattle.laws_routes.specs.Views.{Reader, Shape, disembargo_shape, shapes, shapes_of}
use Rattle.laws_routes.specs.StepLaws.{TiedAt}
use Rattle.laws_routes.specs.Ties.{Ghosts}
use Rattle.laws_scenes.specs.Walked.{seen}
use Rattle.laws_scenes.proofs.Histories.{same_ref_itself}

module _ (r : Ref) where
  -- ---- Stamps of other references

  abbrev NoneOf : List Stamp → Type 0
  NoneOf ss = AllByRecursion (λ s. caller s ≡ r → ⊥) ss

  none_through : (ss : List Stamp) → through r ss ≡ [] → NoneOf ss
  none_through [] e = tt
  none_through (s ∷ ss) e = by (is_through r s) refl (none_through ss) e
    where
      by : (b : Bool) → is_through r s ≡ b → (through r ss ≡ [] → NoneOf ss) → cond b (s ∷ through r ss) (through r ss) ≡ [] → (caller s ≡ r → ⊥) × NoneOf ss
      by true f k e = cc
      by false f k e = (λ i. (let bad : true ≡ false = sym (ap (λ (q : Ref). same_ref r q) i ∙ same_ref_itself r.vat r.number) ∙ f in cc), k e)

  left : (xs ys : List Stamp) → NoneOf (xs ++ ys) → NoneOf xs
  left [] ys h = tt
  left (x ∷ xs) ys h = (h.0, left xs ys h.1)

  right : (xs ys : List Stamp) → NoneOf (xs ++ ys) → NoneOf ys
  right [] ys h = h
  right (x ∷ xs) ys h = right xs ys h.1

  module _ {X : Type 0} (f : ℕ → X → List Stamp) (k : ℕ) (x : X) where
    from_found : (es : List (ℕ × X)) → entries.find nat_cmp k es ≡ Some x → NoneOf (from_each f es) → NoneOf (f k x)
    from_found [] h i = cc
    from_found (e ∷ es) h i = by (λ g. from_found es g (right (f e.0 e.1) (from_each f es) i)) (eq_by_cmp nat_cmp k e.0) refl h
      where
        by : (entries.find nat_cmp k es ≡ Some x → NoneOf (f k x)) → (b : Bool) → eq_by_cmp nat_cmp k e.0 ≡ b → cond b (Some e.1) (entries.find nat_cmp k es) ≡ Some x → NoneOf (f k x)
        by behind true c g =
            let a : e.1 ≡ x = cc in
            let j : k ≡ e.0 = equal k e.0 (sym (ties k e.0) ∙ c) in
            subst (λ (q : ℕ). NoneOf (f q x)) (sym j) (subst (λ (y : X). NoneOf (f e.0 y)) a (left (f e.0 e.1) (from_each f es) i))
        by behind false c g = behind g

    of_entry : (m : Map X) → map.get m k ≡ Some x → NoneOf (of_map f m) → NoneOf (f k x)
    of_entry m h i = from_found (map.entries m) (sym (map.get-entries m k) ∙ h) i

  -- ---- Calls of other references

  abbrev Clear : List (routing.Message routes) → Type 0
  Clear ms = AllByRecursion (NoCallOf r) ms

  cleared : (ms : List (routing.Message routes)) → ms ≡ [] → Clear ms
  cleared ms e = subst Clear (sym e) tt

  all_wait : (stop : Point → Point) (x : Point) (cs : List WaitingCall) (ms : List (routing.Message routes)) → AllWait stop x cs ms → NoneOf (stamps_of_calls cs) → Clear ms
  all_wait stop x [] [] h k = tt
  all_wait stop x [] (m ∷ ms) h k = absurd h
  all_wait stop x (c ∷ cs) [] h k = tt
  all_wait stop x (c ∷ cs) (m ∷ ms) h k = (λ e i. k.0 (sym h.0.1 ∙ e), all_wait stop x cs ms h.1 k.1)

  all_held : (stop : Point → Point) (v : Vat) (i : ℕ) (hs : List HeldCall) (ms : List (routing.Message routes)) → AllHeld stop v i hs ms → NoneOf (stamps_of_held hs) → Clear ms
  all_held stop v i [] [] h k = tt
  all_held stop v i [] (m ∷ ms) h k = absurd h
  all_held stop v i (c ∷ cs) [] h k = tt
  all_held stop v i (c ∷ cs) (m ∷ ms) h k = (λ e j. k.0 (sym h.0.1 ∙ e), all_held stop v i cs ms h.1 k.1)

  -- ---- A vat

  module _ (v : Vat) (s : State) (g : Ghost) (next : ℕ) (m : routing.State routes) (side : Side v s g next m) (none : NoneOf (waiting s)) where
    at_promises : NoneOf (of_map stamps_at_promise s.promises)
    at_promises = left (of_map stamps_at_promise s.promises) _ (left (of_map stamps_at_promise s.promises ++ of_map stamps_at_outcome s.outcomes) _ none)

    at_outcomes : NoneOf (of_map stamps_at_outcome s.outcomes)
    at_outcomes = right (of_map stamps_at_promise s.promises) _ (left (of_map stamps_at_promise s.promises ++ of_map stamps_at_outcome s.outcomes) _ none)

    under : NoneOf (of_map stamps_under s.embargoes)
    under = right (of_map stamps_at_promise s.promises ++ of_map stamps_at_outcome s.outcomes) _ none

    of_promise : (i : ℕ) → Clear (m.net.waiting (OfPromise v i))
    of_promise i = by (side.lists.no_other_promise i)
      where
        open_one : (p : ℕ) (o : Option Promise) → map.get s.promises p ≡ o → IsOpenPromise o → PromiseWaits m.net.stop v (g.promise p) (m.net.waiting (OfPromise v (g.promise p))) o → Clear (m.net.waiting (OfPromise v (g.promise p)))
        open_one p None e n h = absurd n
        open_one p (Some (promise.Open calls)) e n h = all_wait m.net.stop (APromise v (g.promise p)) calls _ h (of_entry stamps_at_promise p (promise.Open calls) s.promises e at_promises)
        open_one p (Some (promise.Fixed to)) e n h = absurd n

        by : ((m.net.waiting (OfPromise v i) ≡ []) ⊎ ((p : ℕ) × IsOpenPromise (map.get s.promises p) × (g.promise p ≡ i))) → Clear (m.net.waiting (OfPromise v i))
        by (inl e) = cleared _ e
        by (inr p) = subst (λ (j : ℕ). Clear (m.net.waiting (OfPromise v j))) p.2 (open_one p.0 (map.get s.promises p.0) refl p.1 (side.lists.at_promises p.0))

    of_outcome : (i : ℕ) → Clear (m.net.waiting (OfOutcome v i))
    of_outcome i = by (side.lists.no_other_outcome i)
      where
        held_for : (o : ℕ) (x : KeptOutcome) (z : Option Value) → z ≡ None → HeldFor m.net.stop v (g.outcome o) (m.net.waiting (OfOutcome v (g.outcome o))) x.waiting z → NoneOf (stamps_of_held x.waiting) → Clear (m.net.waiting (OfOutcome v (g.outcome o)))
        held_for o x None e h k = all_held m.net.stop v (g.outcome o) x.waiting _ h k
        held_for o x (Some y) e h k = cc

        open_one : (o : ℕ) (y : Option KeptOutcome) → map.get s.outcomes o ≡ y → IsOpenOutcome y → OutcomeHolds m.net.stop v (g.outcome o) (m.net.waiting (OfOutcome v (g.outcome o))) y → Clear (m.net.waiting (OfOutcome v (g.outcome o)))
        open_one o None e n h = absurd n
        open_one o (Some x) e n h = held_for o x x.value n h (of_entry stamps_at_outcome o x s.outcomes e at_outcomes)

        by : ((m.net.waiting (OfOutcome v i) ≡ []) ⊎ ((o : ℕ) × IsOpenOutcome (map.get s.outcomes o) × (g.outcome o ≡ i))) → Clear (m.net.waiting (OfOutcome v i))
        by (inl e) = cleared _ e
        by (inr o) = subst (λ (j : ℕ). Clear (m.net.waiting (OfOutcome v j))) o.2 (open_one o.0 (map.get s.outcomes o.0) refl o.1 (side.lists.at_outcomes o.0))

    -- An object and what is broken keep no call waiting.
    object_shut : (n : ℕ) → m.net.kind (AnObject v n) ≡ routing.Open → ⊥
    object_shut n e = let a = side.stops (node.Object (record { 0 = n })) refl tt in let bad : routing.Object ≡ routing.Open = sym a.1 ∙ e in cc

    nowhere_shut : m.net.kind (Nowhere v) ≡ routing.Open → ⊥
    nowhere_shut e = let a = side.stops (node.Broken BrokenPromise) refl tt in let bad : routing.Broken ≡ routing.Open = sym a.1 ∙ e in cc

    under_none : (cs : List WaitingCall) (ks : List ℕ) → AreCalls r cs ks → NoneOf (stamps_of_calls cs) → ks ≡ []
    under_none [] [] h k = refl
    under_none [] (i ∷ ks) h k = absurd h
    under_none (c ∷ cs) [] h k = refl
    under_none (c ∷ cs) (i ∷ ks) h k = absurd (k.0 h.0)

    no_kept : r.vat ≡ v → kept_calls (m.refs r).embargo ≡ []
    no_kept here = subst (λ (u : Vat). kept_calls (m.refs (ref_at u r.number)).embargo ≡ []) (sym here) (by (side.no_other_embargoes r.number))
      where
        one : (e : ℕ) (o : Option Embargo) → map.get s.embargoes e ≡ o → IsEmbargoOf r.number o → HasEmbargo v g m o → kept_calls (m.refs (ref_at v r.number)).embargo ≡ []
        one e None f n h = absurd n
        one e (Some b) f n h =
            let same : ref_at v b.reference.0 ≡ r = ap (λ (k : ℕ). ref_at v k) n ∙ ap (λ (u : Vat). ref_at u r.number) (sym here) in
            let calls : AreCalls r b.waiting (h.0).calls = subst (λ (q : Ref). AreCalls q b.waiting (h.0).calls) same h.2 in
            subst (λ (k : ℕ). kept_calls (m.refs (ref_at v k)).embargo ≡ []) n (ap (λ (z : Option (routing.Embargo routes)). kept_calls z) h.1 ∙ under_none b.waiting (h.0).calls calls (of_entry stamps_under e b s.embargoes f under))

        by : (((m.refs (ref_at v r.number)).embargo ≡ None) ⊎ ((e : ℕ) × IsEmbargoOf r.number (map.get s.embargoes e))) → kept_calls (m.refs (ref_at v r.number)).embargo ≡ []
        by (inl e) = ap (λ (z : Option (routing.Embargo routes)). kept_calls z) e
        by (inr e) = one e.0 (map.get s.embargoes e.0) refl e.1 (side.embargoes e.0)

  -- ---- A link

  abbrev IsOther : Shape → Type 0
  IsOther x = x.ref ≡ r → IsCall x.what → ⊥

  module _ (u v : Vat) (g : Ghost) (x : Reader) where
    all_shapes : (ms : List Message) (now : ℕ → ℕ) → NoneOf (in_messages ms) → AllByRecursion IsOther (shapes u v g x now ms)
    all_shapes [] now h = tt
    all_shapes (message.Plain (plain.Abort exception) ∷ ms) now h = all_shapes ms _ h
    all_shapes (message.Plain (plain.Bootstrap q) ∷ ms) now h = all_shapes ms _ h
    all_shapes (message.Plain (plain.Call c) ∷ ms) now h = (λ e i. h.0 e, all_shapes ms _ h.1)
    all_shapes (message.Plain (plain.Return y) ∷ ms) now h = all_shapes ms _ h
    all_shapes (message.Plain (plain.Finish y) ∷ ms) now h = all_shapes ms _ h
    all_shapes (message.Plain (plain.Resolve y) ∷ ms) now h = all_shapes ms _ h
    all_shapes (message.Plain (plain.Release y) ∷ ms) now h = all_shapes ms _ h
    all_shapes (message.Plain (plain.Disembargo y) ∷ ms) now h = (by y.target y.context, all_shapes ms _ h)
      where
        by : (t : Target) (c : DisembargoContext) → IsOther (disembargo_shape u v x now t c)
        by t (SenderLoopback e) f i = i
        by t (ReceiverLoopback e) f i = i
    all_shapes (message.Plain (plain.Other n) ∷ ms) now h = all_shapes ms _ h
    all_shapes (message.Unimplemented y ∷ ms) now h = all_shapes ms _ h

  link_clear : (ms : List (routing.Message routes)) → AllByRecursion IsOther (shapes_of ms) → Clear ms
  link_clear [] h = tt
  link_clear (m ∷ ms) h = (h.0, link_clear ms h.1)

-- ---- Two vats

module _ (w : World) (made : Ref → ℕ) (told : List DeliveredAt) (g : Ghosts) (m : routing.State routes) (t : TiedAt (seen w made told A) w.a.core g m) (i : InvariantWith m []) (r : Ref) (idle : pending w r ≡ []) where
  abbrev a : State
  a = w.a.core

  abbrev b : State
  b = w.b.core

  abbrev first : List Stamp
  first = waiting a ++ waiting b

  all : NoneOf r (first ++ in_messages w.a.inbox ++ in_messages w.b.inbox)
  all = none_through r _ idle

  in_a : NoneOf r (waiting a)
  in_a = left r (waiting a) _ (left r first _ (left r (first ++ in_messages w.a.inbox) _ all))

  in_b : NoneOf r (waiting b)
  in_b = right r (waiting a) _ (left r first _ (left r (first ++ in_messages w.a.inbox) _ all))

  to_a : NoneOf r (in_messages w.a.inbox)
  to_a = right r first _ (left r (first ++ in_messages w.a.inbox) _ all)

  to_b : NoneOf r (in_messages w.b.inbox)
  to_b = right r (first ++ in_messages w.a.inbox) _ all

  shut : (x : Point) → m.net.kind x ≡ routing.Open → group_of x ≡ Apart → ⊥
  shut (AnObject A n) e f = object_shut r A a g.own g.next m t.own in_a n e
  shut (AnObject B n) e f = object_shut r B b g.theirs g.next m t.theirs in_b n e
  shut (APromise v n) e f = cc
  shut (AField v n path) e f = cc
  shut (Nowhere A) e f = nowhere_shut r A a g.own g.next m t.own in_a e
  shut (Nowhere B) e f = nowhere_shut r B b g.theirs g.next m t.theirs in_b e

  none_apart : (ms : List (routing.Message routes)) → AllByRecursion (WaitsIn m.net Apart) ms → Clear r ms
  none_apart [] h = tt
  none_apart (y ∷ ms) h = absurd (shut (m.net.stop y.target) h.0.0 h.0.1)

  groups : (k : Group) → Clear r (m.net.waiting k)
  groups Apart = let p : InPlace m.net = i.in_place in none_apart (m.net.waiting Apart) (p.waiting Apart)
  groups (OfPromise A n) = of_promise r A a g.own g.next m t.own in_a n
  groups (OfPromise B n) = of_promise r B b g.theirs g.next m t.theirs in_b n
  groups (OfOutcome A n) = of_outcome r A a g.own g.next m t.own in_a n
  groups (OfOutcome B n) = of_outcome r B b g.theirs g.next m t.theirs in_b n

  links : (v : Bool) → Clear r (m.net.links v)
  links true = let view = t.back in link_clear r (m.net.links true) (subst (AllByRecursion (IsOther r)) view.link (all_shapes r B A g.theirs _ w.a.inbox _ to_a))
  links false =
      let view = t.view in
      link_clear r (m.net.links false) (subst (AllByRecursion (IsOther r)) view.link (all_shapes r A B g.own _ (w.b.inbox ++ []) _ (subst (λ (ms : List Message). NoneOf r (in_messages ms)) (sym (append-nil w.b.inbox)) to_b)))

  embargo : (v : Vat) → r.vat ≡ v → kept_calls (m.refs r).embargo ≡ []
  embargo A e = no_kept r A a g.own g.next m t.own in_a e
  embargo B e = no_kept r B b g.theirs g.next m t.theirs in_b e

  pub none_pending : NonePending m r
  none_pending = record { waiting = groups; links = links; embargo = embargo r.vat refl }
