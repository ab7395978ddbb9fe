-- Where a call waits that waited at an open node: where that node leads by now. The node may go in the step, and then nothing
-- is claimed; so each link on the way is claimed only while its node is there. Promises are made only before the first
-- results of a step are known, and outcomes only by first acts; so what went does not come back.
use Rattle.std.proofs.Common.{◌≡◌, ◌⊎◌, inl, inr, ℕ, ◌+◌, ◌≤◌, Bool, true, false, nat_eq, List, [], ◌∷◌, ◌++◌, Option, None, Some, IsSome, unwrap_or, refl, sym, ap, subst, ◌∙◌, arith}
use Rattle.std.specs.FinMap as map
use Rattle.finite_maps.specs.Tally.{Map}
use Rattle.finite_maps.proofs.Tested.{itself, at_put, at_cut}
use Rattle.rpc_msg.specs.Op.{Op}
use Rattle.rpc_msg.specs.declared.exception.Exception.{Exception}
use Rattle.rpc_machine.specs.declared.node.Node.{Node}
use Rattle.rpc_machine.specs.declared.node.Node.TheVariants as node
use Rattle.rpc_machine.specs.declared.calls.WaitingCall.{WaitingCall}
use Rattle.rpc_machine.specs.declared.calls.HeldCall.{HeldCall}
use Rattle.rpc_machine.specs.declared.calls.Promise.{Promise}
use Rattle.rpc_machine.specs.declared.calls.Promise.TheVariants as promise
use Rattle.rpc_machine.specs.declared.calls.KeptOutcome.{KeptOutcome}
use Rattle.rpc_machine.specs.declared.calls.Value.{Value}
use Rattle.rpc_machine.specs.declared.calls.Value.TheVariants as value
use Rattle.rpc_machine.specs.declared.calls.Caller.{Caller}
use Rattle.rpc_machine.specs.State.{State}
use Rattle.rpc_machine.specs.Nodes.{promise_link, value_of, field_link, link, settle}
use Rattle.rpc_machine.specs.Settling.{Fits}
use Rattle.rpc_machine.proofs.Following.{holds_where_it_settles}
use Rattle.laws_acts.specs.Moments.{Clearing, Moment, held_to}
use Rattle.laws_acts.specs.SmallActs.{IsStill, kept_known, Act}
use Rattle.laws_acts.specs.SmallActs as act
use Rattle.laws_steps.specs.Settled.{IsThere}
use Rattle.laws_steps.proofs.Exceptions.{AllExceptions, one_more}
use Rattle.laws_nodes.specs.Settling.{AllStop}
use Rattle.laws_nodes.proofs.Stopping.{ends}
use Rattle.laws_vat_order.specs.Lines.{Has, HasAt, OfPromise, times_waiting}
use Rattle.laws_vat_order.proofs.Counting.{yet_for, all_waiting, no_more}
use Rattle.laws_vat_order.proofs.Lists.{has_more, has_last, held_more, held_last, held_has, YetHas, promise_more, promise_at, promise_cut}
use Rattle.laws_vat_order.proofs.Moving.{with_tables, leads, open_fitted, Quiet, busy, no_yet, leaves}

-- ---- What arises

-- At most the first that is to become known is no exception.
abbrev pub MostOne : List (ℕ × Value) → List (ℕ × Value) → Type 0
MostOne [] [] = Unit {0}
MostOne [] (x ∷ xs) = AllExceptions xs
MostOne (y ∷ ys) xs = AllExceptions xs

more_arise : (ys xs : List (ℕ × Value)) (o : ℕ) (e : Exception) → MostOne ys xs → MostOne ys (xs ++ (o, value.Exception e) ∷ [])
more_arise [] [] o e h = tt
more_arise [] (x ∷ xs) o e h = one_more xs o e h
more_arise (y ∷ ys) xs o e h = one_more xs o e h

next_arises : (ys xs rest : List (ℕ × Value)) (o : ℕ) (v : Value) → ys ≡ [] → xs ≡ (o, v) ∷ rest → MostOne ys xs → AllExceptions rest
next_arises [] [] rest o v c e h = cc
next_arises [] (x ∷ xs) rest o v c e h = let f : xs ≡ rest = cc in subst AllExceptions f h
next_arises (y ∷ ys) xs rest o v c e h = cc

none_arise : (ys xs : List (ℕ × Value)) → ys ≡ [] → AllExceptions xs → MostOne ys xs
none_arise [] [] e h = tt
none_arise [] (x ∷ xs) e h = h.1
none_arise (y ∷ ys) xs e h = cc

most_one : (d new : Moment) → MostOne d.coming d.arisen → Act d new → MostOne new.coming new.arisen
most_one d new i (act.Breaks c n rest reason e f h) = rw h (more_arise d.coming d.arisen c.outcome _ i)
most_one d new i (act.NextArisen u v rest e f h) = rw h (next_arises d.coming d.arisen rest u v (ap (λ (m : Moment). m.coming) e) f i)
most_one d new i (act.Knows u v fit x ps e f j k h) =
    rw h (none_arise [] d.arisen refl (subst (λ (ys : List (ℕ × Value)). MostOne ys d.arisen) (ap (λ (m : Moment). m.coming) e) i))
most_one d new i (act.Delivers c n rest u e f h) = rw h i
most_one d new i (act.Waits c n rest p calls e f j h) = rw h i
most_one d new i (act.Holds c n rest u path x e f j h) = rw h i
most_one d new i (act.Relays c n rest q t ds es e f j k h) = rw h i
most_one d new i (act.Reports c v from e f h) = rw h i
most_one d new i (act.TellsNobody c v e f h) = rw h i
most_one d new i (act.MakesReturn q v x b ds es e f j k h) = rw h i
most_one d new i (act.SendsReturn x y e f j h) = rw h i
most_one d new i (act.Clears x e f h) = rw h i
most_one d new i (act.Lists x e h) = rw h i
most_one d new i (act.SendsResolve x rest k es e w f h) = rw h i
most_one d new i (act.SendsBroken x rest reason e f h) = rw h i
most_one d new i (act.PromiseGoes p to w e f h) = rw h i
most_one d new i (act.OutcomeGoes u x v w e f j k l h) = rw h i
most_one d new i (act.ImportGoes k x w e f h) = rw h i
most_one d new i (act.Sweeps over e f j h) = rw h i
most_one d new i (act.SendsFinish q x rest e f j k l h) = rw h i
most_one d new i (act.Closes q x rest e f j k l h) = rw h i
most_one d new i (act.Releases w e f h) = rw h i

-- ---- Where a call is

-- It waits for that field of an outcome that is not known.
abbrev pub OfUnknown : List Op → ℕ → Option KeptOutcome → Type 0
OfUnknown path a None = ⊥
OfUnknown path a (Some x) = (x.value ≡ None) × HasAt path a x.waiting

-- It waits at that open node.
abbrev pub OpenAt : ℕ → Map Promise → Map KeptOutcome → Node → Type 0
OpenAt a ps os (node.Object o) = ⊥
OpenAt a ps os (node.Promise p) = OfPromise (Has a) (map.get ps p)
OpenAt a ps os (node.Field o path) = OfUnknown path a (map.get os o)
OpenAt a ps os (node.Import e) = ⊥
OpenAt a ps os (node.Pipe q path) = ⊥
OpenAt a ps os (node.Broken reason) = ⊥

-- It is still in the list of an outcome whose caller is being told.
abbrev pub InCleared : ℕ → Clearing → Node → Type 0
InCleared a x (node.Object o) = ⊥
InCleared a x (node.Promise p) = ⊥
InCleared a x (node.Field o path) = (o ≡ x.outcome) × HasAt path a x.waiting
InCleared a x (node.Import e) = ⊥
InCleared a x (node.Pipe q path) = ⊥
InCleared a x (node.Broken reason) = ⊥

abbrev pub KnownAt : ℕ → Option Clearing → Node → Type 0
KnownAt a None n = ⊥
KnownAt a (Some x) n = InCleared a x n

pub data Place (a : ℕ) (ps : Map Promise) (os : Map KeptOutcome) (yet : List (WaitingCall × Node)) (clearing : Option Clearing) (n : Node) : Type 0 where
  InOpen : OpenAt a ps os n → Place a ps os yet clearing n
  InKnown : KnownAt a clearing n → Place a ps os yet clearing n
  InYet : YetHas n a yet → Place a ps os yet clearing n

-- ---- Where a node leads

-- The outcomes, with one in its place whose caller is being told: until that is done it might go.
abbrev pub full : Map KeptOutcome → Option Clearing → Map KeptOutcome
full os None = os
full os (Some x) = map.insert os x.outcome (kept_known x.caller x.value x.waiting)

-- Links lead from one node to the other: each of a node that is there.
pub data Chain (t : State) (from : Node) : Node → Type 0 where
  Itself : Chain t from from
  On : (n m : Node) → Chain t from n → (IsThere t n → link t n ≡ Some m) → Chain t from m

-- What is there was there, and leads where it led.
abbrev KeepsPromises : Map Promise → Map Promise → Type 0
KeepsPromises ps qs = (p : ℕ) → (map.get qs p ≡ None) ⊎ (IsSome (map.get ps p) × ((m : Node) → promise_link (map.get ps p) ≡ Some m → promise_link (map.get qs p) ≡ Some m))

abbrev KeepsOutcomes : Map KeptOutcome → Map KeptOutcome → Type 0
KeepsOutcomes os us = (o : ℕ) → (map.get us o ≡ None) ⊎ (IsSome (map.get os o) × ((v : Value) → value_of (map.get os o) ≡ Some v → value_of (map.get us o) ≡ Some v))

not_there : {X A : Type 0} {o : Option X} → o ≡ None → IsSome o → A
not_there e h = cc

module _ (s : State) (ps qs : Map Promise) (os us : Map KeptOutcome) (f : KeepsPromises ps qs) (g : KeepsOutcomes os us) where
  link_kept : (n m : Node) → (IsThere (with_tables s ps os) n → link (with_tables s ps os) n ≡ Some m) → IsThere (with_tables s qs us) n → link (with_tables s qs us) n ≡ Some m
  link_kept (node.Object o) m h i = h tt
  link_kept (node.Promise p) m h i = by (f p)
    where
      by : (map.get qs p ≡ None) ⊎ (IsSome (map.get ps p) × ((k : Node) → promise_link (map.get ps p) ≡ Some k → promise_link (map.get qs p) ≡ Some k)) → promise_link (map.get qs p) ≡ Some m
      by (inl e) = not_there e i
      by (inr e) = e.1 m (h e.0)
  link_kept (node.Field o path) m h i = by (g o)
    where
      at : (v : Option Value) → value_of (map.get os o) ≡ v → ((k : Value) → value_of (map.get os o) ≡ Some k → value_of (map.get us o) ≡ Some k) → field_link path v ≡ Some m → field_link path (value_of (map.get us o)) ≡ Some m
      at None e k j = absurd (let z : None ≡ Some m = j in cc)
      at (Some v) e k j = ap (field_link path) (k v e) ∙ j

      by : (map.get us o ≡ None) ⊎ (IsSome (map.get os o) × ((v : Value) → value_of (map.get os o) ≡ Some v → value_of (map.get us o) ≡ Some v)) → field_link path (value_of (map.get us o)) ≡ Some m
      by (inl e) = not_there e i
      by (inr e) = at (value_of (map.get os o)) refl e.1 (h e.0)
  link_kept (node.Import e) m h i = h tt
  link_kept (node.Pipe q path) m h i = h tt
  link_kept (node.Broken reason) m h i = h tt

  chain_kept : (e n : Node) → Chain (with_tables s ps os) e n → Chain (with_tables s qs us) e n
  chain_kept e _ Itself = Itself
  chain_kept e _ (On n m c h) = On n m (chain_kept e n c) (λ i. link_kept n m h i)

same_promises : (ps : Map Promise) → KeepsPromises ps ps
same_promises ps p = by (map.get ps p) refl
  where
    by : (o : Option Promise) → map.get ps p ≡ o → (map.get ps p ≡ None) ⊎ (IsSome (map.get ps p) × ((m : Node) → promise_link (map.get ps p) ≡ Some m → promise_link (map.get ps p) ≡ Some m))
    by None e = inl e
    by (Some x) e = inr (subst IsSome (sym e) refl, λ m h. h)

same_outcomes : (os : Map KeptOutcome) → KeepsOutcomes os os
same_outcomes os o = by (map.get os o) refl
  where
    by : (x : Option KeptOutcome) → map.get os o ≡ x → (map.get os o ≡ None) ⊎ (IsSome (map.get os o) × ((v : Value) → value_of (map.get os o) ≡ Some v → value_of (map.get os o) ≡ Some v))
    by None e = inl e
    by (Some x) e = inr (subst IsSome (sym e) refl, λ m h. h)

-- A list grows.
open_kept : (ps : Map Promise) (p : ℕ) (calls after : List WaitingCall) → map.get ps p ≡ Some (promise.Open calls) → KeepsPromises ps (map.insert ps p (promise.Open after))
open_kept ps p calls after e =
    at_put (λ j o. (o ≡ None) ⊎ (IsSome (map.get ps j) × ((m : Node) → promise_link (map.get ps j) ≡ Some m → promise_link o ≡ Some m))) ps p (promise.Open after)
    (inr (subst IsSome (sym e) refl, λ m h. absurd (let z : None ≡ Some m = sym (ap promise_link e) ∙ h in cc)))
    (λ j g. same_promises ps j)

-- It goes.
promise_gone : (ps : Map Promise) (p : ℕ) → KeepsPromises ps (map.remove ps p)
promise_gone ps p = at_cut (λ j o. (o ≡ None) ⊎ (IsSome (map.get ps j) × ((m : Node) → promise_link (map.get ps j) ≡ Some m → promise_link o ≡ Some m))) ps p (inl refl) (λ j g. same_promises ps j)

abbrev KeepsOne : Option KeptOutcome → Option KeptOutcome → Type 0
KeepsOne x y = (y ≡ None) ⊎ (IsSome x × ((v : Value) → value_of x ≡ Some v → value_of y ≡ Some v))

-- An outcome that was there is put in: with the value that it had, if it had one.
outcome_put : (os : Map KeptOutcome) (o : ℕ) (x y : KeptOutcome) → map.get os o ≡ Some x → ((v : Value) → x.value ≡ Some v → y.value ≡ Some v) → KeepsOutcomes os (map.insert os o y)
outcome_put os o x y e f =
    at_put (λ j z. KeepsOne (map.get os j) z) os o y
    (inr (subst IsSome (sym e) refl, λ v h. f v (sym (ap value_of e) ∙ h)))
    (λ j g. same_outcomes os j)

outcome_gone : (os : Map KeptOutcome) (o : ℕ) → KeepsOutcomes os (map.remove os o)
outcome_gone os o = at_cut (λ j z. KeepsOne (map.get os j) z) os o (inl refl) (λ j g. same_outcomes os j)

-- So in the full tables.
full_put : (os us : Map KeptOutcome) (c : Option Clearing) → KeepsOutcomes os us → KeepsOutcomes (full os c) (full us c)
full_put os us None f = f
full_put os us (Some x) f =
    let y : KeptOutcome = kept_known x.caller x.value x.waiting in
    at_put (λ j z. KeepsOne (map.get (map.insert os x.outcome y) j) z) us x.outcome y
    (subst (λ (z : Option KeptOutcome). KeepsOne z (Some y)) (sym (at_put (λ j z. j ≡ x.outcome → z ≡ Some y) os x.outcome y (λ e. refl) (λ j g e. absurd (let w : nat_eq x.outcome x.outcome ≡ false = subst (λ (i : ℕ). nat_eq i x.outcome ≡ false) e g in let v = itself x.outcome in cc)) x.outcome refl)) (inr (refl, λ v h. h)))
    (λ j g. at_put (λ i z. nat_eq i x.outcome ≡ false → KeepsOne z (map.get us i)) os x.outcome y (λ e. absurd (let v = itself x.outcome in cc)) (λ i k e. f i) j g)

-- ---- Where a call is, and that this is where its node leads

pub data Bound (s : State) (a : ℕ) (e : Node) (ps : Map Promise) (os : Map KeptOutcome) (yet : List (WaitingCall × Node)) (clearing : Option Clearing) (coming arisen : List (ℕ × Value)) : Type 0 where
  Still : OpenAt a ps os e → Bound s a e ps os yet clearing coming arisen
  Moved : (n : Node) → AllExceptions coming → AllExceptions arisen → Place a ps os yet clearing n → Chain (with_tables s ps (full os clearing)) e n → Bound s a e ps os yet clearing coming arisen

-- ---- Open nodes

open_waits : (a : ℕ) (ps : Map Promise) (os : Map KeptOutcome) (p : ℕ) (calls : List WaitingCall) (c : WaitingCall) → map.get ps p ≡ Some (promise.Open calls) → (n : Node) → OpenAt a ps os n → OpenAt a (map.insert ps p (promise.Open (calls ++ c ∷ []))) os n
open_waits a ps os p calls c e (node.Object o) h = absurd h
open_waits a ps os p calls c e (node.Promise q) h = promise_more (Has a) ps p calls (calls ++ c ∷ []) e (has_more a c calls) q h
open_waits a ps os p calls c e (node.Field o path) h = h
open_waits a ps os p calls c e (node.Import k) h = absurd h
open_waits a ps os p calls c e (node.Pipe q path) h = absurd h
open_waits a ps os p calls c e (node.Broken reason) h = absurd h

open_holds : (a : ℕ) (ps : Map Promise) (os : Map KeptOutcome) (o : ℕ) (x : KeptOutcome) (c : HeldCall) → map.get os o ≡ Some x → (n : Node) → OpenAt a ps os n → OpenAt a ps (map.insert os o (record x { waiting = x.waiting ++ c ∷ [] })) n
open_holds a ps os o x c e (node.Object k) h = absurd h
open_holds a ps os o x c e (node.Promise q) h = h
open_holds a ps os o x c e (node.Field k path) h = at_put (λ j z. OfUnknown path a (map.get os j) → OfUnknown path a z) os o (record x { waiting = x.waiting ++ c ∷ [] }) (λ i. let w : (x.value ≡ None) × HasAt path a x.waiting = subst (OfUnknown path a) e i in (w.0, held_more path a c x.waiting w.1)) (λ j g i. i) k h
open_holds a ps os o x c e (node.Import k) h = absurd h
open_holds a ps os o x c e (node.Pipe q path) h = absurd h
open_holds a ps os o x c e (node.Broken reason) h = absurd h

-- An outcome becomes known: it was another's, or the call waits for a field of this one.
open_knows : (a : ℕ) (s : State) (u : ℕ) (v fit : Value) (x : KeptOutcome) (ps : Map Promise) → map.get s.outcomes u ≡ Some x → Fits s u x.caller x.waiting v fit (record s { promises = ps })
    → (n : Node) → OpenAt a s.promises s.outcomes n → OpenAt a ps (map.insert s.outcomes u (kept_known x.caller fit x.waiting)) n ⊎ InCleared a (record { outcome = u; caller = x.caller; value = fit; waiting = x.waiting }) n
open_knows a s u v fit x ps e f (node.Object k) h = absurd h
open_knows a s u v fit x ps e f (node.Promise q) h = inl (open_fitted (Has a) u x.caller x.waiting q s v fit (record s { promises = ps }) f h)
open_knows a s u v fit x ps e f (node.Field k path) h = at_put (λ j z. OfUnknown path a (map.get s.outcomes j) → OfUnknown path a z ⊎ ((j ≡ u) × HasAt path a x.waiting)) s.outcomes u (kept_known x.caller fit x.waiting) (λ i. let w : (x.value ≡ None) × HasAt path a x.waiting = subst (OfUnknown path a) e i in inr (refl, w.1)) (λ j g i. inl i) k h
open_knows a s u v fit x ps e f (node.Import k) h = absurd h
open_knows a s u v fit x ps e f (node.Pipe q path) h = absurd h
open_knows a s u v fit x ps e f (node.Broken reason) h = absurd h

-- Of a known outcome no call is at an open node.
open_known : (a : ℕ) (ps : Map Promise) (os us : Map KeptOutcome) (o : ℕ) → ((path : List Op) → OfUnknown path a (map.get os o) → ⊥) → ((j : ℕ) → nat_eq j o ≡ false → map.get us j ≡ map.get os j) → (n : Node) → OpenAt a ps os n → OpenAt a ps us n
open_known a ps os us o f g (node.Object k) h = absurd h
open_known a ps os us o f g (node.Promise q) h = h
open_known a ps os us o f g (node.Field k path) h = by (nat_eq k o) refl
  where
    by : (b : Bool) → nat_eq k o ≡ b → OfUnknown path a (map.get us k)
    by true e = absurd (f path (subst (λ (i : ℕ). OfUnknown path a (map.get os i)) (Rattle.finite_maps.proofs.Tested.equal k o e) h))
    by false e = subst (OfUnknown path a) (sym (g k e)) h
open_known a ps os us o f g (node.Import k) h = absurd h
open_known a ps os us o f g (node.Pipe q path) h = absurd h
open_known a ps os us o f g (node.Broken reason) h = absurd h

open_promise_goes : (a : ℕ) (ps : Map Promise) (os : Map KeptOutcome) (p : ℕ) (to : Node) → map.get ps p ≡ Some (promise.Fixed to) → (n : Node) → OpenAt a ps os n → OpenAt a (map.remove ps p) os n
open_promise_goes a ps os p to e (node.Object k) h = absurd h
open_promise_goes a ps os p to e (node.Promise q) h = promise_cut (Has a) ps p to e q h
open_promise_goes a ps os p to e (node.Field k path) h = h
open_promise_goes a ps os p to e (node.Import k) h = absurd h
open_promise_goes a ps os p to e (node.Pipe q path) h = absurd h
open_promise_goes a ps os p to e (node.Broken reason) h = absurd h

known_here : (path : List Op) (a : ℕ) (x : KeptOutcome) (v : Value) (o : Option KeptOutcome) → o ≡ Some x → x.value ≡ Some v → OfUnknown path a o → ⊥
known_here path a x v o e f h = let w : (x.value ≡ None) × HasAt path a x.waiting = subst (OfUnknown path a) e h in absurd (let z : None ≡ Some v = sym w.0 ∙ f in cc)

-- Where a node settles that is a field, the outcome is not known.
field_unknown : (t : State) (n : Node) (o : ℕ) (path : List Op) (x : KeptOutcome) → AllStop t → settle t n ≡ node.Field o path → map.get t.outcomes o ≡ Some x → x.value ≡ None
field_unknown t n o path x stop e f = by x.value refl
  where
    no_link : link t (node.Field o path) ≡ None
    no_link = ap (link t) (sym e) ∙ ends t stop n

    by : (v : Option Value) → x.value ≡ v → x.value ≡ None
    by None g = g
    by (Some v) g = absurd (let z : field_link path (Some v) ≡ None = sym (ap (field_link path) (ap value_of f ∙ g)) ∙ no_link in cc)

-- ---- Each act

module _ (s : State) (a : ℕ) (e : Node) where
  abbrev pub IsBound : Moment → Type 0
  IsBound d = Bound s a e d.state.promises d.state.outcomes d.yet d.clearing d.coming d.arisen

  -- The node leads on to where the place settles.
  further : (d : Moment) (n : Node) → AllStop d.state → Chain (with_tables s d.state.promises d.state.outcomes) e n → Chain (with_tables s d.state.promises d.state.outcomes) e (settle d.state n)
  further d n stop c = subst (Chain (with_tables s d.state.promises d.state.outcomes) e) ((leads s d.state stop).1 n) (holds_where_it_settles (Chain (with_tables s d.state.promises d.state.outcomes) e) (with_tables s d.state.promises d.state.outcomes) (λ m i. by m i (link (with_tables s d.state.promises d.state.outcomes) m) refl) n c)
    where
      by : (m : Node) → Chain (with_tables s d.state.promises d.state.outcomes) e m → (o : Option Node) → link (with_tables s d.state.promises d.state.outcomes) m ≡ o → Chain (with_tables s d.state.promises d.state.outcomes) e (unwrap_or o m)
      by m i None f = i
      by m i (Some k) f = On m k i (λ h. f)

  -- It does not wait: it is gone, or it is another call.
  bound_goes : (d : Moment) (c : WaitingCall) (m : Node) (rest : List (WaitingCall × Node)) (arisen : List (ℕ × Value)) → d.yet ≡ (c, m) ∷ rest → all_waiting a d ≤ 1 → (AllExceptions d.arisen → AllExceptions arisen)
      → IsBound d → Bound s a e d.state.promises d.state.outcomes rest d.clearing d.coming arisen ⊎ (times_waiting a d.state + yet_for a rest ≡ 0)
  bound_goes d c m rest arisen f i g (Still h) = inl (Still h)
  bound_goes d c m rest arisen f i g (Moved n x y (InOpen h) l) = inl (Moved n x (g y) (InOpen h) l)
  bound_goes d c m rest arisen f i g (Moved n x y (InKnown h) l) = inl (Moved n x (g y) (InKnown h) l)
  bound_goes d c m rest arisen f i g (Moved n x y (InYet h) l) = by (subst (YetHas n a) f h)
    where
      by : YetHas n a ((c, m) ∷ rest) → Bound s a e d.state.promises d.state.outcomes rest d.clearing d.coming arisen ⊎ (times_waiting a d.state + yet_for a rest ≡ 0)
      by (inl k) = inr (leaves s a a d c m rest f i k.0)
      by (inr k) = inl (Moved n x (g y) (InYet k) l)

  bound_waits : (d : Moment) (c : WaitingCall) (m : Node) (rest : List (WaitingCall × Node)) (p : ℕ) (calls : List WaitingCall) → AllStop d.state → d.clearing ≡ None → d.yet ≡ (c, m) ∷ rest → settle d.state m ≡ node.Promise p → map.get d.state.promises p ≡ Some (promise.Open calls)
      → IsBound d → Bound s a e (map.insert d.state.promises p (promise.Open (calls ++ c ∷ []))) d.state.outcomes rest d.clearing d.coming d.arisen
  bound_waits d c m rest p calls stop z f g j (Still h) = Still (open_waits a d.state.promises d.state.outcomes p calls c j e h)
  bound_waits d c m rest p calls stop z f g j (Moved n x y i l) = by i
    where
      kept : (k : Node) → Chain (with_tables s d.state.promises (full d.state.outcomes d.clearing)) e k → Chain (with_tables s (map.insert d.state.promises p (promise.Open (calls ++ c ∷ []))) (full d.state.outcomes d.clearing)) e k
      kept k q = chain_kept s d.state.promises (map.insert d.state.promises p (promise.Open (calls ++ c ∷ []))) (full d.state.outcomes d.clearing) (full d.state.outcomes d.clearing) (open_kept d.state.promises p calls (calls ++ c ∷ []) j) (same_outcomes (full d.state.outcomes d.clearing)) e k q

      at : (k : Node) → k ≡ m → Chain (with_tables s d.state.promises (full d.state.outcomes d.clearing)) e k → Chain (with_tables s d.state.promises (full d.state.outcomes d.clearing)) e (node.Promise p)
      at k q r =
          let w : full d.state.outcomes d.clearing ≡ d.state.outcomes = ap (full d.state.outcomes) z in
          subst (λ (os : Map KeptOutcome). Chain (with_tables s d.state.promises os) e (node.Promise p)) (sym w)
          (subst (Chain (with_tables s d.state.promises d.state.outcomes) e) g (further d m stop (subst (Chain (with_tables s d.state.promises d.state.outcomes) e) q (subst (λ (os : Map KeptOutcome). Chain (with_tables s d.state.promises os) e k) w r))))

      yet : YetHas n a ((c, m) ∷ rest) → Bound s a e (map.insert d.state.promises p (promise.Open (calls ++ c ∷ []))) d.state.outcomes rest d.clearing d.coming d.arisen
      yet (inl k) = Moved (node.Promise p) x y (InOpen (promise_at (Has a) d.state.promises p (calls ++ c ∷ []) (has_last a c calls k.0))) (kept (node.Promise p) (at n (sym k.1) l))
      yet (inr k) = Moved n x y (InYet k) (kept n l)

      by : Place a d.state.promises d.state.outcomes d.yet d.clearing n → Bound s a e (map.insert d.state.promises p (promise.Open (calls ++ c ∷ []))) d.state.outcomes rest d.clearing d.coming d.arisen
      by (InOpen h) = Moved n x y (InOpen (open_waits a d.state.promises d.state.outcomes p calls c j n h)) (kept n l)
      by (InKnown h) = Moved n x y (InKnown h) (kept n l)
      by (InYet h) = yet (subst (YetHas n a) f h)

  bound_holds : (d : Moment) (c : WaitingCall) (m : Node) (rest : List (WaitingCall × Node)) (o : ℕ) (path : List Op) (t : KeptOutcome) → AllStop d.state → d.clearing ≡ None → d.yet ≡ (c, m) ∷ rest → settle d.state m ≡ node.Field o path → map.get d.state.outcomes o ≡ Some t
      → IsBound d → Bound s a e d.state.promises (map.insert d.state.outcomes o (record t { waiting = t.waiting ++ record { path = path; call = c } ∷ [] })) rest d.clearing d.coming d.arisen
  bound_holds d c m rest o path t stop z f g j (Still h) = Still (open_holds a d.state.promises d.state.outcomes o t (record { path = path; call = c }) j e h)
  bound_holds d c m rest o path t stop z f g j (Moved n x y i l) = by i
    where
      kept : (k : Node) → Chain (with_tables s d.state.promises (full d.state.outcomes d.clearing)) e k → Chain (with_tables s d.state.promises (full (map.insert d.state.outcomes o (record t { waiting = t.waiting ++ record { path = path; call = c } ∷ [] })) d.clearing)) e k
      kept k q =
          chain_kept s d.state.promises d.state.promises (full d.state.outcomes d.clearing) (full (map.insert d.state.outcomes o (record t { waiting = t.waiting ++ record { path = path; call = c } ∷ [] })) d.clearing) (same_promises d.state.promises)
          (full_put d.state.outcomes (map.insert d.state.outcomes o (record t { waiting = t.waiting ++ record { path = path; call = c } ∷ [] })) d.clearing (outcome_put d.state.outcomes o t (record t { waiting = t.waiting ++ record { path = path; call = c } ∷ [] }) j (λ v h. h)))
          e k q

      at : (k : Node) → k ≡ m → Chain (with_tables s d.state.promises (full d.state.outcomes d.clearing)) e k → Chain (with_tables s d.state.promises (full d.state.outcomes d.clearing)) e (node.Field o path)
      at k q r =
          let w : full d.state.outcomes d.clearing ≡ d.state.outcomes = ap (full d.state.outcomes) z in
          subst (λ (os : Map KeptOutcome). Chain (with_tables s d.state.promises os) e (node.Field o path)) (sym w)
          (subst (Chain (with_tables s d.state.promises d.state.outcomes) e) g (further d m stop (subst (Chain (with_tables s d.state.promises d.state.outcomes) e) q (subst (λ (os : Map KeptOutcome). Chain (with_tables s d.state.promises os) e k) w r))))

      put : c.outcome ≡ a → OfUnknown path a (map.get (map.insert d.state.outcomes o (record t { waiting = t.waiting ++ record { path = path; call = c } ∷ [] })) o)
      put k =
          at_put (λ j z. j ≡ o → OfUnknown path a z) d.state.outcomes o (record t { waiting = t.waiting ++ record { path = path; call = c } ∷ [] })
          (λ i. (field_unknown d.state m o path t stop g j, held_last path a (record { path = path; call = c }) t.waiting refl k))
          (λ j g i. absurd (let w : nat_eq o o ≡ false = subst (λ (i : ℕ). nat_eq i o ≡ false) i g in let v = itself o in cc))
          o refl

      yet : YetHas n a ((c, m) ∷ rest) → Bound s a e d.state.promises (map.insert d.state.outcomes o (record t { waiting = t.waiting ++ record { path = path; call = c } ∷ [] })) rest d.clearing d.coming d.arisen
      yet (inl k) = Moved (node.Field o path) x y (InOpen (put k.0)) (kept (node.Field o path) (at n (sym k.1) l))
      yet (inr k) = Moved n x y (InYet k) (kept n l)

      by : Place a d.state.promises d.state.outcomes d.yet d.clearing n → Bound s a e d.state.promises (map.insert d.state.outcomes o (record t { waiting = t.waiting ++ record { path = path; call = c } ∷ [] })) rest d.clearing d.coming d.arisen
      by (InOpen h) = Moved n x y (InOpen (open_holds a d.state.promises d.state.outcomes o t (record { path = path; call = c }) j n h)) (kept n l)
      by (InKnown h) = Moved n x y (InKnown h) (kept n l)
      by (InYet h) = yet (subst (YetHas n a) f h)

  -- With an exception no promise is made.
  same_fit : (t : State) (u : ℕ) (who : Caller) (w : List HeldCall) (v fit : Value) (ps : Map Promise) → AllExceptions ((u, v) ∷ []) → Fits t u who w v fit (record t { promises = ps }) → ps ≡ t.promises
  same_fit t u who w (value.Exception x) fit ps i h = ap (λ (z : State). z.promises) h.1
  same_fit t u who w (value.Results payload caps) fit ps i h = absurd i.0

  bound_knows : (d : Moment) (u : ℕ) (v fit : Value) (x : KeptOutcome) (ps : Map Promise) → d.yet ≡ [] → d.clearing ≡ None → d.coming ≡ (u, v) ∷ [] → map.get d.state.outcomes u ≡ Some x → x.value ≡ None → Fits d.state u x.caller x.waiting v fit (record (d.state) { promises = ps })
      → AllExceptions d.arisen → IsBound d → Bound s a e ps (map.insert d.state.outcomes u (kept_known x.caller fit x.waiting)) d.yet (Some (record { outcome = u; caller = x.caller; value = fit; waiting = x.waiting })) [] d.arisen
  bound_knows d u v fit x ps f z w j k q r (Still h) = by (open_knows a d.state u v fit x ps j q e h)
    where
      by : OpenAt a ps (map.insert d.state.outcomes u (kept_known x.caller fit x.waiting)) e ⊎ InCleared a (record { outcome = u; caller = x.caller; value = fit; waiting = x.waiting }) e → Bound s a e ps (map.insert d.state.outcomes u (kept_known x.caller fit x.waiting)) d.yet (Some (record { outcome = u; caller = x.caller; value = fit; waiting = x.waiting })) [] d.arisen
      by (inl i) = Still i
      by (inr i) = Moved e tt r (InKnown i) Itself
  bound_knows d u v fit x ps f z w j k q r (Moved n c y i l) = by i
    where
      same_ps : ps ≡ d.state.promises
      same_ps = same_fit d.state u x.caller x.waiting v fit ps (subst AllExceptions w c) q

      now : KeptOutcome
      now = kept_known x.caller fit x.waiting

      twice : KeepsOutcomes (full d.state.outcomes d.clearing) (map.insert (map.insert d.state.outcomes u (kept_known x.caller fit x.waiting)) u (kept_known x.caller fit x.waiting))
      twice =
          subst (λ (os : Map KeptOutcome). KeepsOutcomes os (map.insert (map.insert d.state.outcomes u (kept_known x.caller fit x.waiting)) u (kept_known x.caller fit x.waiting))) (sym (ap (full d.state.outcomes) z))
          (at_put (λ j z. KeepsOne (map.get d.state.outcomes j) z) (map.insert d.state.outcomes u (kept_known x.caller fit x.waiting)) u (kept_known x.caller fit x.waiting)
          (inr (subst IsSome (sym j) refl, λ v h. absurd (let w : None ≡ Some v = sym (ap value_of j ∙ k) ∙ h in cc)))
          (λ i g. outcome_put d.state.outcomes u x (kept_known x.caller fit x.waiting) j (λ v h. absurd (let w : None ≡ Some v = sym k ∙ h in cc)) i))

      kept : Chain (with_tables s ps (map.insert (map.insert d.state.outcomes u (kept_known x.caller fit x.waiting)) u (kept_known x.caller fit x.waiting))) e n
      kept =
          chain_kept s d.state.promises ps (full d.state.outcomes d.clearing) (map.insert (map.insert d.state.outcomes u (kept_known x.caller fit x.waiting)) u (kept_known x.caller fit x.waiting))
          (subst (KeepsPromises d.state.promises) (sym same_ps) (same_promises d.state.promises)) twice e n l

      at : OpenAt a ps (map.insert d.state.outcomes u (kept_known x.caller fit x.waiting)) n ⊎ InCleared a (record { outcome = u; caller = x.caller; value = fit; waiting = x.waiting }) n → Bound s a e ps (map.insert d.state.outcomes u (kept_known x.caller fit x.waiting)) d.yet (Some (record { outcome = u; caller = x.caller; value = fit; waiting = x.waiting })) [] d.arisen
      at (inl g) = Moved n tt y (InOpen g) kept
      at (inr g) = Moved n tt y (InKnown g) kept

      by : Place a d.state.promises d.state.outcomes d.yet d.clearing n → Bound s a e ps (map.insert d.state.outcomes u (kept_known x.caller fit x.waiting)) d.yet (Some (record { outcome = u; caller = x.caller; value = fit; waiting = x.waiting })) [] d.arisen
      by (InOpen h) = at (open_knows a d.state u v fit x ps j q n h)
      by (InKnown h) = absurd (subst (λ (o : Option Clearing). KnownAt a o n) z h)
      by (InYet h) = absurd (subst (YetHas n a) f h)

  cleared_yet : (x : Clearing) (n : Node) → InCleared a x n → YetHas n a (held_to x.outcome x.waiting)
  cleared_yet x (node.Object o) h = absurd h
  cleared_yet x (node.Promise p) h = absurd h
  cleared_yet x (node.Field o path) h = subst (λ (k : ℕ). YetHas (node.Field k path) a (held_to x.outcome x.waiting)) (sym h.0) (held_has x.outcome path a x.waiting h.1)
  cleared_yet x (node.Import k) h = absurd h
  cleared_yet x (node.Pipe q path) h = absurd h
  cleared_yet x (node.Broken reason) h = absurd h

  bound_clears : (d : Moment) (x : Clearing) → d.yet ≡ [] → d.clearing ≡ Some x → IsStill d.state x → IsBound d → Bound s a e d.state.promises (map.insert d.state.outcomes x.outcome (kept_known x.caller x.value [])) (held_to x.outcome x.waiting) None d.coming d.arisen
  bound_clears d x f z g b = by b
    where
      none : (path : List Op) → OfUnknown path a (map.get d.state.outcomes x.outcome) → ⊥
      none path h = at g
        where
          at : IsStill d.state x → ⊥
          at (inl i) = known_here path a (kept_known x.caller x.value x.waiting) x.value (map.get d.state.outcomes x.outcome) i refl h
          at (inr i) = absurd (subst (OfUnknown path a) i.0 h)

      open_still : (n : Node) → OpenAt a d.state.promises d.state.outcomes n → OpenAt a d.state.promises (map.insert d.state.outcomes x.outcome (kept_known x.caller x.value [])) n
      open_still = open_known a d.state.promises d.state.outcomes (map.insert d.state.outcomes x.outcome (kept_known x.caller x.value [])) x.outcome none (λ j i. Rattle.finite_maps.proofs.Tested.get_other d.state.outcomes x.outcome (kept_known x.caller x.value []) j i)

      back : KeepsOutcomes (full d.state.outcomes d.clearing) (map.insert d.state.outcomes x.outcome (kept_known x.caller x.value []))
      back =
          subst (λ (c : Option Clearing). KeepsOutcomes (full d.state.outcomes c) (map.insert d.state.outcomes x.outcome (kept_known x.caller x.value []))) (sym z)
          (at_put (λ j y. KeepsOne (map.get (map.insert d.state.outcomes x.outcome (kept_known x.caller x.value x.waiting)) j) y) d.state.outcomes x.outcome (kept_known x.caller x.value [])
          (subst (λ (y : Option KeptOutcome). KeepsOne y (Some (kept_known x.caller x.value []))) (sym (Rattle.finite_maps.proofs.Gets.get-insert_same d.state.outcomes x.outcome (kept_known x.caller x.value x.waiting))) (inr (refl, λ v h. h)))
          (λ j i. subst (λ (y : Option KeptOutcome). KeepsOne y (map.get d.state.outcomes j)) (sym (Rattle.finite_maps.proofs.Tested.get_other d.state.outcomes x.outcome (kept_known x.caller x.value x.waiting) j i)) (same_outcomes d.state.outcomes j)))

      by : IsBound d → Bound s a e d.state.promises (map.insert d.state.outcomes x.outcome (kept_known x.caller x.value [])) (held_to x.outcome x.waiting) None d.coming d.arisen
      by (Still h) = Still (open_still e h)
      by (Moved n c y i l) = at i
        where
          kept : Chain (with_tables s d.state.promises (map.insert d.state.outcomes x.outcome (kept_known x.caller x.value []))) e n
          kept = chain_kept s d.state.promises d.state.promises (full d.state.outcomes d.clearing) (map.insert d.state.outcomes x.outcome (kept_known x.caller x.value [])) (same_promises d.state.promises) back e n l

          at : Place a d.state.promises d.state.outcomes d.yet d.clearing n → Bound s a e d.state.promises (map.insert d.state.outcomes x.outcome (kept_known x.caller x.value [])) (held_to x.outcome x.waiting) None d.coming d.arisen
          at (InOpen h) = Moved n c y (InOpen (open_still n h)) kept
          at (InKnown h) = Moved n c y (InYet (cleared_yet x n (subst (λ (o : Option Clearing). KnownAt a o n) z h))) kept
          at (InYet h) = absurd (subst (YetHas n a) f h)

  bound_promise_goes : (d : Moment) (p : ℕ) (to : Node) → d.yet ≡ [] → map.get d.state.promises p ≡ Some (promise.Fixed to) → IsBound d → Bound s a e (map.remove d.state.promises p) d.state.outcomes d.yet d.clearing d.coming d.arisen
  bound_promise_goes d p to f g (Still h) = Still (open_promise_goes a d.state.promises d.state.outcomes p to g e h)
  bound_promise_goes d p to f g (Moved n c y i l) = at i
    where
      kept : Chain (with_tables s (map.remove d.state.promises p) (full d.state.outcomes d.clearing)) e n
      kept = chain_kept s d.state.promises (map.remove d.state.promises p) (full d.state.outcomes d.clearing) (full d.state.outcomes d.clearing) (promise_gone d.state.promises p) (same_outcomes (full d.state.outcomes d.clearing)) e n l

      at : Place a d.state.promises d.state.outcomes d.yet d.clearing n → Bound s a e (map.remove d.state.promises p) d.state.outcomes d.yet d.clearing d.coming d.arisen
      at (InOpen h) = Moved n c y (InOpen (open_promise_goes a d.state.promises d.state.outcomes p to g n h)) kept
      at (InKnown h) = Moved n c y (InKnown h) kept
      at (InYet h) = absurd (subst (YetHas n a) f h)

  bound_outcome_goes : (d : Moment) (u : ℕ) (x : KeptOutcome) (v : Value) → d.yet ≡ [] → map.get d.state.outcomes u ≡ Some x → x.value ≡ Some v → IsBound d → Bound s a e d.state.promises (map.remove d.state.outcomes u) d.yet d.clearing d.coming d.arisen
  bound_outcome_goes d u x v f g k b = by b
    where
      open_still : (n : Node) → OpenAt a d.state.promises d.state.outcomes n → OpenAt a d.state.promises (map.remove d.state.outcomes u) n
      open_still = open_known a d.state.promises d.state.outcomes (map.remove d.state.outcomes u) u (λ path h. known_here path a x v (map.get d.state.outcomes u) g k h) (λ j i. Rattle.finite_maps.proofs.Tested.get_left d.state.outcomes u j i)

      by : IsBound d → Bound s a e d.state.promises (map.remove d.state.outcomes u) d.yet d.clearing d.coming d.arisen
      by (Still h) = Still (open_still e h)
      by (Moved n c y i l) = at i
        where
          kept : Chain (with_tables s d.state.promises (full (map.remove d.state.outcomes u) d.clearing)) e n
          kept = chain_kept s d.state.promises d.state.promises (full d.state.outcomes d.clearing) (full (map.remove d.state.outcomes u) d.clearing) (same_promises d.state.promises) (full_put d.state.outcomes (map.remove d.state.outcomes u) d.clearing (outcome_gone d.state.outcomes u)) e n l

          at : Place a d.state.promises d.state.outcomes d.yet d.clearing n → Bound s a e d.state.promises (map.remove d.state.outcomes u) d.yet d.clearing d.coming d.arisen
          at (InOpen h) = Moved n c y (InOpen (open_still n h)) kept
          at (InKnown h) = Moved n c y (InKnown h) kept
          at (InYet h) = absurd (subst (YetHas n a) f h)

  next_exceptions : (d : Moment) (u : ℕ) (v : Value) (rest : List (ℕ × Value)) → d.arisen ≡ (u, v) ∷ rest → IsBound d → Bound s a e d.state.promises d.state.outcomes d.yet d.clearing ((u, v) ∷ []) rest
  next_exceptions d u v rest f (Still h) = Still h
  next_exceptions d u v rest f (Moved n c y i l) = let k = subst AllExceptions f y in Moved n (k.0, tt) k.1 i l

  abbrev Binds : Moment → Type 0
  Binds new = IsBound new ⊎ (all_waiting a new ≡ 0)

  binds : (d new : Moment) → AllStop d.state → all_waiting a d ≤ 1 → Quiet d → MostOne d.coming d.arisen → IsBound d → Act d new → Binds new
  binds d new stop i q w b (act.Delivers c n rest u f g h) = rw h (bound_goes d c n rest d.arisen f i (λ y. y) b)
  binds d new stop i q w b (act.Waits c n rest p calls f g j h) = let k = busy d (c, n) rest f q in rw h (inl (bound_waits d c n rest p calls stop k.2 f g j b))
  binds d new stop i q w b (act.Holds c n rest u path x f g j h) = let k = busy d (c, n) rest f q in rw h (inl (bound_holds d c n rest u path x stop k.2 f g j b))
  binds d new stop i q w b (act.Relays c n rest k t ds es f g j z h) = rw h (bound_goes d c n rest d.arisen f i (λ y. y) b)
  binds d new stop i q w b (act.Breaks c n rest reason f g h) = rw h (bound_goes d c n rest _ f i (λ y. one_more d.arisen c.outcome _ y) b)
  binds d new stop i q w b (act.NextArisen u v rest f g h) = rw h (inl (next_exceptions d u v rest g b))
  binds d new stop i q w b (act.Knows u v fit x ps f g j k h) =
      rw h (inl (bound_knows d u v fit x ps (ap (λ (m : Moment). m.yet) f) (ap (λ (m : Moment). m.clearing) f) (ap (λ (m : Moment). m.coming) f) g j k (subst (λ (ys : List (ℕ × Value)). MostOne ys d.arisen) (ap (λ (m : Moment). m.coming) f) w) b))
  binds d new stop i q w b (act.Reports c v from f g h) = rw h (inl b)
  binds d new stop i q w b (act.TellsNobody c v f g h) = rw h (inl b)
  binds d new stop i q w b (act.MakesReturn k v x y ds es f g j z h) = rw h (inl b)
  binds d new stop i q w b (act.SendsReturn x y f g j h) = rw h (inl b)
  binds d new stop i q w b (act.Clears x f g h) = rw h (inl (bound_clears d x (ap (λ (m : Moment). m.yet) f) (ap (λ (m : Moment). m.clearing) f) g b))
  binds d new stop i q w b (act.Lists x f h) = rw h (inl b)
  binds d new stop i q w b (act.SendsResolve x rest k es f y g h) = rw h (inl b)
  binds d new stop i q w b (act.SendsBroken x rest reason f g h) = rw h (inl b)
  binds d new stop i q w b (act.PromiseGoes p to y f g h) = rw h (inl (bound_promise_goes d p to (no_yet d y q) f b))
  binds d new stop i q w b (act.OutcomeGoes u x v y f g j k z h) = rw h (inl (bound_outcome_goes d u x v (no_yet d y q) f g b))
  binds d new stop i q w b (act.ImportGoes k x y f g h) = rw h (inl b)
  binds d new stop i q w b (act.Sweeps over f g j h) = rw h (inl b)
  binds d new stop i q w b (act.SendsFinish k x rest f g j z y h) = rw h (inl b)
  binds d new stop i q w b (act.Closes k x rest f g j z y h) = rw h (inl b)
  binds d new stop i q w b (act.Releases y f g h) = rw h (inl b)

  abbrev pub Tracked : Moment → Type 0
  Tracked d = (all_waiting a d ≤ 1) × Quiet d × MostOne d.coming d.arisen × Binds d

  pub tracked : (d new : Moment) → AllStop d.state → Tracked d → Act d new → Tracked new
  tracked d new stop i x =
      let m = no_more a d new x in
      let y = i.0 in
      (omega arith, Rattle.laws_vat_order.proofs.Moving.quiet d new i.1 x, most_one d new i.2 x, by i.3)
    where
      by : Binds d → Binds new
      by (inl b) = binds d new stop i.0 i.1 i.2 b x
      by (inr b) = let m = no_more a d new x in inr (omega arith)
