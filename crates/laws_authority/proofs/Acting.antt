-- Each small act leaves the moment covered; where an outcome becomes known, with the promises that it needs.
use Rattle.std.proofs.Common.{◌≡◌, ℕ, ◌+◌, ◌<◌, Bool, true, false, cond, nat_eq, List, [], ◌∷◌, ◌++◌, None, Some, IsSome, refl, sym, ap, subst, ◌∙◌, arith}
use Rattle.std.specs.FinMap as map
use Rattle.finite_maps.specs.Tally.{Map}
use Rattle.finite_maps.proofs.Tested.{itself, get_put, get_other}
use Rattle.rpc_msg.specs.Op.{Op}
use Rattle.rpc_msg.specs.declared.ids.ObjectId.{ObjectId}
use Rattle.rpc_machine.specs.rpc_journal.specs.declared.report.Delivery.{Delivery}
use Rattle.rpc_machine.specs.declared.node.Node.{Node}
use Rattle.rpc_machine.specs.declared.node.Node.TheVariants as node
use Rattle.rpc_machine.specs.declared.calls.WaitingCall.{WaitingCall}
use Rattle.rpc_machine.specs.declared.calls.Value.{Value}
use Rattle.rpc_machine.specs.declared.calls.Caller.{Caller}
use Rattle.rpc_machine.specs.declared.calls.Caller.TheVariants as caller
use Rattle.rpc_machine.specs.declared.entries.AnswerEntry.{AnswerEntry}
use Rattle.rpc_machine.specs.Nodes.{settle}
use Rattle.rpc_machine.specs.Progress.{caps_of}
use Rattle.rpc_machine.specs.Settling.{returned_map}
use Rattle.laws_acts.specs.Moments.{Moment, is_of, why_of}
use Rattle.laws_acts.specs.SmallActs.{Act, Acts, NoMore, Then, delivery}
use Rattle.laws_acts.specs.SmallActs as act
use Rattle.laws_authority.proofs.Covers.{AllIn, all_also, CallIn, CallsIn, PromiseIn, ValueIn, OpenIn, OutcomeIn, AnswerIn, AnswersIn, ClearingIn, YetIn, ArisenIn, ToldIn, TellingIn, OwedIn, DeliveryIn, DeliveriesIn, Covered, settles_in, caps_settle}
use Rattle.laws_authority.proofs.Going.{Cover, calls-append, held-append, arisen-append, all_held, put_promise, cut_promise, put_outcome, cut_outcome, put_answer, cut_answer, goes_out, go_out, says, listed, fields_in, outcomes_wider, embargoes_wider, exports_wider, answers_wider, arisen_wider, deliveries_wider, fitted}

module _ (wide : Bool) (K : ℕ → Type 0) (A : Node → Type 0) where
  -- There are promises that stand in for capabilities, with which the moment is covered.
  pub record Holds (d : Moment) : Type 0 where
    pub ps : List ℕ
    pub covered : Covered wide K (Cover A ps) d

  -- ---- Who is told

  known_open : (qs : List ℕ) (w : Caller) (o : ℕ) (v : Value) → OpenIn wide K (Cover A qs) o w (Some v)
  known_open qs (caller.Application c) o v = tt
  known_open qs (caller.Peer q) o v = tt

  told : (ps qs : List ℕ) (w : Caller) (o : ℕ) (v : Value) → OpenIn wide K (Cover A ps) o w None → ((path : List Op) → A (node.Field o path) → AllIn (Cover A qs) (caps_of v)) → ToldIn wide K (Cover A qs) w v
  told ps qs (caller.Application c) o v i f = tt
  told ps qs (caller.Peer q) o v i f = all_also wide (Cover A qs) (caps_of v) (f [] (i []))

  module _ (ps : List ℕ) where
    abbrev F : Node → Type 0
    F = Cover A ps

    -- ---- A delivery

    pub still_delivered : (m : Map ℕ) (next o : ℕ) (ys : List Delivery) → DeliveriesIn wide K F m next ys → DeliveriesIn wide K F (map.insert m next o) (next + 1) ys
    still_delivered m next o [] a = tt
    still_delivered m next o (y ∷ ys) a =
        let b : y.task.0 < next = a.0.0 in
        let e : nat_eq y.task.0 next ≡ false = grind (arith) in
        ((omega arith, λ u f k. a.0.1 u (sym (get_other m next o y.task.0 e) ∙ f) k, subst IsSome (sym (get_other m next o y.task.0 e)) a.0.2), still_delivered m next o ys a.1)

    pub delivered-append : (m : Map ℕ) (next : ℕ) (ys : List Delivery) (z : Delivery) → DeliveriesIn wide K F m next ys → DeliveryIn wide K F m next z → DeliveriesIn wide K F m next (ys ++ z ∷ [])
    delivered-append m next [] z a b = (b, tt)
    delivered-append m next (y ∷ ys) z a b = (a.0, delivered-append m next ys z a.1 b)

    pub new_task : (m : Map ℕ) (next o : ℕ) → map.get (map.insert m next o) next ≡ Some o
    new_task m next o = get_put m next o next ∙ ap (λ b. cond b (Some o) (map.get m next)) (itself next)

    pub same_task : (m : Map ℕ) (next o u : ℕ) → map.get (map.insert m next o) next ≡ Some u → o ≡ u
    same_task m next o u f =
        let g : Some o ≡ Some u = sym (new_task m next o) ∙ f in
        cc

    returned_in : (m : Map AnswerEntry) (q : ℕ) (a : AnswerEntry) (b : Bool) (ids : List ℕ) → map.get m q ≡ Some a → AnswersIn wide K F m → AnswersIn wide K F (returned_map m q a b ids)
    returned_in m q a true ids e i = cut_answer wide K F m q i
    returned_in m q a false ids e i = put_answer wide K F m q _ (subst (AnswerIn wide K F) e (i q)) i

    -- ---- Acts that need no new promise

    abbrev Same : Moment → Type 0
    Same d = Covered wide K F d

    delivers : (d : Moment) (c : WaitingCall) (n : Node) (rest : List (WaitingCall × Node)) (o : ObjectId) → Same d → d.yet ≡ (c, n) ∷ rest → settle d.state n ≡ node.Object o → CallIn wide K F n c × YetIn wide K F rest × DeliveriesIn wide K F (map.insert d.state.tasks d.state.next_task c.outcome) (d.state.next_task + 1) (d.effects.deliveries ++ delivery d.state c o ∷ [])
    delivers d c n rest o i e f =
        let now : YetIn wide K F ((c, n) ∷ rest) = subst (YetIn wide K F) e i.1.1 in
        let m = map.insert d.state.tasks d.state.next_task c.outcome in
        let this : DeliveryIn wide K F m (d.state.next_task + 1) (delivery d.state c o) = (
          omega arith,
          λ u g k. subst F f (settles_in wide K F d.state i.0 n (now.0.1 (subst K (sym (same_task d.state.tasks d.state.next_task c.outcome u g)) k))),
          subst IsSome (sym (new_task d.state.tasks d.state.next_task c.outcome)) refl,
        ) in
        (now.0, now.1, delivered-append m (d.state.next_task + 1) d.effects.deliveries (delivery d.state c o) (still_delivered d.state.tasks d.state.next_task c.outcome d.effects.deliveries i.2) this)

    kept : (d new : Moment) → Same d → Act d new → Holds new
    kept d new i (act.Delivers c n rest o e f h) =
        let k = delivers d c n rest o i e f in
        record { ps = ps; covered = rw h (i.0, (i.1.0, k.1, i.1.2, i.1.3, i.1.4, i.1.5), k.2) }
    kept d new i (act.Waits c n rest p calls e f j h) =
        let now : YetIn wide K F ((c, n) ∷ rest) = subst (YetIn wide K F) e i.1.1 in
        let before : CallsIn wide K F (node.Promise p) calls = subst (PromiseIn wide K F p) j (i.0.2 p) in
        let this : CallIn wide K F (node.Promise p) c = (now.0.0, λ k. subst F f (settles_in wide K F d.state i.0 n (now.0.1 k))) in
        record {
          ps = ps;
          covered = rw h (
            (i.0.0, i.0.1, put_promise wide K F d.state.promises p _ (calls-append wide K F (node.Promise p) calls _ before (this, tt)) i.0.2, i.0.3, i.0.4),
            (i.1.0, now.1, i.1.2, i.1.3, i.1.4, i.1.5),
            i.2,
          );
        }
    kept d new i (act.Holds c n rest o path x e f j h) =
        let now : YetIn wide K F ((c, n) ∷ rest) = subst (YetIn wide K F) e i.1.1 in
        let before : OutcomeIn wide K F o (Some x) = subst (OutcomeIn wide K F o) j (i.0.3 o) in
        let this : CallIn wide K F (node.Field o path) c = (now.0.0, λ k. subst F f (settles_in wide K F d.state i.0 n (now.0.1 k))) in
        record {
          ps = ps;
          covered = rw h (
            (i.0.0, i.0.1, i.0.2, put_outcome wide K F d.state.outcomes o _ (before.0, before.1, before.2, held-append wide K F o x.waiting _ before.3 (this, tt)) i.0.3, i.0.4),
            (i.1.0, now.1, i.1.2, i.1.3, i.1.4, i.1.5),
            i.2,
          );
        }
    kept d new i (act.Relays c n rest q t ds es e f j k h) =
        let now : YetIn wide K F ((c, n) ∷ rest) = subst (YetIn wide K F) e i.1.1 in
        record {
          ps = ps;
          covered = rw h (
            (go_out wide K F d.state i.0 d.state.exports c.request.caps ds es now.0.0 i.0.0 k, i.0.1, i.0.2, i.0.3, i.0.4),
            (i.1.0, now.1, i.1.2, i.1.3, i.1.4, i.1.5),
            i.2,
          );
        }
    kept d new i (act.Breaks c n rest reason e f h) =
        let now : YetIn wide K F ((c, n) ∷ rest) = subst (YetIn wide K F) e i.1.1 in
        record { ps = ps; covered = rw h (i.0, (i.1.0, now.1, arisen-append wide K F d.arisen _ i.1.2 (λ path a. tt, tt), i.1.3, i.1.4, i.1.5), i.2) }
    kept d new i (act.NextArisen o v rest e f h) =
        let now : ArisenIn wide K F ((o, v) ∷ rest) = subst (ArisenIn wide K F) f i.1.2 in
        record { ps = ps; covered = rw h (i.0, (i.1.0, i.1.1, now.1, (now.0, tt), i.1.4, i.1.5), i.2) }
    kept d new i (act.Knows o v fit x qs e f j k h) =
        let coming : ArisenIn wide K F ((o, v) ∷ []) = subst (λ (m : Moment). ArisenIn wide K F m.coming) e i.1.3 in
        let yet : d.yet ≡ [] = ap (λ (m : Moment). m.yet) e in
        let owed : d.owed ≡ [] = ap (λ (m : Moment). m.owed) e in
        let before : OutcomeIn wide K F o (Some x) = subst (OutcomeIn wide K F o) f (i.0.3 o) in
        let opens : OpenIn wide K F o x.caller None = subst (OpenIn wide K F o x.caller) j before.1 in
        let so = fitted wide K A o x.caller x.waiting ps d.state v fit _ coming.0 i.0.2 k in
        let w = so.wider in
        let all = outcomes_wider wide K A ps so.qs w d.state.outcomes i.0.3 in
        let still : OutcomeIn wide K (Cover A so.qs) o (Some x) = subst (OutcomeIn wide K (Cover A so.qs) o) f (all o) in
        let value : ValueIn wide K (Cover A so.qs) o (Some fit) = λ path a. fields_in A so.qs fit path (so.caps path a) in
        record {
          ps = so.qs;
          covered = rw h (
            (
              exports_wider wide K A ps so.qs w d.state.exports i.0.0,
              answers_wider wide K A ps so.qs w d.state.answers i.0.1,
              so.promises,
              put_outcome wide K (Cover A so.qs) d.state.outcomes o _ (still.0, known_open so.qs x.caller o fit, value, still.3) all,
              embargoes_wider wide K A ps so.qs w d.state.embargoes i.0.4,
            ),
            ((still.0, value, still.3), subst (YetIn wide K (Cover A so.qs)) (sym yet) tt, arisen_wider wide K A ps so.qs w d.arisen i.1.2, tt, (told ps so.qs x.caller o fit opens so.caps, tt), subst (OwedIn wide K (Cover A so.qs)) (sym owed) tt),
            deliveries_wider wide K A ps so.qs w d.state.tasks d.state.next_task d.effects.deliveries i.2,
          );
        }
    kept d new i (act.Reports c v from e f h) = record { ps = ps; covered = rw h (i.0, (i.1.0, i.1.1, i.1.2, i.1.3, tt, i.1.5), i.2) }
    kept d new i (act.TellsNobody c v e f h) = record { ps = ps; covered = rw h (i.0, (i.1.0, i.1.1, i.1.2, i.1.3, tt, i.1.5), i.2) }
    kept d new i (act.MakesReturn q v a b ds es e f j k h) =
        let now : TellingIn wide K F ((caller.Peer q, v) ∷ []) = subst (TellingIn wide K F) e i.1.4 in
        record { ps = ps; covered = rw h ((says wide K F d.state i.0 a.finished v b ds es now.0 k, i.0.1, i.0.2, i.0.3, i.0.4), (i.1.0, i.1.1, i.1.2, i.1.3, tt, i.1.5), i.2) }
    kept d new i (act.SendsReturn x a e f j h) =
        record { ps = ps; covered = rw h ((i.0.0, returned_in d.state.answers x.answer.0 a a.finished _ f i.0.1, i.0.2, i.0.3, i.0.4), i.1, i.2) }
    kept d new i (act.Clears x e f h) =
        let now : ClearingIn wide K F (Some x) = subst (λ (m : Moment). ClearingIn wide K F m.clearing) e i.1.0 in
        record {
          ps = ps;
          covered = rw h (
            (i.0.0, i.0.1, i.0.2, put_outcome wide K F d.state.outcomes x.outcome _ (now.0, known_open ps x.caller x.outcome x.value, now.1, tt) i.0.3, i.0.4),
            (tt, all_held wide K F x.outcome x.waiting now.2, i.1.2, i.1.3, i.1.4, i.1.5),
            i.2,
          );
        }
    kept d new i (act.Lists x e h) =
        record { ps = ps; covered = rw h (i.0, (i.1.0, i.1.1, i.1.2, i.1.3, i.1.4, listed wide K F (why_of x) (is_of x) d.state.exports i.0.0), i.2) }
    kept d new i (act.SendsResolve x rest z es e f g h) =
        let now : OwedIn wide K F (x ∷ rest) = subst (OwedIn wide K F) e i.1.5 in
        record {
          ps = ps;
          covered = rw h (
            (goes_out wide K F d.state.exports _ z es (caps_settle wide K F d.state i.0 _ (caps_settle wide K F d.state i.0 x.node now.0)) i.0.0 g, i.0.1, i.0.2, i.0.3, i.0.4),
            (i.1.0, i.1.1, i.1.2, i.1.3, i.1.4, now.1),
            i.2,
          );
        }
    kept d new i (act.SendsBroken x rest reason e f h) =
        let now : OwedIn wide K F (x ∷ rest) = subst (OwedIn wide K F) e i.1.5 in
        record { ps = ps; covered = rw h (i.0, (i.1.0, i.1.1, i.1.2, i.1.3, i.1.4, now.1), i.2) }
    kept d new i (act.PromiseGoes p to w e f h) = record { ps = ps; covered = rw h ((i.0.0, i.0.1, cut_promise wide K F d.state.promises p i.0.2, i.0.3, i.0.4), i.1, i.2) }
    kept d new i (act.OutcomeGoes o x v w e f j k l h) = record { ps = ps; covered = rw h ((i.0.0, i.0.1, i.0.2, cut_outcome wide K F d.state.outcomes o i.0.3, i.0.4), i.1, i.2) }
    kept d new i (act.ImportGoes z x w e f h) = record { ps = ps; covered = rw h i }
    kept d new i (act.Sweeps over e f j h) = record { ps = ps; covered = rw h i }
    kept d new i (act.SendsFinish q x rest e f j k l h) = record { ps = ps; covered = rw h i }
    kept d new i (act.Closes q x rest e f j k l h) = record { ps = ps; covered = rw h i }
    kept d new i (act.Releases w e f h) = record { ps = ps; covered = rw h i }

  pub acted : (d new : Moment) → Holds d → Act d new → Holds new
  acted d new k a = kept k.ps d new k.covered a

  pub all_acted : (last d : Moment) → Acts last d → Holds d → Holds last
  all_acted last d NoMore k = k
  all_acted last d (Then {mid = mid} a rest) k = all_acted last mid rest (acted d mid k a)
