-- Each small act names objects of a set A alone, and delivers to them alone, if that was so before it.
use Rattle.std.proofs.Common.{◌≡◌, ℕ, Bool, List, [], ◌∷◌, ◌++◌, Option, None, Some, subst}
use Rattle.std.specs.FinMap as map
use Rattle.rpc_msg.specs.declared.ids.ObjectId.{ObjectId}
use Rattle.rpc_machine.specs.rpc_journal.specs.declared.report.Delivery.{Delivery}
use Rattle.rpc_machine.specs.declared.node.Node.{Node}
use Rattle.rpc_machine.specs.declared.node.Node.TheVariants as node
use Rattle.rpc_machine.specs.declared.calls.Promise.TheVariants as promise
use Rattle.rpc_machine.specs.declared.calls.Value.{Value}
use Rattle.rpc_machine.specs.declared.calls.Caller.{Caller}
use Rattle.rpc_machine.specs.declared.calls.Caller.TheVariants as caller
use Rattle.rpc_machine.specs.declared.entries.Question.{Question}
use Rattle.rpc_machine.specs.declared.entries.Returned.{Returned}
use Rattle.finite_maps.specs.Tally.{Map}
use Rattle.rpc_machine.specs.Places.{named_by_calls, named_by_held, named_by_promise, named_by_value, named_by_outcome, named_by_question, named_by_import}
use Rattle.rpc_machine.specs.Progress.{caps_of, numbers}
use Rattle.rpc_machine.specs.Sweeping.{closed_map, got_of}
use Rattle.laws_acts.specs.Moments.{Moment, Clearing, is_of, why_of}
use Rattle.laws_acts.specs.SmallActs.{Act, delivery}
use Rattle.laws_acts.specs.SmallActs as act
use Rattle.laws_steps.proofs.NamedNodes.{AllIn, EachIn, all_none, all_one, all_append, all_left, all_right, each_put, each_cut, each_at}
use Rattle.laws_steps.proofs.NamedPieces.{calls_and}
use Rattle.laws_released.proofs.Held.{In, Names, YetIn, ArisenIn, OwedIn, settles_in, of_value, arisen-append, all_held, held_and, refs_more, goes_out, go_out, says, given_back, fitted, listed}

module _ (w : Bool) (A : ObjectId → Type 0) (b : Option ObjectId) where
  abbrev F : Node → Type 0
  F = In A

  abbrev pub ClearingIn : Option Clearing → Type 0
  ClearingIn None = Unit {0}
  ClearingIn (Some x) = AllIn (In A) (caps_of x.value) × AllIn (In A) (named_by_held x.waiting)

  abbrev pub TellingIn : List (Caller × Value) → Type 0
  TellingIn [] = Unit {0}
  TellingIn (x ∷ xs) = AllIn (In A) (caps_of x.1) × TellingIn xs

  abbrev pub DeliveriesIn : List Delivery → Type 0
  DeliveriesIn [] = Unit {0}
  DeliveriesIn (y ∷ ys) = A y.object × DeliveriesIn ys

  -- At this moment places name objects of A alone, and so does what is owed; and deliveries were to objects of A.
  pub record Holds (d : Moment) : Type 0 where
    pub root : d.state.bootstrap ≡ b
    pub names : Names w A d.state
    pub yet : YetIn w A d.yet
    pub arisen : ArisenIn w A d.arisen
    pub coming : ArisenIn w A d.coming
    pub telling : TellingIn d.telling
    pub clearing : ClearingIn d.clearing
    pub owed : OwedIn w A d.owed
    pub deliveries : DeliveriesIn d.effects.deliveries

  delivered-append : (ys : List Delivery) (z : Delivery) → DeliveriesIn ys → A z.object → DeliveriesIn (ys ++ z ∷ [])
  delivered-append [] z a f = (f, tt)
  delivered-append (y ∷ ys) z a f = (a.0, delivered-append ys z a.1 f)

  closed_in : (m : Map Question) (q : ℕ) (x : Question) (r : Option Returned) → map.get m q ≡ Some x → EachIn F named_by_question m → EachIn F named_by_question (closed_map m q x r)
  closed_in m q x None e a = each_put F named_by_question m q _ (each_at F named_by_question m q x a e) a
  closed_in m q x (Some said) e a = each_cut F named_by_question m q a

  pub acted : (d new : Moment) → Holds d → Act d new → Holds new
  acted d new i (act.Delivers c n rest o e f h) =
      let now : YetIn w A ((c, n) ∷ rest) = subst (YetIn w A) e i.yet in
      let t = i.names in
      let at : F (node.Object o) = subst F f (settles_in w A d.state t n now.0.0) in
      rw h (record {
        root = i.root;
        names = (refs_more w A c.request.caps d.state now.0.1 t.0, t.1, t.2, t.3, t.4, t.5, t.6);
        yet = now.1;
        arisen = i.arisen;
        coming = i.coming;
        telling = i.telling;
        clearing = i.clearing;
        owed = i.owed;
        deliveries = delivered-append d.effects.deliveries (delivery d.state c o) i.deliveries at;
      })
  acted d new i (act.Waits c n rest p calls e f j h) =
      let now : YetIn w A ((c, n) ∷ rest) = subst (YetIn w A) e i.yet in
      let t = i.names in
      let before = each_at F named_by_promise d.state.promises p (promise.Open calls) t.2 j in
      let held : AllIn F (named_by_calls (calls ++ c ∷ [])) = calls_and F calls c (all_right F (node.Promise p ∷ []) (named_by_calls calls) before) now.0.1 in
      rw h (record {
        root = i.root;
        names = (t.0, t.1, each_put F named_by_promise d.state.promises p _ (all_append F (node.Promise p ∷ []) (named_by_calls (calls ++ c ∷ [])) (all_one F (node.Promise p) tt) held) t.2, t.3, t.4, t.5, t.6);
        yet = now.1;
        arisen = i.arisen;
        coming = i.coming;
        telling = i.telling;
        clearing = i.clearing;
        owed = i.owed;
        deliveries = i.deliveries;
      })
  acted d new i (act.Holds c n rest o path x e f j h) =
      let now : YetIn w A ((c, n) ∷ rest) = subst (YetIn w A) e i.yet in
      let t = i.names in
      let before = each_at F named_by_outcome d.state.outcomes o x t.3 j in
      let held = held_and w A x.waiting _ (all_right F (named_by_value x.value) (named_by_held x.waiting) before) now.0.1 in
      rw h (record {
        root = i.root;
        names = (t.0, t.1, t.2, each_put F named_by_outcome d.state.outcomes o _ (all_append F (named_by_value x.value) _ (all_left F (named_by_value x.value) (named_by_held x.waiting) before) held) t.3, t.4, t.5, t.6);
        yet = now.1;
        arisen = i.arisen;
        coming = i.coming;
        telling = i.telling;
        clearing = i.clearing;
        owed = i.owed;
        deliveries = i.deliveries;
      })
  acted d new i (act.Relays c n rest q to ds es e f j k h) =
      let now : YetIn w A ((c, n) ∷ rest) = subst (YetIn w A) e i.yet in
      let t = i.names in
      rw h (record {
        root = i.root;
        names = (t.0, t.1, t.2, t.3, each_put F named_by_question d.state.questions q _ (all_none F) t.4, t.5, go_out w A d.state t d.state.exports c.request.caps ds es now.0.1 t.6 k);
        yet = now.1;
        arisen = i.arisen;
        coming = i.coming;
        telling = i.telling;
        clearing = i.clearing;
        owed = i.owed;
        deliveries = i.deliveries;
      })
  acted d new i (act.Breaks c n rest reason e f h) =
      let now : YetIn w A ((c, n) ∷ rest) = subst (YetIn w A) e i.yet in
      rw h (record {
        root = i.root;
        names = i.names;
        yet = now.1;
        arisen = arisen-append w A d.arisen _ i.arisen (all_none F, tt);
        coming = i.coming;
        telling = i.telling;
        clearing = i.clearing;
        owed = i.owed;
        deliveries = i.deliveries;
      })
  acted d new i (act.NextArisen o v rest e f h) =
      let now : ArisenIn w A ((o, v) ∷ rest) = subst (ArisenIn w A) f i.arisen in
      rw h (record { root = i.root; names = i.names; yet = i.yet; arisen = now.1; coming = (now.0, tt); telling = i.telling; clearing = i.clearing; owed = i.owed; deliveries = i.deliveries })
  acted d new i (act.Knows o v fit x ps e f j k h) =
      let t = i.names in
      let now : ArisenIn w A ((o, v) ∷ []) = subst (λ (m : Moment). ArisenIn w A m.coming) e i.coming in
      let before = each_at F named_by_outcome d.state.outcomes o x t.3 f in
      let held = all_right F (named_by_value x.value) (named_by_held x.waiting) before in
      let so = fitted w A o x.caller x.waiting d.state v fit _ now.0 t.2 k in
      rw h (record {
        root = i.root;
        names = (t.0, t.1, so.1, each_put F named_by_outcome d.state.outcomes o _ (all_append F (named_by_value (Some fit)) (named_by_held x.waiting) (of_value w A fit so.0) held) t.3, t.4, t.5, t.6);
        yet = i.yet;
        arisen = i.arisen;
        coming = tt;
        telling = (so.0, tt);
        clearing = (so.0, held);
        owed = i.owed;
        deliveries = i.deliveries;
      })
  acted d new i (act.Reports c v from e f h) =
      let t = i.names in
      let now : TellingIn ((caller.Application (record { 0 = c }), v) ∷ []) = subst TellingIn e i.telling in
      rw h (record {
        root = i.root;
        names = (refs_more w A (caps_of v) d.state now.0 t.0, t.1, t.2, t.3, t.4, t.5, t.6);
        yet = i.yet;
        arisen = i.arisen;
        coming = i.coming;
        telling = tt;
        clearing = i.clearing;
        owed = i.owed;
        deliveries = i.deliveries;
      })
  acted d new i (act.TellsNobody c v e f h) =
      rw h (record { root = i.root; names = i.names; yet = i.yet; arisen = i.arisen; coming = i.coming; telling = tt; clearing = i.clearing; owed = i.owed; deliveries = i.deliveries })
  acted d new i (act.MakesReturn q v a k ds es e f j l h) =
      let t = i.names in
      let now : TellingIn ((caller.Peer q, v) ∷ []) = subst TellingIn e i.telling in
      rw h (record {
        root = i.root;
        names = (t.0, t.1, t.2, t.3, t.4, t.5, says w A d.state t a.finished v k ds es now.0 l);
        yet = i.yet;
        arisen = i.arisen;
        coming = i.coming;
        telling = tt;
        clearing = i.clearing;
        owed = i.owed;
        deliveries = i.deliveries;
      })
  acted d new i (act.SendsReturn x a e f j h) =
      let t = i.names in
      rw h (record {
        root = i.root;
        names = (t.0, t.1, t.2, t.3, t.4, given_back w A d.state (numbers a.taken) t.5, t.6);
        yet = i.yet;
        arisen = i.arisen;
        coming = i.coming;
        telling = i.telling;
        clearing = i.clearing;
        owed = i.owed;
        deliveries = i.deliveries;
      })
  acted d new i (act.Clears x e f h) =
      let t = i.names in
      let now : ClearingIn (Some x) = subst (λ (m : Moment). ClearingIn m.clearing) e i.clearing in
      rw h (record {
        root = i.root;
        names = (t.0, t.1, t.2, each_put F named_by_outcome d.state.outcomes x.outcome _ (all_append F (named_by_value (Some x.value)) [] (of_value w A x.value now.0) (all_none F)) t.3, t.4, t.5, t.6);
        yet = all_held w A x.outcome x.waiting now.1;
        arisen = i.arisen;
        coming = i.coming;
        telling = i.telling;
        clearing = tt;
        owed = i.owed;
        deliveries = i.deliveries;
      })
  acted d new i (act.Lists x e h) =
      let t = i.names in
      rw h (record {
        root = i.root;
        names = i.names;
        yet = i.yet;
        arisen = i.arisen;
        coming = i.coming;
        telling = i.telling;
        clearing = i.clearing;
        owed = listed w A (why_of x) (is_of x) d.state.exports t.6;
        deliveries = i.deliveries;
      })
  acted d new i (act.SendsResolve x rest z es e f g h) =
      let t = i.names in
      let now : OwedIn w A (x ∷ rest) = subst (OwedIn w A) e i.owed in
      rw h (record {
        root = i.root;
        names = (t.0, t.1, t.2, t.3, t.4, t.5, goes_out w A d.state.exports _ z es (settles_in w A d.state t _ (settles_in w A d.state t x.node now.0)) t.6 g);
        yet = i.yet;
        arisen = i.arisen;
        coming = i.coming;
        telling = i.telling;
        clearing = i.clearing;
        owed = now.1;
        deliveries = i.deliveries;
      })
  acted d new i (act.SendsBroken x rest reason e f h) =
      let now : OwedIn w A (x ∷ rest) = subst (OwedIn w A) e i.owed in
      rw h (record { root = i.root; names = i.names; yet = i.yet; arisen = i.arisen; coming = i.coming; telling = i.telling; clearing = i.clearing; owed = now.1; deliveries = i.deliveries })
  acted d new i (act.PromiseGoes p to g e f h) =
      let t = i.names in
      rw h (record { root = i.root; names = (t.0, t.1, each_cut F named_by_promise d.state.promises p t.2, t.3, t.4, t.5, t.6); yet = i.yet; arisen = i.arisen; coming = i.coming; telling = i.telling; clearing = i.clearing; owed = i.owed; deliveries = i.deliveries })
  acted d new i (act.OutcomeGoes o x v g e f j k l h) =
      let t = i.names in
      rw h (record { root = i.root; names = (t.0, t.1, t.2, each_cut F named_by_outcome d.state.outcomes o t.3, t.4, t.5, t.6); yet = i.yet; arisen = i.arisen; coming = i.coming; telling = i.telling; clearing = i.clearing; owed = i.owed; deliveries = i.deliveries })
  acted d new i (act.ImportGoes z x g e f h) =
      let t = i.names in
      rw h (record { root = i.root; names = (t.0, t.1, t.2, t.3, t.4, each_cut F named_by_import d.state.imports z t.5, t.6); yet = i.yet; arisen = i.arisen; coming = i.coming; telling = i.telling; clearing = i.clearing; owed = i.owed; deliveries = i.deliveries })
  acted d new i (act.Sweeps over e f j h) =
      rw h (record { root = i.root; names = i.names; yet = i.yet; arisen = i.arisen; coming = i.coming; telling = i.telling; clearing = i.clearing; owed = i.owed; deliveries = i.deliveries })
  acted d new i (act.SendsFinish q x rest e f j k l h) =
      let t = i.names in
      rw h (record {
        root = i.root;
        names = (t.0, t.1, t.2, t.3, closed_in d.state.questions q x x.returned f t.4, given_back w A d.state (got_of x.returned) t.5, t.6);
        yet = i.yet;
        arisen = i.arisen;
        coming = i.coming;
        telling = i.telling;
        clearing = i.clearing;
        owed = i.owed;
        deliveries = i.deliveries;
      })
  acted d new i (act.Closes q x rest e f j k l h) =
      let t = i.names in
      rw h (record { root = i.root; names = (t.0, t.1, t.2, t.3, closed_in d.state.questions q x x.returned f t.4, t.5, t.6); yet = i.yet; arisen = i.arisen; coming = i.coming; telling = i.telling; clearing = i.clearing; owed = i.owed; deliveries = i.deliveries })
  acted d new i (act.Releases g e f h) =
      rw h (record { root = i.root; names = i.names; yet = i.yet; arisen = i.arisen; coming = i.coming; telling = i.telling; clearing = i.clearing; owed = i.owed; deliveries = i.deliveries })
