-- Each small act keeps what nodes mean.
use Rattle.std.proofs.Common.{◌≡◌, ◌⊎◌, inl, inr, ℕ, ◌+◌, ◌-◌, Bool, true, false, cond, nat_le, Option, None, Some, List, [], ◌∷◌, ◌++◌, refl, sym, ap, ◌∙◌, subst}
use Rattle.std.specs.FinMap as map
use Rattle.finite_maps.specs.Tally.{Map}
use Rattle.finite_maps.proofs.Tested.{at_put, at_cut}
use Rattle.rpc_msg.specs.declared.ids.Vat.{Vat}
use Rattle.rpc_msg.specs.declared.ids.Stamp.{Stamp}
use Rattle.rpc_msg.specs.Paths.{fields}
use Rattle.rpc_journal.specs.declared.report.Delivery.{Delivery}
use Rattle.rpc_journal.specs.declared.report.Ended.{Ended}
use Rattle.rpc_journal.specs.History as history
use Rattle.rpc_journal.specs.Sources.{Asking, OfCall}
use Rattle.rpc_journal.specs.Meaning.{History, Broken}
use Rattle.rpc_machine.specs.declared.node.Node.{Node}
use Rattle.rpc_machine.specs.declared.node.Node.TheVariants as node
use Rattle.rpc_machine.specs.declared.node.Reason.{Reason}
use Rattle.rpc_machine.specs.declared.calls.Caller.{Caller}
use Rattle.rpc_machine.specs.declared.calls.Caller.TheVariants as caller
use Rattle.rpc_machine.specs.declared.calls.HeldCall.{HeldCall}
use Rattle.rpc_machine.specs.declared.calls.KeptOutcome.{KeptOutcome}
use Rattle.rpc_machine.specs.declared.calls.Promise.{Promise}
use Rattle.rpc_machine.specs.declared.calls.Promise.TheVariants as promise
use Rattle.rpc_machine.specs.declared.calls.Value.{Value}
use Rattle.rpc_machine.specs.declared.calls.Value.TheVariants as value
use Rattle.rpc_machine.specs.declared.calls.WaitingCall.{WaitingCall}
use Rattle.rpc_machine.specs.declared.entries.Finishing.TheVariants as finishing
use Rattle.rpc_machine.specs.declared.entries.Import.{Import}
use Rattle.rpc_machine.specs.declared.entries.Question.{Question}
use Rattle.rpc_machine.specs.declared.entries.Reference.{Reference}
use Rattle.rpc_machine.specs.declared.entries.Returned.{Returned}
use Rattle.rpc_machine.specs.declared.entries.Role.TheVariants as role
use Rattle.rpc_machine.specs.declared.command.Effects.{Effects}
use Rattle.rpc_machine.specs.State.{State}
use Rattle.rpc_machine.specs.Flags.{flag_for, give_one, give_each, give_if, give_back}
use Rattle.rpc_machine.specs.Nodes.{settle}
use Rattle.rpc_machine.specs.Progress.{outcome_of, caps_of, new_refs, numbers}
use Rattle.rpc_machine.specs.Routing.{failed, reason_text}
use Rattle.rpc_machine.specs.Sweeping.{closed_map, got_of}
use Rattle.laws_acts.specs.Moments.{Moment, held_to}
use Rattle.laws_acts.specs.FirstActs.{asked}
use Rattle.laws_acts.specs.SmallActs.{Act, IsStill, kept_known, delivery, Acts, NoMore, Then}
use Rattle.laws_acts.specs.SmallActs as act
use Rattle.laws_meanings.specs.NodeMeanings.{Meant, Itself, OfRef, Leads, Breaks}
use Rattle.laws_meanings.specs.Identities.{DeliveredIn}
use Rattle.laws_meanings.specs.MessageMeanings.{EachActMeans}
use Rattle.laws_meanings.specs.NodeLabels.{Labels, IsIn, Means, CallAt, CallsAt, HeldAt, ValueMeans, IsGiven, IsEndOf, RefMeans, PromiseMeans, CallerIs, ValueIs, OutcomeMeans, TaskMeans, QuestionMeans, ImportMeans, RoutedMean, ComingMeans, IsToldOf, TellingMeans, ClearingMeans, MomentMeans, ActsKeepMeanings}
use Rattle.laws_meanings.proofs.Labelled.{in-before, in-behind, settles, calls-append, held-append, coming-append, led-append, given-before, given-behind, ended-before, ended-behind, ends-append, all_refs, at_new, soft_ref, soft_held, soft_outcome, soft_embargo, soft_task, soft_own, soft_question, soft_import, soft_coming, soft_caller, soft_promises, soft_unsettled, still_unsettled}
use Rattle.laws_meanings.proofs.Fitting.{Fitted, fitted}

-- ---- Tables that lose entries

module _ (P : ℕ → Option Import → Type 0) (none : (e : ℕ) → P e None) (fewer : (e : ℕ) (x : Import) (n : ℕ) → P e (Some x) → P e (Some (record x { count = n }))) where
  gives_one : (m : Map Import) (e : ℕ) (o : Option Import) → map.get m e ≡ o → ((k : ℕ) → P k (map.get m k)) → (k : ℕ) → P k (map.get (give_one m e o) k)
  gives_one m e None f i = i
  gives_one m e (Some x) f i = by (nat_le x.count 1)
    where
      by : (b : Bool) → (k : ℕ) → P k (map.get (cond b (map.remove m e) (map.insert m e (record x { count = x.count - 1 }))) k)
      by true = at_cut P m e (none e) (λ k n. i k)
      by false = at_put P m e (record x { count = x.count - 1 }) (fewer e x (x.count - 1) (subst (P e) f (i e))) (λ k n. i k)

  gives_each : (m : Map Import) (ids : List ℕ) → ((k : ℕ) → P k (map.get m k)) → (k : ℕ) → P k (map.get (give_each m ids) k)
  gives_each m [] i = i
  gives_each m (e ∷ es) i = gives_each (give_one m e (map.get m e)) es (gives_one m e (map.get m e) refl i)

  pub gives_back : (s : State) (ids : List ℕ) → ((k : ℕ) → P k (map.get s.imports k)) → (k : ℕ) → P k (map.get (give_back s ids).imports k)
  gives_back s ids i = by (flag_for s ids)
    where
      by : (b : Bool) → (k : ℕ) → P k (map.get (give_if s b ids).imports k)
      by true = gives_each s.imports ids i
      by false = i

module _ (h : History) (v : Vat) (l : Labels) where
  imports_left : (s : State) (ids : List ℕ) → ((k : ℕ) → ImportMeans h v l k (map.get s.imports k)) → (k : ℕ) → ImportMeans h v l k (map.get (give_back s ids).imports k)
  imports_left s ids i = gives_back (λ k o. ImportMeans h v l k o) (λ e. tt) (λ e x n j. j) s ids i

  closes : (m : Map Question) (q : ℕ) (x : Question) (r : Option Returned) → map.get m q ≡ Some x → ((k : ℕ) → QuestionMeans h v l k (map.get m k)) → (k : ℕ) → QuestionMeans h v l k (map.get (closed_map m q x r) k)
  closes m q x None f i = at_put (λ k o. QuestionMeans h v l k o) m q (record x { finish = finishing.Sent }) (subst (QuestionMeans h v l q) f (i q)) (λ k n. i k)
  closes m q x (Some said) f i = at_cut (λ k o. QuestionMeans h v l k o) m q tt (λ k n. i k)

  -- ---- References that are given

  more_given : (e : Effects) (d : Delivery) (k : ℕ) (o : Option Reference) → RefMeans h v l e k o → RefMeans h v l (record e { deliveries = e.deliveries ++ d ∷ [] }) k o
  more_given e d k None i = tt
  more_given e d k (Some y) i = (i.0, by i.1, i.2)
    where
      by : ((i.0 ≡ OfRef (record { vat = v; number = k })) ⊎ (IsGiven h v k i.0 e.deliveries ⊎ IsEndOf h v k i.0 e.answers)) → (i.0 ≡ OfRef (record { vat = v; number = k })) ⊎ (IsGiven h v k i.0 (e.deliveries ++ d ∷ []) ⊎ IsEndOf h v k i.0 e.answers)
      by (inl a) = inl a
      by (inr (inl a)) = inr (inl (given-before h v k i.0 e.deliveries (d ∷ []) a))
      by (inr (inr a)) = inr (inr a)

  more_tasks : (e : Effects) (d : Delivery) (t : ℕ) (o : Option ℕ) → TaskMeans h v l e t o → TaskMeans h v l (record e { deliveries = e.deliveries ++ d ∷ [] }) t o
  more_tasks e d t None i = tt
  more_tasks e d t (Some o) i = (i.0, by i.1, i.2)
    where
      by : (DeliveredIn h.journal v t i.0 ⊎ IsIn t i.0 e.deliveries) → DeliveredIn h.journal v t i.0 ⊎ IsIn t i.0 (e.deliveries ++ d ∷ [])
      by (inl a) = inl a
      by (inr a) = inr (in-before t i.0 e.deliveries (d ∷ []) a)

  still_tasks : (e : Effects) (d : Ended) (t : ℕ) (o : Option ℕ) → TaskMeans h v l e t o → TaskMeans h v l (record e { answers = e.answers ++ d ∷ [] }) t o
  still_tasks e d t None i = tt
  still_tasks e d t (Some o) i = i

  more_ended : (e : Effects) (d : Ended) (k : ℕ) (o : Option Reference) → RefMeans h v l e k o → RefMeans h v l (record e { answers = e.answers ++ d ∷ [] }) k o
  more_ended e d k None i = tt
  more_ended e d k (Some y) i = (i.0, by i.1, i.2)
    where
      by : ((i.0 ≡ OfRef (record { vat = v; number = k })) ⊎ (IsGiven h v k i.0 e.deliveries ⊎ IsEndOf h v k i.0 e.answers)) → (i.0 ≡ OfRef (record { vat = v; number = k })) ⊎ (IsGiven h v k i.0 e.deliveries ⊎ IsEndOf h v k i.0 (e.answers ++ d ∷ []))
      by (inl a) = inl a
      by (inr (inl a)) = inr (inl a)
      by (inr (inr a)) = inr (inr (ended-before h v k i.0 e.answers (d ∷ []) a))

  routed_held : (o : ℕ) (xs : List HeldCall) → HeldAt h v l o xs → RoutedMean h v l (held_to o xs)
  routed_held o [] i = tt
  routed_held o (x ∷ xs) i = (i.0, routed_held o xs i.1)

  -- A call that breaks, and what comes of it.
  broken_value : (u : Vat) (s : Stamp) (why : Reason) → Leads h (Itself Broken) (OfRef (history.caller s)) → ValueMeans h v l (u, OfCall s) (value.Exception (failed (reason_text why)))
  broken_value u s why i = (λ path. Breaks s (fields path) refl i, λ k n e. let bad : ◌≡◌ {A = Option Node} None (Some n) = e in cc, inr i)

  told : (o : ℕ) (who : Caller) (a : Vat × Asking) (x : Value) → CallerIs h v l o who → l.outcome o ≡ Some a → ValueMeans h v l a x → IsToldOf h v l who x
  told o (caller.Application c) a x i e j =
      let same : (v, i.0) ≡ a = let g : Some (v, i.0) ≡ Some a = sym i.2 ∙ e in cc in
      (i.0, i.1, subst (λ (z : Vat × Asking). ValueMeans h v l z x) (sym same) j)
  told o (caller.Peer q) a x i e j = tt

-- ---- Acts

abbrev Kept : History → Vat → Labels → Moment → Moment → Type 0
Kept h v l d new = (ps : ℕ → Option Meant) × ((p : ℕ) (y : Promise) → map.get d.state.promises p ≡ Some y → ps p ≡ l.promise p) × ((p : ℕ) → (ps p ≡ l.promise p) ⊎ (ps p ≡ None)) × MomentMeans h v (record l { promise = ps }) new

abbrev AllKept : History → Vat → Labels → Moment → Type 0
AllKept h v l last = (ps : ℕ → Option Meant) × MomentMeans h v (record l { promise = ps }) last

module _ (h : History) (v : Vat) (l : Labels) where
  abbrev same : Moment → Type 0
  same new = MomentMeans h v l new

  keeps : (d new : Moment) → MomentMeans h v l new → Kept h v l d new
  keeps d new i = (l.promise, (λ p y e. refl), (λ p. inl refl), i)

  goes : (d : Moment) (c : WaitingCall) (n m : Node) → MomentMeans h v l d → CallAt h v l n c → settle d.state n ≡ m → CallAt h v l m c
  goes d c n m i y e = (y.0, y.1, subst (Means h v l (OfRef (history.caller c.request.stamp))) e (settles h v l d.state i.0.1 i.0.3 (OfRef (history.caller c.request.stamp)) n y.2))

  acted : (d new : Moment) → MomentMeans h v l d → Act d new → Kept h v l d new
  acted d new i (act.Delivers c n rest o e f k) =
      let s = d.state in
      let y : CallAt h v l n c × RoutedMean h v l rest = subst (RoutedMean h v l) e i.1 in
      let z = goes d c n (node.Object o) i y.0 f in
      let x = delivery s c o in
      let more = record (d.effects) { deliveries = d.effects.deliveries ++ x ∷ [] } in
      let refs = all_refs (λ j r. RefMeans h v l more j r) s c.request.caps (λ j. more_given h v l d.effects x j (map.get s.refs j) (i.0.0 j))
      (λ j m g. let b = y.0.1 j m g in (b.0, inr (inl (given-behind h v (s.next_ref + j) b.0 d.effects.deliveries (x ∷ []) (inl (j, at_new s.next_ref c.request.caps j m g, b.1)))), b.2))
      in
      keeps d new (rw k ((refs, i.0.1, i.0.2, i.0.3, i.0.4, at_put (λ j t. TaskMeans h v l more j t) s.tasks s.next_task c.outcome (c.request.stamp, inr (in-behind s.next_task c.request.stamp d.effects.deliveries (x ∷ []) (inl (refl, refl))), y.0.0) (λ j g. more_tasks h v l d.effects x j (map.get s.tasks j) (i.0.5 j)), i.0.6, i.0.7, i.0.8), y.1, i.2, i.3, i.4, led-append h v d.effects.deliveries (x ∷ []) i.5 (z.2, tt), i.6, i.7))
  acted d new i (act.Waits c n rest p calls e f j k) =
      let s = d.state in
      let y : CallAt h v l n c × RoutedMean h v l rest = subst (RoutedMean h v l) e i.1 in
      let was : CallsAt h v l (node.Promise p) calls = subst (PromiseMeans h v l p) j (i.0.1 p) in
      let x = promise.Open (calls ++ c ∷ []) in
      let ps = map.insert s.promises p x in
      let opens = at_put (λ (q : ℕ) (r : Option Promise). (cs : List WaitingCall) → map.get s.promises q ≡ Some (promise.Open cs) → (ds : List WaitingCall) × (r ≡ Some (promise.Open ds))) s.promises p x (λ cs g. (calls ++ c ∷ [], refl)) (λ q g cs m. (cs, m)) in
      keeps d new (rw k ((i.0.0, at_put (λ q r. PromiseMeans h v l q r) s.promises p x (calls-append h v l (node.Promise p) calls (c ∷ []) was (goes d c n (node.Promise p) i y.0 f, tt)) (λ q g. i.0.1 q), (λ q. still_unsettled h v l s.promises ps opens q (map.get s.unsettled q) (i.0.2 q)), i.0.3, i.0.4, i.0.5, i.0.6, i.0.7, i.0.8), y.1, i.2, i.3, i.4, i.5, i.6, i.7))
  acted d new i (act.Holds c n rest u path x e f j k) =
      let s = d.state in
      let y : CallAt h v l n c × RoutedMean h v l rest = subst (RoutedMean h v l) e i.1 in
      let was : OutcomeMeans h v l u (Some x) = subst (OutcomeMeans h v l u) j (i.0.3 u) in
      let z : HeldCall = record { path = path; call = c } in
      let w : KeptOutcome = record x { waiting = x.waiting ++ z ∷ [] } in
      keeps d new (rw k ((i.0.0, i.0.1, i.0.2, at_put (λ q r. OutcomeMeans h v l q r) s.outcomes u w (was.0, was.1, held-append h v l u x.waiting (z ∷ []) was.2 (goes d c n (node.Field u path) i y.0 f, tt)) (λ q g. i.0.3 q), i.0.4, i.0.5, i.0.6, i.0.7, i.0.8), y.1, i.2, i.3, i.4, i.5, i.6, i.7))
  acted d new i (act.Relays c n rest q t ds es e f j k u) =
      let s = d.state in
      let y : CallAt h v l n c × RoutedMean h v l rest = subst (RoutedMean h v l) e i.1 in
      keeps d new (rw u ((i.0.0, i.0.1, i.0.2, i.0.3, i.0.4, i.0.5, i.0.6, at_put (λ b r. QuestionMeans h v l b r) s.questions q (asked (role.Relay c.outcome) ds) (c.request.stamp, y.0.0) (λ b g. i.0.7 b), i.0.8), y.1, i.2, i.3, i.4, i.5, i.6, i.7))
  acted d new i (act.Breaks c n rest reason e f u) =
      let y : CallAt h v l n c × RoutedMean h v l rest = subst (RoutedMean h v l) e i.1 in
      let z = goes d c n (node.Broken reason) i y.0 f in
      let o = y.0.0 in
      keeps d new (rw u (i.0, y.1, coming-append h v l d.arisen _ i.2 (((o.0, OfCall c.request.stamp), o.1, broken_value h v l o.0 c.request.stamp reason z.2), tt), i.3, i.4, i.5, i.6, i.7))
  acted d new i (act.NextArisen o w rest e f u) =
      let y : ComingMeans h v l ((o, w) ∷ rest) = subst (ComingMeans h v l) f i.2 in
      keeps d new (rw u (i.0, i.1, y.1, (y.0, tt), i.4, i.5, i.6, i.7))
  acted d new i (act.Knows o w fit x ps e f j k u) =
      let s = d.state in
      let y : ComingMeans h v l ((o, w) ∷ []) = subst (λ (m : Moment). ComingMeans h v l m.coming) e i.3 in
      let a = y.0.0 in
      let z : Fitted h v l s.promises ps a fit = fitted h v l a s o x.caller x.waiting w fit (record s { promises = ps }) k y.0.2 in
      let g = z.untangled in
      let m : Labels = record l { promise = g.means } in
      let was : OutcomeMeans h v l o (Some x) = subst (OutcomeMeans h v l o) f (i.0.3 o) in
      let who = soft_caller h v l g.means g.weaker o x.caller was.0 in
      let it : KeptOutcome = kept_known x.caller fit x.waiting in
      let outcomes = at_put (λ q r. OutcomeMeans h v m q r) s.outcomes o it (who, (a, y.0.1, z.means), soft_held h v l g.means g.weaker o x.waiting was.2) (λ q n. soft_outcome h v l g.means g.weaker q (map.get s.outcomes q) (i.0.3 q)) in
      let no_calls : d.yet ≡ [] = ap (λ (b : Moment). b.yet) e in (
        g.means,
        λ p y e. (g.same p y e).0,
        g.weaker,
        rw u (
          (
            λ q. soft_ref h v l g.means g.weaker d.effects q (map.get s.refs q) (i.0.0 q),
            soft_promises h v l g.means g.weaker s.promises ps g.same g.news i.0.1,
            λ q. soft_unsettled h v l g.means g.weaker s.promises ps g.same q (map.get s.unsettled q) (i.0.2 q),
            outcomes,
            λ q. soft_embargo h v l g.means g.weaker (map.get s.embargoes q) (i.0.4 q),
            λ q. soft_task h v l g.means g.weaker d.effects q (map.get s.tasks q) (i.0.5 q),
            λ q. soft_own h v l g.means g.weaker q (map.get s.calls q) (i.0.6 q),
            λ q. soft_question h v l g.means g.weaker q (map.get s.questions q) (i.0.7 q),
            λ q. soft_import h v l g.means g.weaker q (map.get s.imports q) (i.0.8 q),
          ),
          subst (RoutedMean h v m) (sym no_calls) tt,
          soft_coming h v l g.means g.weaker d.arisen i.2,
          tt,
          (told h v m o x.caller a fit who y.0.1 z.means, tt),
          i.5,
          (who, (a, y.0.1, z.means)),
          i.7,
        ),
      )
  acted d new i (act.Reports c w from e f u) =
      let s = d.state in
      let y : TellingMeans h v l ((caller.Application (record { 0 = c }), w) ∷ []) = subst (TellingMeans h v l) e i.4 in
      let z = y.0 in
      let x : Ended = record { call = record { 0 = c }; outcome = outcome_of w; refs = new_refs s.next_ref (caps_of w) } in
      let more = record (d.effects) { answers = d.effects.answers ++ x ∷ [] } in
      let refs = all_refs (λ j r. RefMeans h v l more j r) s (caps_of w) (λ j. more_ended h v l d.effects x j (map.get s.refs j) (i.0.0 j))
      (λ j m g. let b = z.2.1 j m g in (b.0, inr (inr (ended-behind h v (s.next_ref + j) b.0 d.effects.answers (x ∷ []) (inl (j, at_new s.next_ref (caps_of w) j m g, (z.0, z.1, b.1))))), b.2))
      in
      keeps d new (rw u ((refs, i.0.1, i.0.2, i.0.3, i.0.4, (λ j. still_tasks h v l d.effects x j (map.get s.tasks j) (i.0.5 j)), i.0.6, i.0.7, i.0.8), i.1, i.2, i.3, tt, i.5, i.6, ends-append h v d.effects.answers (x ∷ []) i.7 ((z.0, z.1, z.2.2), tt)))
  acted d new i (act.TellsNobody c w e f u) = keeps d new (rw u (i.0, i.1, i.2, i.3, tt, i.5, i.6, i.7))
  acted d new i (act.MakesReturn q w a b ds es e f j k u) = keeps d new (rw u (i.0, i.1, i.2, i.3, tt, i.5, i.6, i.7))
  acted d new i (act.SendsReturn x a e f j u) =
      keeps d new (rw u ((i.0.0, i.0.1, i.0.2, i.0.3, i.0.4, i.0.5, i.0.6, i.0.7, imports_left h v l d.state (numbers a.taken) i.0.8), i.1, i.2, i.3, i.4, i.5, i.6, i.7))
  acted d new i (act.Clears x e f u) =
      let s = d.state in
      let is : CallerIs h v l x.outcome x.caller × ValueIs h v l x.outcome (Some x.value) = subst (λ (m : Moment). ClearingMeans h v l m.clearing) e i.6 in
      let outcomes = at_put (λ q r. OutcomeMeans h v l q r) s.outcomes x.outcome (kept_known x.caller x.value []) (is.0, is.1, tt) (λ q g. i.0.3 q) in
      keeps d new (rw u ((i.0.0, i.0.1, i.0.2, outcomes, i.0.4, i.0.5, i.0.6, i.0.7, i.0.8), routed_held h v l x.outcome x.waiting (by f), i.2, i.3, i.4, i.5, tt, i.7))
    where
      by : IsStill d.state x → HeldAt h v l x.outcome x.waiting
      by (inl g) = let z : OutcomeMeans h v l x.outcome (Some (kept_known x.caller x.value x.waiting)) = subst (OutcomeMeans h v l x.outcome) g (i.0.3 x.outcome) in z.2
      by (inr g) = subst (HeldAt h v l x.outcome) (sym g.1) tt
  acted d new i (act.Lists x e u) = keeps d new (rw u i)
  acted d new i (act.SendsResolve x rest k es e w f u) = keeps d new (rw u i)
  acted d new i (act.SendsBroken x rest reason e f u) = keeps d new (rw u i)
  acted d new i (act.PromiseGoes p to w e f u) =
      let s = d.state in
      let opens = at_cut (λ (q : ℕ) (r : Option Promise). (cs : List WaitingCall) → map.get s.promises q ≡ Some (promise.Open cs) → (ds : List WaitingCall) × (r ≡ Some (promise.Open ds))) s.promises p (λ cs g. absurd (let bad : Some (promise.Fixed to) ≡ Some (promise.Open cs) = sym e ∙ g in cc)) (λ q g cs m. (cs, m)) in
      keeps d new (rw u ((i.0.0, at_cut (λ q r. PromiseMeans h v l q r) s.promises p tt (λ q g. i.0.1 q), (λ q. still_unsettled h v l s.promises (map.remove s.promises p) opens q (map.get s.unsettled q) (i.0.2 q)), i.0.3, i.0.4, i.0.5, i.0.6, i.0.7, i.0.8), i.1, i.2, i.3, i.4, i.5, i.6, i.7))
  acted d new i (act.OutcomeGoes o x w a e f j k b u) =
      keeps d new (rw u ((i.0.0, i.0.1, i.0.2, at_cut (λ q r. OutcomeMeans h v l q r) d.state.outcomes o tt (λ q g. i.0.3 q), i.0.4, i.0.5, i.0.6, i.0.7, i.0.8), i.1, i.2, i.3, i.4, i.5, i.6, i.7))
  acted d new i (act.ImportGoes b x w e f u) =
      keeps d new (rw u ((i.0.0, i.0.1, i.0.2, i.0.3, i.0.4, i.0.5, i.0.6, i.0.7, at_cut (λ q r. ImportMeans h v l q r) d.state.imports b tt (λ q g. i.0.8 q)), i.1, i.2, i.3, i.4, i.5, i.6, i.7))
  acted d new i (act.Sweeps over e f j u) = keeps d new (rw u i)
  acted d new i (act.SendsFinish q x rest e f j w k u) =
      keeps d new (rw u ((i.0.0, i.0.1, i.0.2, i.0.3, i.0.4, i.0.5, i.0.6, closes h v l d.state.questions q x x.returned f i.0.7, imports_left h v l d.state (got_of x.returned) i.0.8), i.1, i.2, i.3, i.4, i.5, i.6, i.7))
  acted d new i (act.Closes q x rest e f j w k u) =
      keeps d new (rw u ((i.0.0, i.0.1, i.0.2, i.0.3, i.0.4, i.0.5, i.0.6, closes h v l d.state.questions q x x.returned f i.0.7, i.0.8), i.1, i.2, i.3, i.4, i.5, i.6, i.7))
  acted d new i (act.Releases a e f u) = keeps d new (rw u i)

all_keep : (last : Moment) (h : History) (v : Vat) (l : Labels) (d : Moment) → Acts last d → MomentMeans h v l d → AllKept h v l last
all_keep last h v l d NoMore i = (l.promise, i)
all_keep last h v l d (Then {mid = mid} a rest) i = let z = acted h v l d mid i a in all_keep last h v (record l { promise = z.0 }) mid rest z.3

pub acts_mean : ActsKeepMeanings
acts_mean h v l d last acts i = all_keep last h v l d acts i

pub each_act_means : EachActMeans
each_act_means h v l d new a i = acted h v l d new i a
