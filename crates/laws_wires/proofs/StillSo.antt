-- What was sent means it still, at the next moment of a step.
use Rattle.std.specs.FinMap as map
use Rattle.std.specs.FinMap.Entries as entries
use Rattle.std.specs.Ordering.{nat_cmp}
use Rattle.std.proofs.Common.{◌≡◌, inl, ℕ, Bool, true, false, cond, List, [], ◌∷◌, ◌++◌, Option, None, Some, refl, sym, subst, ap, ◌∙◌, T}
use Rattle.finite_maps.specs.Tally.{Map}
use Rattle.finite_maps.proofs.Sorted.{behind, first_entry, later_entry, sorted_tail}
use Rattle.finite_maps.proofs.Tested.{at_put, equal, get_left}
use Rattle.rpc_msg.specs.declared.exception.Exception.{Exception}
use Rattle.rpc_msg.specs.declared.ids.Vat.{Vat}
use Rattle.rpc_msg.specs.declared.parts.Descriptor.{Descriptor}
use Rattle.rpc_msg.specs.declared.parts.Descriptor.TheVariants as descriptor
use Rattle.rpc_msg.specs.declared.parts.Target.{Target}
use Rattle.rpc_msg.specs.declared.parts.Target.TheVariants.{ImportedCap, PromisedAnswer}
use Rattle.rpc_msg.specs.declared.message.PlainMessage.{PlainMessage}
use Rattle.rpc_msg.specs.declared.message.PlainMessage.TheVariants as plain
use Rattle.rpc_msg.specs.declared.message.Message.{Message}
use Rattle.rpc_msg.specs.declared.message.Message.TheVariants as message
use Rattle.rpc_msg.specs.Messages.{descriptors_of_body, descriptors_of_resolved}
use Rattle.rpc_journal.specs.Sources.{Asking}
use Rattle.rpc_journal.specs.Meaning.{History}
use Rattle.rpc_machine.specs.declared.node.Node.{Node}
use Rattle.rpc_machine.specs.declared.node.Node.TheVariants as node
use Rattle.rpc_machine.specs.declared.calls.Caller.{Caller}
use Rattle.rpc_machine.specs.declared.calls.Caller.TheVariants as caller
use Rattle.rpc_machine.specs.declared.calls.KeptOutcome.{KeptOutcome}
use Rattle.rpc_machine.specs.declared.calls.Promise.{Promise}
use Rattle.rpc_machine.specs.declared.calls.Value.{Value}
use Rattle.rpc_machine.specs.declared.entries.Export.{Export}
use Rattle.rpc_machine.specs.Descriptors.{export_node}
use Rattle.rpc_machine.specs.Nodes.{is_promise, is_field}
use Rattle.rpc_machine.specs.Places.{names, named_by_export, places}
use Rattle.rpc_machine.specs.Settling.{exports_where}
use Rattle.rpc_machine.specs.State.{State}
use Rattle.laws_acts.specs.Moments.{Moment, Saying, Settled, ThePromise, TheOutcome, Owing, is_of, owing}
use Rattle.laws_acts.specs.SmallActs.{release_messages}
use Rattle.laws_routes.proofs.ExportsGrown.{Grown, none_grown}
use Rattle.laws_steps.proofs.Among.{named, none_among, in_exports}
use Rattle.laws_meanings.specs.NodeMeanings.{Meant, field_meant}
use Rattle.laws_meanings.specs.NodeLabels.{Labels, field_label, label}
use Rattle.laws_meanings.proofs.Labelled.{soft_value}
use Rattle.laws_wires.specs.Wires.{Session, export_label}
use Rattle.laws_wires.specs.SentWires.{own_label, own_target}
use Rattle.laws_wires.specs.Sent.{IsOurs, AreOurs, IsKept, SaysSo, AllSaySo, SayingSo, IsToldSo, AllToldSo, IsAwaited, CallerSo, HasLabel, IsOwed, AllOwed, IsSettledSo, AreWeaker}
use Rattle.laws_wires.proofs.SentSo.{Weak, EachWeak, call_weak, return_weak, resolve_weak, export_node_grown, ours_at, all_ours_grown}

-- ---- Promises that are kept

pub kept_all : (P Q : Map Promise) → ((p : ℕ) (y : Promise) → map.get P p ≡ Some y → IsKept Q (node.Promise p)) → (n : Node) → IsKept P n → IsKept Q n
kept_all P Q f (node.Object o) k = tt
kept_all P Q f (node.Promise p) k = f p k.0 k.1
kept_all P Q f (node.Field o path) k = tt
kept_all P Q f (node.Import e) k = tt
kept_all P Q f (node.Pipe q path) k = tt
kept_all P Q f (node.Broken reason) k = tt

pub kept_put : (P : Map Promise) (k : ℕ) (x : Promise) (p : ℕ) (y : Promise) → map.get P p ≡ Some y → IsKept (map.insert P k x) (node.Promise p)
kept_put P k x p y f = at_put (λ j o. (z : Promise) → map.get P j ≡ Some z → (w : Promise) × (o ≡ Some w)) P k x (λ z g. (x, refl)) (λ j b z g. (z, g)) p y f

kept_cut : (P : Map Promise) (k : ℕ) (n : Node) → is_promise k n ≡ false → IsKept P n → IsKept (map.remove P k) n
kept_cut P k (node.Object o) e i = tt
kept_cut P k (node.Promise p) e i = (i.0, get_left P k p e ∙ i.1)
kept_cut P k (node.Field o path) e i = tt
kept_cut P k (node.Import j) e i = tt
kept_cut P k (node.Pipe q path) e i = tt
kept_cut P k (node.Broken reason) e i = tt

-- Where no place names the promise.
pub kept_unnamed : (s : State) (p : ℕ) → names s (is_promise p) ≡ 0 → (e : ℕ) (x : Export) → map.get s.exports e ≡ Some x → IsKept s.promises x.node → IsKept (map.remove s.promises p) x.node
kept_unnamed s p none e x f k = kept_cut s.promises p x.node (none_among (is_promise p) (places s) none x.node (in_exports s x.node (named named_by_export e x x.node s.exports f (inl refl)))) k

module _ (h : History) (v : Vat) (l : Labels) (said : ℕ → Session) (ps : ℕ → Option Meant) where
  abbrev m : Labels
  m = record l { promise = ps }

  -- From these exports and promises to those.
  pub record Onto (E F : Map Export) (P Q : Map Promise) : Type 0 where
    pub weak : AreWeaker l P ps
    pub grown : Grown E F
    pub kept : (e : ℕ) (x : Export) → map.get E e ≡ Some x → IsKept P x.node → IsKept Q x.node

  pub onto_same : (E : Map Export) (P : Map Promise) → AreWeaker l P ps → Onto E E P P
  onto_same E P a = record { weak = a; grown = none_grown E; kept = λ e x f k. k }

  pub awaited_still : (o : ℕ) (c : Caller) (x : Option Value) → IsAwaited h v l said o c x → IsAwaited h v m said o c x
  awaited_still o (caller.Application c) x k = tt
  awaited_still o (caller.Peer q) None k = k
  awaited_still o (caller.Peer q) (Some x) k = tt

  pub callers_still : (o : ℕ) (x : Option KeptOutcome) → CallerSo h v l said o x → CallerSo h v m said o x
  callers_still o None k = tt
  callers_still o (Some x) k = awaited_still o x.caller x.value k

  pub awaited_known : (o : ℕ) (c : Caller) (x : Value) → IsAwaited h v m said o c (Some x)
  awaited_known o (caller.Application c) x = tt
  awaited_known o (caller.Peer q) x = tt

  target_same : (E F : Map Export) (t : Target) → own_target h v m F t ≡ own_target h v l E t
  target_same E F (ImportedCap e) = refl
  target_same E F (PromisedAnswer q path) = refl

  module _ (E F : Map Export) (P Q : Map Promise) (w : Onto E F P Q) where
    label_weak : (n : Node) → Weak (label h v l n) (label h v m n)
    label_weak (node.Object o) = inl refl
    label_weak (node.Promise p) = let a = w.weak in a.weaker p
    label_weak (node.Field o path) = inl refl
    label_weak (node.Import e) = inl refl
    label_weak (node.Pipe q path) = inl refl
    label_weak (node.Broken reason) = inl refl

    pub label_same : (n : Node) → IsKept P n → label h v m n ≡ label h v l n
    label_same (node.Object o) k = refl
    label_same (node.Promise p) k = let a = w.weak in a.same p k.0 k.1
    label_same (node.Field o path) k = refl
    label_same (node.Import e) k = refl
    label_same (node.Pipe q path) k = refl
    label_same (node.Broken reason) k = refl

    export_weak : (e : ℕ) (x : Export) → map.get E e ≡ Some x → Weak (export_label h v l E e) (export_label h v m F e)
    export_weak e x f = subst (λ (n : Node). Weak (label h v l (export_node (map.get E e))) (label h v m n)) (sym (export_node_grown h v l E F w.grown e x f)) (label_weak (export_node (map.get E e)))

    own_weak : (d : Descriptor) → IsOurs E d → Weak (own_label h v l E d) (own_label h v m F d)
    own_weak descriptor.None k = inl refl
    own_weak (descriptor.SenderHosted e) k = export_weak e.0 k.0 k.1
    own_weak (descriptor.SenderPromise e) k = export_weak e.0 k.0 k.1
    own_weak (descriptor.ReceiverHosted e) k = inl refl
    own_weak (descriptor.ReceiverAnswer q path) k = inl refl

    each_weak : (ds : List Descriptor) → AreOurs E ds → EachWeak h (own_label h v l E) (own_label h v m F) ds
    each_weak ds k i d e = own_weak d (ours_at E ds i d k e)

    export_same : (e : ℕ) (x : Export) → map.get E e ≡ Some x → IsKept P x.node → export_label h v m F e ≡ export_label h v l E e
    export_same e x f k =
        let y = w.grown.still e x f in
        ap (label h v m) (ap export_node y.1 ∙ y.2) ∙ label_same x.node k ∙ ap (label h v l) (sym (ap export_node f))

    pub says_still : (x : PlainMessage) → SaysSo h v l E P said x → SaysSo h v m F Q said x
    says_still (plain.Abort exception) k = k
    says_still (plain.Bootstrap q) k = k
    says_still (plain.Call c) k = (
      call_weak h (own_label h v l E) (own_label h v m F) v c.stamp (own_target h v l E c.target) (own_target h v m F c.target) c.descriptors (target_same E F c.target) (each_weak c.descriptors k.1) k.0,
      all_ours_grown E F w.grown c.descriptors k.1,
      tt,
    )
    says_still (plain.Return r) k =
        let y = k.0 in (
          (y.0, y.1, return_weak h (own_label h v l E) (own_label h v m F) y.0 r.body (each_weak (descriptors_of_body r.body) k.1) y.2),
          all_ours_grown E F w.grown (descriptors_of_body r.body) k.1,
          tt,
        )
    says_still (plain.Finish x) k = k
    says_still (plain.Resolve r) k =
        let it = k.2 in
        let y = w.grown.still r.promise.0 it.0 it.1 in (
          resolve_weak h (own_label h v l E) (own_label h v m F) (export_label h v l E r.promise.0) (export_label h v m F r.promise.0) r.to (export_same r.promise.0 it.0 it.1 it.2)
              (each_weak (descriptors_of_resolved r.to) k.1) k.0,
          all_ours_grown E F w.grown (descriptors_of_resolved r.to) k.1,
          (y.0, y.1, subst (IsKept Q) (sym y.2) (w.kept r.promise.0 it.0 it.1 it.2)),
        )
    says_still (plain.Release r) k = k
    says_still (plain.Disembargo x) k = k
    says_still (plain.Other n) k = k

    pub all_still : (xs : List Message) → AllSaySo h v l E P said xs → AllSaySo h v m F Q said xs
    all_still [] k = tt
    all_still (message.Plain x ∷ xs) k = (says_still x k.0, all_still xs k.1)
    all_still (message.Unimplemented x ∷ xs) k = (k.0, all_still xs k.1)

    pub saying_still : (x : Option Saying) → SayingSo h v l E P said x → SayingSo h v m F Q said x
    saying_still None k = tt
    saying_still (Some x) k = says_still (plain.Return (record { answer = x.answer; release_param_caps = false; body = x.body })) k

    told_one : (c : Caller) (x : Value) → IsToldSo h v l said c x → IsToldSo h v m said c x
    told_one (caller.Application c) x k = tt
    told_one (caller.Peer q) x k = let a = w.weak in (k.0, k.1, soft_value h v l ps a.weaker k.0 x k.2)

    pub told_still : (xs : List (Caller × Value)) → AllToldSo h v l said xs → AllToldSo h v m said xs
    told_still [] k = tt
    told_still (x ∷ xs) k = (told_one x.0 x.1 k.0, told_still xs k.1)

    owed_one : (x : Owing) → IsOwed h v l E P x → IsOwed h v m F Q x
    owed_one x k =
        let y = w.grown.still x.export k.0 k.1 in
        let z = k.4 in
        (y.0, y.1, y.2 ∙ k.2, subst (IsKept Q) (sym y.2) (w.kept x.export k.0 k.1 k.3), (z.0, ap (label h v m) y.2 ∙ label_same (k.0).node k.3 ∙ z.1))

    pub owed_still : (xs : List Owing) → AllOwed h v l E P xs → AllOwed h v m F Q xs
    owed_still [] k = tt
    owed_still (x ∷ xs) k = (owed_one x k.0, owed_still xs k.1)

    pub stays : (e : ℕ) (x : Export) → map.get E e ≡ Some x
        → (y : Export) × (map.get F e ≡ Some y) × (y.node ≡ x.node) × (IsKept P x.node → IsKept Q x.node × (label h v m x.node ≡ label h v l x.node))
    stays e x f = let y = w.grown.still e x f in (y.0, y.1, y.2, λ k. (w.kept e x f k, label_same x.node k))

  pub all-append : (F : Map Export) (Q : Map Promise) (xs ys : List Message) → AllSaySo h v m F Q said xs → AllSaySo h v m F Q said ys → AllSaySo h v m F Q said (xs ++ ys)
  all-append F Q [] ys i j = j
  all-append F Q (message.Plain x ∷ xs) ys i j = (i.0, all-append F Q xs ys i.1 j)
  all-append F Q (message.Unimplemented x ∷ xs) ys i j = (i.0, all-append F Q xs ys i.1 j)

  pub all_released : (F : Map Export) (Q : Map Promise) (xs : List (ℕ × ℕ)) → AllSaySo h v m F Q said (release_messages xs)
  all_released F Q [] = tt
  all_released F Q (x ∷ xs) = ((tt, tt, tt), all_released F Q xs)

  -- ---- What was settled

  pub record Alike (d new : Moment) : Type 0 where
    pub settled : new.settled ≡ d.settled
    pub saying : new.saying ≡ d.saying
    pub telling : d.telling ≡ [] → new.telling ≡ []
    pub swept : new.swept ≡ d.swept

  has_still : (P Q : Map Promise) (E F : Map Export) → AreWeaker l P ps → ((p : ℕ) (y : Promise) → map.get P p ≡ Some y → IsKept Q (node.Promise p)) → (x : Settled) → HasLabel h v l E P x → HasLabel h v m F Q x
  has_still P Q E F a f (ThePromise p why) k =
      let here = k.0 in
      let y = k.1 in
      (f p here.0 here.1, (y.0, a.same p here.0 here.1 ∙ y.1))
  has_still P Q E F a f (TheOutcome o) k = k

  pub settled_still : (d new : Moment) → Alike d new → AreWeaker l d.state.promises ps → ((p : ℕ) (y : Promise) → map.get d.state.promises p ≡ Some y → IsKept new.state.promises (node.Promise p)) → IsSettledSo h v l d d.settled → IsSettledSo h v m new new.settled
  settled_still d new same a f k = subst (IsSettledSo h v m new) (sym same.settled) (by d.settled k)
    where
      by : (o : Option Settled) → IsSettledSo h v l d o → IsSettledSo h v m new o
      by None i = tt
      by (Some x) i = (same.saying ∙ i.0, same.telling i.1, same.swept ∙ i.2, has_still d.state.promises new.state.promises d.state.exports new.state.exports a f x i.3)

  -- Where something is said, or goes, nothing was settled.
  pub settled_not : (d new : Moment) → new.settled ≡ d.settled → ((d.saying ≡ None) → (d.telling ≡ []) → (d.swept ≡ false) → ⊥) → IsSettledSo h v l d d.settled → IsSettledSo h v m new new.settled
  settled_not d new same never k = subst (IsSettledSo h v m new) (sym same) (by d.settled k)
    where
      by : (o : Option Settled) → IsSettledSo h v l d o → IsSettledSo h v m new o
      by None i = tt
      by (Some x) i = absurd (never i.0 i.1 i.2)

  pub settled_none : (new : Moment) → new.settled ≡ None → IsSettledSo h v m new new.settled
  settled_none new e = subst (IsSettledSo h v m new) (sym e) tt

-- ---- What is of it

module _ (h : History) (v : Vat) (l : Labels) (E : Map Export) (P : Map Promise) where
  abbrev Means : Node → Type 0
  Means n = IsKept P n × ((y : Meant) × (label h v l n ≡ Some y))

  promise_means : (p : ℕ) (n : Node) → is_promise p n ≡ true → Means (node.Promise p) → Means n
  promise_means p (node.Object o) e k = let bad : false ≡ true = e in cc
  promise_means p (node.Promise q) e k = subst (λ (i : ℕ). Means (node.Promise i)) (sym (equal q p e)) k
  promise_means p (node.Field o path) e k = let bad : false ≡ true = e in cc
  promise_means p (node.Import i) e k = let bad : false ≡ true = e in cc
  promise_means p (node.Pipe q path) e k = let bad : false ≡ true = e in cc
  promise_means p (node.Broken reason) e k = let bad : false ≡ true = e in cc

  field_means : (o : ℕ) (a : Vat × Asking) (n : Node) → is_field o n ≡ true → l.outcome o ≡ Some a → Means n
  field_means o a (node.Object i) e k = let bad : false ≡ true = e in cc
  field_means o a (node.Promise q) e k = let bad : false ≡ true = e in cc
  field_means o a (node.Field i path) e k = (tt, (field_meant h a.0 a.1 path, ap (λ (z : Session). field_label h z path) (ap l.outcome (equal i o e) ∙ k)))
  field_means o a (node.Import i) e k = let bad : false ≡ true = e in cc
  field_means o a (node.Pipe q path) e k = let bad : false ≡ true = e in cc
  field_means o a (node.Broken reason) e k = let bad : false ≡ true = e in cc

  of_it : (x : Settled) → HasLabel h v l E P x → (n : Node) → is_of x n ≡ true → Means n
  of_it (ThePromise p why) k n e = promise_means p n e k
  of_it (TheOutcome o) k n e = field_means o k.0 n e k.1

  pub listed : (x : Settled) (why : Option Exception) → HasLabel h v l E P x → (es : List (ℕ × Export)) → T (entries.is_sorted nat_cmp es) → ((e : ℕ) (y : Export) → entries.find nat_cmp e es ≡ Some y → map.get E e ≡ Some y)
      → AllOwed h v l E P (owing why (exports_where (is_of x) es))
  listed x why k [] o f = tt
  listed x why k (y ∷ ys) o f =
      let r = sorted_tail y.0 ys o in
      by (f y.0 y.1 (first_entry y ys)) (listed x why k ys r.1 (λ e z g. f e z (later_entry y ys e (behind y.0 ys e z r.0 g) ∙ g))) (is_of x y.1.node) refl
    where
      by : map.get E y.0 ≡ Some y.1 → AllOwed h v l E P (owing why (exports_where (is_of x) ys)) → (t : Bool) → is_of x y.1.node ≡ t
          → AllOwed h v l E P (owing why (cond t ((y.0, y.1.node) ∷ exports_where (is_of x) ys) (exports_where (is_of x) ys)))
      by at r true e = let i = of_it x k y.1.node e in ((y.1, at, refl, i.0, i.1), r)
      by at r false e = r
