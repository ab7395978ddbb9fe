-- What nodes mean at a vat is so in a history that says more.
use Rattle.std.proofs.Common.{◌≡◌, ◌⊎◌, inl, inr, ℕ, Option, None, Some, List, [], ◌∷◌, refl, ap, subst}
use Rattle.std.specs.FinMap as map
use Rattle.rpc_msg.specs.declared.ids.Vat.{Vat}
use Rattle.rpc_msg.specs.declared.ids.Stamp.{Stamp}
use Rattle.rpc_msg.specs.Op.{Op}
use Rattle.rpc_journal.specs.declared.report.Delivery.{Delivery}
use Rattle.rpc_journal.specs.declared.report.Ended.{Ended}
use Rattle.rpc_journal.specs.History as history
use Rattle.rpc_journal.specs.Sources.{Asking, OfBootstrap, OfCall, SentWith, EndedWith}
use Rattle.rpc_journal.specs.Meaning.{History, Broken}
use Rattle.rpc_machine.specs.declared.node.Node.{Node}
use Rattle.rpc_machine.specs.declared.node.Node.TheVariants as node
use Rattle.rpc_machine.specs.declared.calls.Caller.{Caller}
use Rattle.rpc_machine.specs.declared.calls.Caller.TheVariants as caller
use Rattle.rpc_machine.specs.declared.calls.HeldCall.{HeldCall}
use Rattle.rpc_machine.specs.declared.calls.KeptOutcome.{KeptOutcome}
use Rattle.rpc_machine.specs.declared.calls.OwnCall.{OwnCall}
use Rattle.rpc_machine.specs.declared.calls.OwnCall.TheVariants as own
use Rattle.rpc_machine.specs.declared.calls.Promise.{Promise}
use Rattle.rpc_machine.specs.declared.calls.Promise.TheVariants as promise
use Rattle.rpc_machine.specs.declared.calls.Value.{Value}
use Rattle.rpc_machine.specs.declared.calls.WaitingCall.{WaitingCall}
use Rattle.rpc_machine.specs.declared.entries.Embargo.{Embargo}
use Rattle.rpc_machine.specs.declared.entries.Import.{Import}
use Rattle.rpc_machine.specs.declared.entries.Question.{Question}
use Rattle.rpc_machine.specs.declared.entries.Reference.{Reference}
use Rattle.rpc_machine.specs.declared.entries.Resolution.{Resolution}
use Rattle.rpc_machine.specs.declared.entries.Role.{Role}
use Rattle.rpc_machine.specs.declared.entries.Role.TheVariants as role
use Rattle.rpc_machine.specs.declared.entries.Returned.{Returned}
use Rattle.rpc_machine.specs.declared.command.Effects.{Effects}
use Rattle.rpc_machine.specs.State.{State}
use Rattle.rpc_machine.specs.Nodes.{field_of}
use Rattle.rpc_machine.specs.Advancing.{Known, known_by_resolve, known_by_return}
use Rattle.rpc_machine.specs.Advancing as known
use Rattle.laws_acts.specs.Moments.{Moment, Clearing}
use Rattle.laws_runs.specs.Meanings.{with_more}
use Rattle.laws_runs.proofs.Extends.{Extends, extends}
use Rattle.laws_meanings.specs.Identities.{DeliveredIn}
use Rattle.laws_meanings.specs.NodeMeanings.{Meant, Itself, OfRef, field_meant}
use Rattle.laws_meanings.specs.NodeLabels.{Labels, IsIn, field_label, LeadsTo, IsAnsweredOrBroken, EndsAreLed, IsGiven, IsEndOf, AreLed, label, Means, MeansKnown, CapsMean, CallAt, CallsAt, HeldAt, ValueMeans, RefMeans, PromiseMeans, IsUnsettled, CallerIs, ValueIs, OutcomeMeans, EmbargoMeans, TaskMeans, OwnCallMeans, BackMeans, QuestionMeans, ResolvedMeans, ImportMeans, Places, RoutedMean, ComingMeans, IsToldOf, TellingMeans, ClearingMeans, MomentMeans}
use Rattle.laws_meanings.specs.LastingMeanings.{PlacesLast, MomentsLast}
use Rattle.laws_meanings.proofs.Links.{leads_still, end_still, field_still, source_still}
use Rattle.laws_meanings.proofs.LastAsked.{ahead}

-- ---- What is led

module _ (h k : History) (e : Extends h k) where
  to_still : (x : Meant) (o : Option Meant) → LeadsTo h x o → LeadsTo k x o
  to_still x None i = tt
  to_still x (Some y) i = leads_still h k e y x i

  pub answered_still : (a : Asking) → IsAnsweredOrBroken h a → IsAnsweredOrBroken k a
  answered_still OfBootstrap i = tt
  answered_still (OfCall s) (inl i) = inl (i.0, e.answer s i.0 i.1)
  answered_still (OfCall s) (inr i) = inr (leads_still h k e (Itself Broken) (OfRef (history.caller s)) i)

  module _ (v : Vat) where
    pub ends_still : (xs : List Ended) → EndsAreLed h v xs → EndsAreLed k v xs
    ends_still [] i = tt
    ends_still (x ∷ xs) i = let z = i.0 in ((z.0, e.asking v x.call.0 z.0 z.1, answered_still z.0 z.2), ends_still xs i.1)

    given_still : (n : ℕ) (x : Meant) (ds : List Delivery) → IsGiven h v n x ds → IsGiven k v n x ds
    given_still n x [] i = absurd i
    given_still n x (d ∷ ds) (inl i) = inl (i.0, i.1, source_still h k e v (SentWith d.stamp i.0) x i.2)
    given_still n x (d ∷ ds) (inr i) = inr (given_still n x ds i)

    ended_still : (n : ℕ) (x : Meant) (es : List Ended) → IsEndOf h v n x es → IsEndOf k v n x es
    ended_still n x [] i = absurd i
    ended_still n x (y ∷ ys) (inl i) = inl (i.0, i.1, source_still h k e v (EndedWith y.call.0 i.0) x i.2)
    ended_still n x (y ∷ ys) (inr i) = inr (ended_still n x ys i)

    pub led_still : (ds : List Delivery) → AreLed h v ds → AreLed k v ds
    led_still [] i = tt
    led_still (d ∷ ds) i = (leads_still h k e _ (OfRef (history.caller d.stamp)) i.0, led_still ds i.1)

-- ---- What is meant

module _ (h k : History) (e : Extends h k) (v : Vat) (l : Labels) where
  meant_still : (o : Option (Vat × Asking)) (path : List Op) → field_label h o path ≡ field_label k o path
  meant_still None path = refl
  meant_still (Some a) path = ap (λ (y : Meant). Some y) (field_still h k e a.0 path a.1)

  label_still : (n : Node) → label h v l n ≡ label k v l n
  label_still (node.Object o) = refl
  label_still (node.Promise p) = refl
  label_still (node.Field o path) = meant_still (l.outcome o) path
  label_still (node.Import q) = refl
  label_still (node.Pipe q path) = meant_still (l.question q.0) path
  label_still (node.Broken reason) = refl

  pub means_still : (x : Meant) (n : Node) → Means h v l x n → Means k v l x n
  means_still x n i = subst (λ (o : Option Meant). LeadsTo k x o) (label_still n) (to_still h k e x (label h v l n) i)

  known_still : (x : Meant) (z : Known) → MeansKnown h v l x z → MeansKnown k v l x z
  known_still x known.NothingYet i = tt
  known_still x (known.IsBroken reason) i = leads_still h k e (Itself Broken) x i
  known_still x (known.Leads by n) i = means_still x n i

  caps_still : (s : Stamp) (caps : List Node) → CapsMean h v l s caps → CapsMean k v l s caps
  caps_still s caps i j n f = let z = i j n f in (z.0, source_still h k e v (SentWith s j) z.0 z.1, means_still z.0 n z.2)

  call_still : (n : Node) (c : WaitingCall) → CallAt h v l n c → CallAt k v l n c
  call_still n c i = (i.0, caps_still c.request.stamp c.request.caps i.1, means_still (OfRef (history.caller c.request.stamp)) n i.2)

  calls_still : (n : Node) (cs : List WaitingCall) → CallsAt h v l n cs → CallsAt k v l n cs
  calls_still n [] i = tt
  calls_still n (c ∷ cs) i = (call_still n c i.0, calls_still n cs i.1)

  held_still : (o : ℕ) (xs : List HeldCall) → HeldAt h v l o xs → HeldAt k v l o xs
  held_still o [] i = tt
  held_still o (x ∷ xs) i = (call_still (node.Field o x.path) x.call i.0, held_still o xs i.1)

  value_still : (a : Vat × Asking) (x : Value) → ValueMeans h v l a x → ValueMeans k v l a x
  value_still a x i = (
    λ path. subst (λ (y : Meant). Means k v l y (field_of x path)) (field_still h k e a.0 path a.1) (means_still (field_meant h a.0 a.1 path) (field_of x path) (i.0 path)),
    λ j n f. let z = i.1 j n f in (z.0, end_still h k e a.0 j a.1 z.0 z.1, means_still z.0 n z.2),
    answered_still h k e a.1 i.2,
  )

  -- ---- What a vat holds

  module _ (x : Effects) where
    given_so : (n : ℕ) (y : Meant) → (y ≡ OfRef (record { vat = v; number = n })) ⊎ (IsGiven h v n y x.deliveries ⊎ IsEndOf h v n y x.answers) → (y ≡ OfRef (record { vat = v; number = n })) ⊎ (IsGiven k v n y x.deliveries ⊎ IsEndOf k v n y x.answers)
    given_so n y (inl i) = inl i
    given_so n y (inr (inl i)) = inr (inl (given_still h k e v n y x.deliveries i))
    given_so n y (inr (inr i)) = inr (inr (ended_still h k e v n y x.answers i))

    ref_still : (n : ℕ) (o : Option Reference) → RefMeans h v l x n o → RefMeans k v l x n o
    ref_still n None i = tt
    ref_still n (Some y) i = (i.0, given_so n i.0 i.1, means_still i.0 y.head i.2)

    task_still : ((t : ℕ) (s : Stamp) → DeliveredIn h.journal v t s → DeliveredIn k.journal v t s) → (t : ℕ) (o : Option ℕ) → TaskMeans h v l x t o → TaskMeans k v l x t o
    task_still f t None i = tt
    task_still f t (Some o) i = (i.0, by i.1, i.2)
      where
        by : DeliveredIn h.journal v t i.0 ⊎ IsIn t i.0 x.deliveries → DeliveredIn k.journal v t i.0 ⊎ IsIn t i.0 x.deliveries
        by (inl j) = inl (f t i.0 j)
        by (inr j) = inr j

  promise_still : (p : ℕ) (o : Option Promise) → PromiseMeans h v l p o → PromiseMeans k v l p o
  promise_still p None i = tt
  promise_still p (Some (promise.Open calls)) i = calls_still (node.Promise p) calls i
  promise_still p (Some (promise.Fixed to)) i = (i.0, i.1, means_still i.0 to i.2)

  unsettled_still : (ps : ℕ → Option Promise) (n : ℕ) (o : Option ℕ) → IsUnsettled h v l ps n o → IsUnsettled k v l ps n o
  unsettled_still ps n None i = tt
  unsettled_still ps n (Some p) i = i

  caller_still : (o : ℕ) (c : Caller) → CallerIs h v l o c → CallerIs k v l o c
  caller_still o (caller.Application c) i = (i.0, e.asking v c.0 i.0 i.1, i.2)
  caller_still o (caller.Peer q) i = tt

  value_is_still : (o : ℕ) (x : Option Value) → ValueIs h v l o x → ValueIs k v l o x
  value_is_still o None i = tt
  value_is_still o (Some x) i = (i.0, i.1, value_still i.0 x i.2)

  outcome_still : (o : ℕ) (x : Option KeptOutcome) → OutcomeMeans h v l o x → OutcomeMeans k v l o x
  outcome_still o None i = tt
  outcome_still o (Some x) i = (caller_still o x.caller i.0, value_is_still o x.value i.1, held_still o x.waiting i.2)

  embargo_still : (x : Option Embargo) → EmbargoMeans h v l x → EmbargoMeans k v l x
  embargo_still None i = tt
  embargo_still (Some b) i = (calls_still b.node b.waiting i.0, means_still (OfRef (record { vat = v; number = b.reference.0 })) b.node i.1)

  own_still : (c : ℕ) (o : Option OwnCall) → OwnCallMeans h v l c o → OwnCallMeans k v l c o
  own_still c None i = tt
  own_still c (Some (own.Direct q)) i = (i.0, e.asking v c i.0 i.1, i.2)
  own_still c (Some (own.Kept o)) i = (i.0, e.asking v c i.0 i.1, i.2)

  said_still : (a : Vat × Asking) (r : Option Returned) → ((path : List Op) → MeansKnown h v l (field_meant h a.0 a.1 path) (known_by_return path r)) → (path : List Op) → MeansKnown k v l (field_meant k a.0 a.1 path) (known_by_return path r)
  said_still a r i path = subst (λ (y : Meant). MeansKnown k v l y (known_by_return path r)) (field_still h k e a.0 path a.1) (known_still (field_meant h a.0 a.1 path) (known_by_return path r) (i path))

  back_still : (q : ℕ) (x : Role) (r : Option Returned) → BackMeans h v l q x r → BackMeans k v l q x r
  back_still q (role.Direct c) r i = (i.0, e.asking v c.0 i.0 i.1, i.2, said_still (v, i.0) r i.3)
  back_still q (role.Relay o) r i = i

  question_still : (q : ℕ) (o : Option Question) → QuestionMeans h v l q o → QuestionMeans k v l q o
  question_still q None i = tt
  question_still q (Some x) i = back_still q x.role x.returned i

  resolved_still : (o : Option Meant) (r : Option Resolution) → ResolvedMeans h v l o r → ResolvedMeans k v l o r
  resolved_still None r i = i
  resolved_still (Some y) r i = known_still y (known_by_resolve r) i

  import_still : (q : ℕ) (o : Option Import) → ImportMeans h v l q o → ImportMeans k v l q o
  import_still q None i = tt
  import_still q (Some x) i = resolved_still (l.import q) x.resolution i

  module _ (tasks : (t : ℕ) (s : Stamp) → DeliveredIn h.journal v t s → DeliveredIn k.journal v t s) where
    pub places_still : (x : Effects) (s : State) → Places h v l x s → Places k v l x s
    places_still x s i = (
      λ n. ref_still x n (map.get s.refs n) (i.0 n),
      λ p. promise_still p (map.get s.promises p) (i.1 p),
      λ n. unsettled_still (map.get s.promises) n (map.get s.unsettled n) (i.2 n),
      λ o. outcome_still o (map.get s.outcomes o) (i.3 o),
      λ b. embargo_still (map.get s.embargoes b) (i.4 b),
      λ t. task_still x tasks t (map.get s.tasks t) (i.5 t),
      λ c. own_still c (map.get s.calls c) (i.6 c),
      λ q. question_still q (map.get s.questions q) (i.7 q),
      λ q. import_still q (map.get s.imports q) (i.8 q),
    )

    -- ---- A moment of a step

    routed_still : (xs : List (WaitingCall × Node)) → RoutedMean h v l xs → RoutedMean k v l xs
    routed_still [] i = tt
    routed_still (x ∷ xs) i = (call_still x.1 x.0 i.0, routed_still xs i.1)

    coming_still : (xs : List (ℕ × Value)) → ComingMeans h v l xs → ComingMeans k v l xs
    coming_still [] i = tt
    coming_still (x ∷ xs) i = let z = i.0 in ((z.0, z.1, value_still z.0 x.1 z.2), coming_still xs i.1)

    told_still : (c : Caller) (x : Value) → IsToldOf h v l c x → IsToldOf k v l c x
    told_still (caller.Application c) x i = (i.0, e.asking v c.0 i.0 i.1, value_still (v, i.0) x i.2)
    told_still (caller.Peer q) x i = tt

    telling_still : (xs : List (Caller × Value)) → TellingMeans h v l xs → TellingMeans k v l xs
    telling_still [] i = tt
    telling_still (x ∷ xs) i = (told_still x.0 x.1 i.0, telling_still xs i.1)

    clearing_still : (o : Option Clearing) → ClearingMeans h v l o → ClearingMeans k v l o
    clearing_still None i = tt
    clearing_still (Some x) i = (caller_still x.outcome x.caller i.0, value_is_still x.outcome (Some x.value) i.1)

    pub moment_still : (d : Moment) → MomentMeans h v l d → MomentMeans k v l d
    moment_still d i = (
      places_still d.effects d.state i.0,
      routed_still d.yet i.1,
      coming_still d.arisen i.2,
      coming_still d.coming i.3,
      telling_still d.telling i.4,
      led_still h k e v d.effects.deliveries i.5,
      clearing_still d.clearing i.6,
      ends_still h k e v d.effects.answers i.7,
    )

pub places_last : PlacesLast
places_last h more v l x s i = places_still h (with_more h more) (extends h more) v l (λ t z j. ahead v t z h.journal more j) x s i

pub moments_last : MomentsLast
moments_last h more v l d i = moment_still h (with_more h more) (extends h more) v l (λ t z j. ahead v t z h.journal more j) d i
