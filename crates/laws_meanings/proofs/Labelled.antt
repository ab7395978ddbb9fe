-- Where a node leads, it means; what is kept where a promise comes to mean nothing.
use Rattle.std.proofs.Common.{◌≡◌, ◌⊎◌, inl, inr, ℕ, zero, suc, ◌+◌, Option, None, Some, unwrap_or, List, [], ◌∷◌, ◌++◌, refl, sym, ap, ◌∙◌, subst, arith}
use Rattle.std.specs.FinMap as map
use Rattle.std.specs.List.{slice_get}
use Rattle.finite_maps.specs.Tally.{Map}
use Rattle.finite_maps.proofs.Tested.{at_put}
use Rattle.rpc_msg.specs.declared.ids.Vat.{Vat}
use Rattle.rpc_msg.specs.declared.ids.RefId.{RefId}
use Rattle.rpc_msg.specs.declared.ids.Stamp.{Stamp}
use Rattle.rpc_msg.specs.Op.{Op}
use Rattle.rpc_journal.specs.declared.report.Delivery.{Delivery}
use Rattle.rpc_journal.specs.declared.report.Ended.{Ended}
use Rattle.rpc_journal.specs.History as history
use Rattle.rpc_journal.specs.Sources.{Asking}
use Rattle.rpc_journal.specs.Meaning.{History, Meaning, Broken}
use Rattle.rpc_machine.specs.declared.node.Node.{Node}
use Rattle.rpc_machine.specs.declared.node.Node.TheVariants as node
use Rattle.rpc_machine.specs.declared.calls.Caller.{Caller}
use Rattle.rpc_machine.specs.declared.calls.Caller.TheVariants as caller
use Rattle.rpc_machine.specs.declared.calls.HeldCall.{HeldCall}
use Rattle.rpc_machine.specs.declared.calls.KeptOutcome.{KeptOutcome}
use Rattle.rpc_machine.specs.declared.calls.OwnCall.{OwnCall}
use Rattle.rpc_machine.specs.declared.calls.OwnCall.TheVariants as own
use Rattle.rpc_machine.specs.declared.calls.Promise.{Promise}
use Rattle.rpc_machine.specs.declared.calls.Promise.TheVariants as promise
use Rattle.rpc_machine.specs.declared.calls.Value.{Value}
use Rattle.rpc_machine.specs.declared.calls.WaitingCall.{WaitingCall}
use Rattle.rpc_machine.specs.declared.entries.Embargo.{Embargo}
use Rattle.rpc_machine.specs.declared.entries.Import.{Import}
use Rattle.rpc_machine.specs.declared.entries.Question.{Question}
use Rattle.rpc_machine.specs.declared.entries.Reference.{Reference}
use Rattle.rpc_machine.specs.declared.entries.Resolution.{Resolution}
use Rattle.rpc_machine.specs.declared.entries.Role.{Role}
use Rattle.rpc_machine.specs.declared.entries.Role.TheVariants as role
use Rattle.rpc_machine.specs.declared.entries.Returned.{Returned}
use Rattle.rpc_machine.specs.declared.command.Effects.{Effects}
use Rattle.rpc_machine.specs.State.{State}
use Rattle.rpc_machine.specs.Nodes.{promise_link, value_of, field_link, field_of, next, follow, settle, links}
use Rattle.rpc_machine.specs.Progress.{with_refs, new_refs}
use Rattle.rpc_machine.specs.Advancing.{Known, known_by_resolve, known_by_return}
use Rattle.rpc_machine.specs.Advancing as known
use Rattle.laws_meanings.specs.NodeMeanings.{Meant, Itself, OfRef, field_meant, Leads, There, Then, Breaks}
use Rattle.laws_meanings.specs.NodeLabels.{Labels, IsIn, field_label, LeadsTo, label, Means, MeansKnown, CallAt, CallsAt, HeldAt, ValueMeans, IsGiven, IsEndOf, RefMeans, PromiseMeans, IsUnsettled, CallerIs, ValueIs, OutcomeMeans, EmbargoMeans, TaskMeans, OwnCallMeans, BackMeans, QuestionMeans, ResolvedMeans, ImportMeans, ComingMeans, AreLed, EndsAreLed}

-- ---- Links, one after the other

-- From a meaning nothing leads on.
ends_there : (h : History) (y : Meant) (m : Meaning) → Leads h y (Itself m) → y ≡ Itself m
ends_there h y m There = refl
ends_there h y m (Then l rest) = absurd l

pub further : (h : History) (y w x : Meant) → Leads h y w → Leads h w x → Leads h y x
further h y w x f There = f
further h y w x f (Then {mid = mid} l rest) = Then l (further h y w mid f rest)
further h y w x f (Breaks s path b rest) = Breaks s path (ends_there h y Broken (subst (λ (z : Meant). Leads h y z) b f)) (further h y w (OfRef (history.caller s)) f rest)

pub further_to : (h : History) (w x : Meant) (o : Option Meant) → LeadsTo h w o → Leads h w x → LeadsTo h x o
further_to h w x None f g = tt
further_to h w x (Some y) f g = further h y w x f g

-- ---- Where a node leads, it means

module _ (h : History) (v : Vat) (l : Labels) (s : State) (promises : (p : ℕ) → PromiseMeans h v l p (map.get s.promises p)) (outcomes : (o : ℕ) → OutcomeMeans h v l o (map.get s.outcomes o)) where
  by_promise : (x : Meant) (p : ℕ) (o : Option Promise) → PromiseMeans h v l p o → Means h v l x (node.Promise p) → Means h v l x (unwrap_or (promise_link o) (node.Promise p))
  by_promise x p None i m = m
  by_promise x p (Some (promise.Open calls)) i m = m
  by_promise x p (Some (promise.Fixed to)) i m = further_to h i.0 x (label h v l to) i.2 (subst (λ (o : Option Meant). LeadsTo h x o) i.1 m)

  by_value : (x : Meant) (u : ℕ) (path : List Op) (z : Option Value) → ValueIs h v l u z → Means h v l x (node.Field u path) → Means h v l x (unwrap_or (field_link path z) (node.Field u path))
  by_value x u path None i m = m
  by_value x u path (Some w) i m =
      let a = i.0 in
      further_to h (field_meant h a.0 a.1 path) x (label h v l (field_of w path)) (i.2.0 path) (subst (λ (o : Option (Vat × Asking)). LeadsTo h x (field_label h o path)) i.1 m)

  by_outcome : (x : Meant) (u : ℕ) (path : List Op) (z : Option KeptOutcome) → OutcomeMeans h v l u z → Means h v l x (node.Field u path) → Means h v l x (unwrap_or (field_link path (value_of z)) (node.Field u path))
  by_outcome x u path None i m = m
  by_outcome x u path (Some y) i m = by_value x u path y.value i.1 m

  one_on : (x : Meant) (n : Node) → Means h v l x n → Means h v l x (next s n)
  one_on x (node.Object o) m = m
  one_on x (node.Promise p) m = by_promise x p (map.get s.promises p) (promises p) m
  one_on x (node.Field o path) m = by_outcome x o path (map.get s.outcomes o) (outcomes o) m
  one_on x (node.Import e) m = m
  one_on x (node.Pipe q path) m = m
  one_on x (node.Broken reason) m = m

  follows : (k : ℕ) (x : Meant) (n : Node) → Means h v l x n → Means h v l x (follow s k n)
  follows zero x n m = m
  follows (suc k) x n m = follows k x (next s n) (one_on x n m)

  pub settles : (x : Meant) (n : Node) → Means h v l x n → Means h v l x (settle s n)
  settles x n m = follows (links s) x n m

-- ---- Lists

module _ (h : History) (v : Vat) (l : Labels) where
  pub calls-append : (n : Node) (xs ys : List WaitingCall) → CallsAt h v l n xs → CallsAt h v l n ys → CallsAt h v l n (xs ++ ys)
  calls-append n [] ys i j = j
  calls-append n (x ∷ xs) ys i j = (i.0, calls-append n xs ys i.1 j)

  pub held-append : (o : ℕ) (xs ys : List HeldCall) → HeldAt h v l o xs → HeldAt h v l o ys → HeldAt h v l o (xs ++ ys)
  held-append o [] ys i j = j
  held-append o (x ∷ xs) ys i j = (i.0, held-append o xs ys i.1 j)

  pub coming-append : (xs ys : List (ℕ × Value)) → ComingMeans h v l xs → ComingMeans h v l ys → ComingMeans h v l (xs ++ ys)
  coming-append [] ys i j = j
  coming-append (x ∷ xs) ys i j = (i.0, coming-append xs ys i.1 j)

pub in-before : (t : ℕ) (z : Stamp) (ds es : List Delivery) → IsIn t z ds → IsIn t z (ds ++ es)
in-before t z [] es i = absurd i
in-before t z (d ∷ ds) es (inl i) = inl i
in-before t z (d ∷ ds) es (inr i) = inr (in-before t z ds es i)

pub in-behind : (t : ℕ) (z : Stamp) (ds es : List Delivery) → IsIn t z es → IsIn t z (ds ++ es)
in-behind t z [] es i = i
in-behind t z (d ∷ ds) es i = inr (in-behind t z ds es i)

module _ (h : History) (v : Vat) where
  pub led-append : (xs ys : List Delivery) → AreLed h v xs → AreLed h v ys → AreLed h v (xs ++ ys)
  led-append [] ys i j = j
  led-append (x ∷ xs) ys i j = (i.0, led-append xs ys i.1 j)

  pub given-before : (k : ℕ) (x : Meant) (ds es : List Delivery) → IsGiven h v k x ds → IsGiven h v k x (ds ++ es)
  given-before k x [] es i = absurd i
  given-before k x (d ∷ ds) es (inl i) = inl i
  given-before k x (d ∷ ds) es (inr i) = inr (given-before k x ds es i)

  pub given-behind : (k : ℕ) (x : Meant) (ds es : List Delivery) → IsGiven h v k x es → IsGiven h v k x (ds ++ es)
  given-behind k x [] es i = i
  given-behind k x (d ∷ ds) es i = inr (given-behind k x ds es i)

  pub ended-before : (k : ℕ) (x : Meant) (ds es : List Ended) → IsEndOf h v k x ds → IsEndOf h v k x (ds ++ es)
  ended-before k x [] es i = absurd i
  ended-before k x (d ∷ ds) es (inl i) = inl i
  ended-before k x (d ∷ ds) es (inr i) = inr (ended-before k x ds es i)

  pub ended-behind : (k : ℕ) (x : Meant) (ds es : List Ended) → IsEndOf h v k x es → IsEndOf h v k x (ds ++ es)
  ended-behind k x [] es i = i
  ended-behind k x (d ∷ ds) es i = inr (ended-behind k x ds es i)

module _ (h : History) (v : Vat) where
  pub ends-append : (xs ys : List Ended) → EndsAreLed h v xs → EndsAreLed h v ys → EndsAreLed h v (xs ++ ys)
  ends-append [] ys i j = j
  ends-append (x ∷ xs) ys i j = (i.0, ends-append xs ys i.1 j)

-- ---- New references

abbrev pub new_ref : Node → Reference
new_ref n = record { head = n; embargo = None; made = 0 }

module _ (P : ℕ → Option Reference → Type 0) where
  pub all_refs : (s : State) (caps : List Node) → ((k : ℕ) → P k (map.get s.refs k)) → ((i : ℕ) (n : Node) → slice_get caps i ≡ Some n → P (s.next_ref + i) (Some (new_ref n))) → (k : ℕ) → P k (map.get (with_refs s caps).refs k)
  all_refs s [] i f = i
  all_refs s (n ∷ ns) i f =
      all_refs (record s { refs = map.insert s.refs s.next_ref (new_ref n); next_ref = s.next_ref + 1 }) ns
      (at_put P s.refs s.next_ref (new_ref n) (subst (λ (k : ℕ). P k (Some (new_ref n))) (let e : s.next_ref + 0 ≡ s.next_ref = omega arith in e) (f 0 n refl)) (λ k e. i k))
      (λ j m e. subst (λ (k : ℕ). P k (Some (new_ref m))) (let g : s.next_ref + suc j ≡ s.next_ref + 1 + j = omega arith in g) (f (suc j) m e))

abbrev id_of : ℕ → Option RefId
id_of k = Some (record { 0 = k })

pub at_new : (next : ℕ) (caps : List Node) (i : ℕ) (n : Node) → slice_get caps i ≡ Some n → slice_get (new_refs next caps) i ≡ Some (record { 0 = next + i })
at_new next [] i n e = let bad : ◌≡◌ {A = Option Node} None (Some n) = e in cc
at_new next (m ∷ ms) zero n e = let g : next ≡ next + 0 = omega arith in ap id_of g
at_new next (m ∷ ms) (suc i) n e = at_new (next + 1) ms i n e ∙ ap id_of (let g : next + 1 + i ≡ next + suc i = omega arith in g)

-- ---- A promise comes to mean nothing

module _ (h : History) (v : Vat) (l : Labels) (ps : ℕ → Option Meant) (weaker : (p : ℕ) → (ps p ≡ l.promise p) ⊎ (ps p ≡ None)) where
  abbrev m : Labels
  m = record l { promise = ps }

  pub soft : (x : Meant) (n : Node) → Means h v l x n → Means h v m x n
  soft x (node.Object o) i = i
  soft x (node.Promise p) i = by (weaker p)
    where
      by : ((ps p ≡ l.promise p) ⊎ (ps p ≡ None)) → LeadsTo h x (ps p)
      by (inl e) = subst (λ (o : Option Meant). LeadsTo h x o) (sym e) i
      by (inr e) = subst (λ (o : Option Meant). LeadsTo h x o) (sym e) tt
  soft x (node.Field o path) i = i
  soft x (node.Import e) i = i
  soft x (node.Pipe q path) i = i
  soft x (node.Broken reason) i = i

  pub soft_call : (n : Node) (c : WaitingCall) → CallAt h v l n c → CallAt h v m n c
  soft_call n c i = (i.0, λ j k e. let z = i.1 j k e in (z.0, z.1, soft z.0 k z.2), soft (OfRef (history.caller c.request.stamp)) n i.2)

  pub soft_calls : (n : Node) (cs : List WaitingCall) → CallsAt h v l n cs → CallsAt h v m n cs
  soft_calls n [] i = tt
  soft_calls n (c ∷ cs) i = (soft_call n c i.0, soft_calls n cs i.1)

  pub soft_held : (o : ℕ) (xs : List HeldCall) → HeldAt h v l o xs → HeldAt h v m o xs
  soft_held o [] i = tt
  soft_held o (x ∷ xs) i = (soft_call (node.Field o x.path) x.call i.0, soft_held o xs i.1)

  pub soft_value : (a : Vat × Asking) (x : Value) → ValueMeans h v l a x → ValueMeans h v m a x
  soft_value a x i = (λ path. soft (field_meant h a.0 a.1 path) (field_of x path) (i.0 path), λ j n e. let z = i.1 j n e in (z.0, z.1, soft z.0 n z.2), i.2)

  pub soft_ref : (e : Effects) (k : ℕ) (o : Option Reference) → RefMeans h v l e k o → RefMeans h v m e k o
  soft_ref e k None i = tt
  soft_ref e k (Some y) i = (i.0, i.1, soft i.0 y.head i.2)

  pub soft_caller : (o : ℕ) (c : Caller) → CallerIs h v l o c → CallerIs h v m o c
  soft_caller o (caller.Application c) i = i
  soft_caller o (caller.Peer q) i = i

  pub soft_known_value : (o : ℕ) (x : Option Value) → ValueIs h v l o x → ValueIs h v m o x
  soft_known_value o None i = tt
  soft_known_value o (Some x) i = (i.0, i.1, soft_value i.0 x i.2)

  pub soft_outcome : (o : ℕ) (x : Option KeptOutcome) → OutcomeMeans h v l o x → OutcomeMeans h v m o x
  soft_outcome o None i = tt
  soft_outcome o (Some x) i = (soft_caller o x.caller i.0, soft_known_value o x.value i.1, soft_held o x.waiting i.2)

  pub soft_embargo : (x : Option Embargo) → EmbargoMeans h v l x → EmbargoMeans h v m x
  soft_embargo None i = tt
  soft_embargo (Some b) i = (soft_calls b.node b.waiting i.0, soft (OfRef (record { vat = v; number = b.reference.0 })) b.node i.1)

  pub soft_task : (e : Effects) (t : ℕ) (o : Option ℕ) → TaskMeans h v l e t o → TaskMeans h v m e t o
  soft_task e t None i = tt
  soft_task e t (Some o) i = i

  pub soft_own : (c : ℕ) (o : Option OwnCall) → OwnCallMeans h v l c o → OwnCallMeans h v m c o
  soft_own c None i = tt
  soft_own c (Some (own.Direct q)) i = i
  soft_own c (Some (own.Kept o)) i = i

  pub soft_known : (x : Meant) (k : Known) → MeansKnown h v l x k → MeansKnown h v m x k
  soft_known x known.NothingYet i = tt
  soft_known x (known.IsBroken reason) i = i
  soft_known x (known.Leads by n) i = soft x n i

  pub soft_back : (q : ℕ) (r : Role) (o : Option Returned) → BackMeans h v l q r o → BackMeans h v m q r o
  soft_back q (role.Direct c) o i = (i.0, i.1, i.2, λ path. soft_known (field_meant h v i.0 path) (known_by_return path o) (i.3 path))
  soft_back q (role.Relay u) o i = i

  pub soft_question : (q : ℕ) (o : Option Question) → QuestionMeans h v l q o → QuestionMeans h v m q o
  soft_question q None i = tt
  soft_question q (Some x) i = soft_back q x.role x.returned i

  soft_resolved : (o : Option Meant) (r : Option Resolution) → ResolvedMeans h v l o r → ResolvedMeans h v m o r
  soft_resolved None r i = i
  soft_resolved (Some y) r i = soft_known y (known_by_resolve r) i

  pub soft_import : (e : ℕ) (o : Option Import) → ImportMeans h v l e o → ImportMeans h v m e o
  soft_import e None i = tt
  soft_import e (Some x) i = soft_resolved (l.import e) x.resolution i

  pub soft_coming : (xs : List (ℕ × Value)) → ComingMeans h v l xs → ComingMeans h v m xs
  soft_coming [] i = tt
  soft_coming (x ∷ xs) i = let z = i.0 in ((z.0, z.1, soft_value z.0 x.1 z.2), soft_coming xs i.1)

  -- One that is there keeps its meaning; a new one is open, and has no calls.
  module _ (old now : Map Promise) (same : (p : ℕ) (y : Promise) → map.get old p ≡ Some y → (ps p ≡ l.promise p) × (map.get now p ≡ Some y)) where
    still_promise : (p : ℕ) (o : Option Promise) → (ps p ≡ l.promise p) → PromiseMeans h v l p o → PromiseMeans h v m p o
    still_promise p None f i = tt
    still_promise p (Some (promise.Open calls)) f i = soft_calls (node.Promise p) calls i
    still_promise p (Some (promise.Fixed to)) f i = (i.0, f ∙ i.1, soft i.0 to i.2)

    pub soft_promises : ((p : ℕ) → (map.get now p ≡ map.get old p) ⊎ (map.get now p ≡ Some (promise.Open []))) → ((p : ℕ) → PromiseMeans h v l p (map.get old p)) → (p : ℕ) → PromiseMeans h v m p (map.get now p)
    soft_promises news i p = by (news p) (map.get old p) refl (i p)
      where
        by : ((map.get now p ≡ map.get old p) ⊎ (map.get now p ≡ Some (promise.Open []))) → (o : Option Promise) → map.get old p ≡ o → PromiseMeans h v l p o → PromiseMeans h v m p (map.get now p)
        by (inr e) o f j = subst (PromiseMeans h v m p) (sym e) tt
        by (inl e) None f j = subst (PromiseMeans h v m p) (sym (e ∙ f)) tt
        by (inl e) (Some y) f j = subst (PromiseMeans h v m p) (sym (e ∙ f)) (still_promise p (Some y) (same p y f).0 j)

    pub soft_unsettled : (k : ℕ) (o : Option ℕ) → IsUnsettled h v l (map.get old) k o → IsUnsettled h v m (map.get now) k o
    soft_unsettled k None i = tt
    soft_unsettled k (Some p) i = let z = same p (promise.Open i.1) i.2 in (z.0 ∙ i.0, i.1, z.1)

-- Where promises that are open stay open.
pub still_unsettled : (h : History) (v : Vat) (l : Labels) (old now : Map Promise) → ((p : ℕ) (calls : List WaitingCall) → map.get old p ≡ Some (promise.Open calls) → (more : List WaitingCall) × (map.get now p ≡ Some (promise.Open more))) → (k : ℕ) (o : Option ℕ) → IsUnsettled h v l (map.get old) k o → IsUnsettled h v l (map.get now) k o
still_unsettled h v l old now f k None i = tt
still_unsettled h v l old now f k (Some p) i = let z = f p i.1 i.2 in (i.0, z.0, z.1)
