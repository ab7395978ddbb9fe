-- A reference that stands for an object never comes to stand for broken, where each delivery is to what its reference
-- stands for: a field of a call is broken by the call's reference only if the call was not delivered.
use Rattle.std.proofs.Common.{◌≡◌, ◌⊎◌, inl, inr, ℕ, zero, suc, ◌+◌, ◌≤◌, Bool, true, false, ◌&&◌, nat_eq, Option, None, Some, List, [], ◌∷◌, refl, sym, ap, ◌∙◌, subst, arith}
use Rattle.std.specs.List.{slice_get, All}
use Rattle.std.proofs.lemmas.List.Elements.{All-head, All-tail}
use Rattle.rpc_msg.specs.declared.ids.Vat.{Vat}
use Rattle.rpc_msg.specs.declared.ids.Stamp.{Stamp}
use Rattle.rpc_msg.specs.Paths.{fields}
use Rattle.rpc_msg.specs.Op.{Op}
use Rattle.rpc_msg.specs.CapAt.{CapAt}
use Rattle.rpc_msg.specs.CapAt.TheVariants.{Cap, Null, NotCap}
use Rattle.rpc_msg.specs.Payloads.{tree_of}
use Rattle.rpc_msg.specs.Walking.{capability_at}
use Rattle.rpc_journal.specs.declared.report.Outcome.{Outcome}
use Rattle.rpc_journal.specs.declared.report.Outcome.TheVariants as outcome
use Rattle.rpc_journal.specs.declared.entry.JournalEntry.{JournalEntry}
use Rattle.rpc_journal.specs.declared.entry.JournalEntry.TheVariants as entry
use Rattle.rpc_journal.specs.History.{Ref, DeliveredAt, Reply, same_vat, same_ref, same_stamp, refs_at, caller, or_rest, in_front, if_so, first_that, made_with, delivery_one, delivered_one, deliveries, reply_to, answer_of}
use Rattle.rpc_journal.specs.Sources.{Asking, OfBootstrap, OfCall, asking, Source, OwnObject, OwnPromise, CloneOf, SentWith, EndedWith, FieldOf, source, Fate, FixedTo, WasRejected, fate}
use Rattle.rpc_journal.specs.Meaning.{History, Meaning, ObjectAt, Broken, root_field, by_fate, by_ref, by_made, by_reply, by_end, by_cap, by_outcome, if_broken, by_answer, by_asking, by_source, within, StandsFor}
use Rattle.rpc_machine.specs.Claims.{IsTo, IsToOne, MeansOne}
use Rattle.laws_runs.specs.Meanings.{with_more}
use Rattle.laws_runs.proofs.Extends.{Extends, extends, extends_itself}
use Rattle.laws_runs.proofs.Grows.{Grows, grows, same_bootstrap}

-- ---- What was answered was delivered

same_caller : (a b c : Bool) → (a && b && c) ≡ true → (a && b) ≡ true
same_caller true true c e = refl
same_caller true false c e = cc
same_caller false b c e = cc

-- The first delivery with a stamp is one of those of its reference.
abbrev Finds : Stamp → List JournalEntry → DeliveredAt → Type 0
Finds s h d = first_that (delivery_one s) h ≡ Some d

by_stamp : (P : DeliveredAt → Type 0) (d : DeliveredAt) (b c : Bool) (y : DeliveredAt) (rest : Option DeliveredAt) (ds : List DeliveredAt) → (b ≡ true → c ≡ true) → (rest ≡ Some d → All P ds → P d) → or_rest (if_so b y) rest ≡ Some d → All P (in_front (if_so c y) ds) → P d
by_stamp P d true true y rest ds f g k l = let i : y ≡ d = cc in subst P i (All-head P y ds l)
by_stamp P d true false y rest ds f g k l = let i = f refl in absurd (let j : true ≡ false = sym i in cc)
by_stamp P d false true y rest ds f g k l = g k (All-tail P y ds l)
by_stamp P d false false y rest ds f g k l = g k l

one_more : (P : DeliveredAt → Type 0) (s : Stamp) (x : JournalEntry) (d : DeliveredAt) (rest : Option DeliveredAt) (ds : List DeliveredAt) → (rest ≡ Some d → All P ds → P d) → or_rest (delivery_one s x) rest ≡ Some d → All P (in_front (delivered_one (caller s) x) ds) → P d
one_more P s (entry.Delivered u y) d rest ds g k l =
    by_stamp P d (same_stamp s y.stamp) (same_ref (caller s) (caller y.stamp)) (record { vat = u; delivery = y }) rest ds
    (same_caller (same_vat s.vat y.stamp.vat) (nat_eq s.reference.0 y.stamp.reference.0) (nat_eq s.index y.stamp.index)) g k l
one_more P s x d rest ds g k l = g k l

one_of : (P : DeliveredAt → Type 0) (s : Stamp) (h : List JournalEntry) (d : DeliveredAt) → Finds s h d → All P (deliveries h (caller s)) → P d
one_of P s [] d e a = cc
one_of P s (x ∷ xs) d e a = one_more P s x d (first_that (delivery_one s) xs) (deliveries xs (caller s)) (one_of P s xs d) e a

pub was_delivered : (h : History) → IsToOne h → (s : Stamp) (a : Reply) → answer_of h.journal s ≡ Some a → (v : Vat) × (o : ℕ) × StandsFor h (caller s) (ObjectAt v o)
was_delivered h t s a e = by (first_that (delivery_one s) h.journal) refl e
  where
    by : (o : Option DeliveredAt) → first_that (delivery_one s) h.journal ≡ o → reply_to h.journal o ≡ Some a → (v : Vat) × (o : ℕ) × StandsFor h (caller s) (ObjectAt v o)
    by None f k = cc
    by (Some d) f k = (d.vat, d.delivery.object.0, one_of (IsTo h (caller s)) s h.journal d f (t (caller s)))

-- ---- Never broken

-- What says an object is no way to broken.
abbrev Apart : Option Meaning → Option Meaning → Type 0
Apart x y = (v : Vat) (o : ℕ) → x ≡ Some (ObjectAt v o) → y ≡ Some Broken → ⊥

equal_apart : (x y : Option Meaning) → y ≡ x → Apart x y
equal_apart x y e v o f g = cc

none_apart : (y : Option Meaning) → Apart None y
none_apart y v o f g = cc

broken_apart : (y : Option Meaning) → Apart (Some Broken) y
broken_apart y v o f g = cc

-- What says nothing says no object; what says something is the same in both.
parted : {X : Type 0} (f g : Option X → Option Meaning) (o p : Option X) → f None ≡ None → ((x : X) → o ≡ Some x → p ≡ Some x) → ((x : X) → o ≡ Some x → Apart (f (Some x)) (g (Some x))) → Apart (f o) (g p)
parted f g None p n h k = subst (λ z. Apart z (g p)) (sym n) (none_apart (g p))
parted f g (Some x) p n h k = subst (λ z. Apart (f (Some x)) (g z)) (sym (h x refl)) (k x refl)

module _ (h k : History) (e : Extends h k) (rest more : Ref → Option Meaning) (g : (r : Ref) → Apart (rest r) (more r)) (t : (s : Stamp) (a : Reply) → answer_of h.journal s ≡ Some a → more (caller s) ≡ Some Broken → ⊥) where
  ref_apart : (o : Option Ref) → Apart (by_ref h rest o) (by_ref k more o)
  ref_apart None = none_apart None
  ref_apart (Some r) = g r

  fate_apart : (f : Fate) → Apart (by_fate h rest (Some f)) (by_fate k more (Some f))
  fate_apart (FixedTo r) = g r
  fate_apart WasRejected = broken_apart (Some Broken)

  end_apart : (v : Vat) (i : ℕ) (a : Asking) → Apart (by_end h rest v i (Some a)) (by_end k more v i (Some a))
  end_apart v i OfBootstrap = equal_apart _ _ (ap (λ (x : Meaning). Some x) (same_bootstrap h k e v))
  end_apart v i (OfCall s) = parted (by_reply h rest i) (by_reply k more i) (answer_of h.journal s) (answer_of k.journal s) refl (e.answer s) (λ a f. ref_apart (slice_get a.refs i))

  cap_apart : (refs : List Ref) (c : CapAt) → Apart (by_cap h rest refs c) (by_cap k more refs c)
  cap_apart refs (Cap i) = ref_apart (slice_get refs i)
  cap_apart refs Null = broken_apart (Some Broken)
  cap_apart refs NotCap = broken_apart (Some Broken)

  outcome_apart : (path : List Op) (refs : List Ref) (x : Outcome) → Apart (by_outcome h rest path refs x) (by_outcome k more path refs x)
  outcome_apart path refs (outcome.Results payload) = cap_apart refs (capability_at (tree_of payload) path)
  outcome_apart path refs (outcome.Exception x) = broken_apart (Some Broken)

  none_first : (a x : Option Meaning) (v : Vat) (o : ℕ) → or_rest (if_broken h rest a) x ≡ Some (ObjectAt v o) → x ≡ Some (ObjectAt v o)
  none_first None x v o i = i
  none_first (Some (ObjectAt u p)) x v o i = i
  none_first (Some Broken) x v o i = cc

  either_broken : (b y : Option Meaning) → or_rest (if_broken k more b) y ≡ Some Broken → (b ≡ Some Broken) ⊎ (y ≡ Some Broken)
  either_broken None y i = inr i
  either_broken (Some (ObjectAt u p)) y i = inr i
  either_broken (Some Broken) y i = inl refl

  answered_apart : (path : List Op) (s : Stamp) (o p : Option Reply) → answer_of h.journal s ≡ o → answer_of k.journal s ≡ p → Apart (by_answer h rest path s o) (by_answer k more path s p)
  answered_apart path s None p f l v n i j = let q : ◌≡◌ {A = Option Meaning} None (Some (ObjectAt v n)) = none_first (rest (caller s)) None v n i in cc
  answered_apart path s (Some a) p f l v n i j =
      let q = none_first (rest (caller s)) (by_outcome h rest path a.refs a.outcome) v n i in
      let z : p ≡ Some a = sym l ∙ e.answer s a f in
      ends (either_broken (more (caller s)) (by_outcome k more path a.refs a.outcome) (subst (λ (b : Option Reply). by_answer k more path s b ≡ Some Broken) z j)) q
    where
      ends : ((more (caller s) ≡ Some Broken) ⊎ (by_outcome k more path a.refs a.outcome ≡ Some Broken)) → by_outcome h rest path a.refs a.outcome ≡ Some (ObjectAt v n) → ⊥
      ends (inl b) q = t s a f b
      ends (inr b) q = outcome_apart path a.refs a.outcome v n q b

  asking_apart : (v : Vat) (path : List Op) (a : Asking) → Apart (by_asking h rest v path (Some a)) (by_asking k more v path (Some a))
  asking_apart v path OfBootstrap = equal_apart _ _ (ap (λ (x : Meaning). Some (root_field x (fields path))) (same_bootstrap h k e v))
  asking_apart v path (OfCall s) = answered_apart path s (answer_of h.journal s) (answer_of k.journal s) refl refl

  origin_apart : (v : Vat) (s : Source) → Apart (by_source h rest v (Some s)) (by_source k more v (Some s))
  origin_apart v (OwnObject o) = equal_apart _ _ refl
  origin_apart v (OwnPromise p) = parted (by_fate h rest) (by_fate k more) (fate h.journal v p) (fate k.journal v p) refl (e.fate v p) (λ f l. fate_apart f)
  origin_apart v (CloneOf q) = g (record { vat = v; number = q })
  origin_apart v (SentWith s i) = parted (by_made h rest s.vat i) (by_made k more s.vat i) (made_with h.journal s) (made_with k.journal s) refl (e.made s) (λ m l. ref_apart (slice_get (refs_at s.vat m.refs) i))
  origin_apart v (EndedWith c i) = parted (by_end h rest v i) (by_end k more v i) (asking h.journal v c) (asking k.journal v c) refl (e.asking v c) (λ a l. end_apart v i a)
  origin_apart v (FieldOf c path) = parted (by_asking h rest v path) (by_asking k more v path) (asking h.journal v c) (asking k.journal v c) refl (e.asking v c) (λ a l. asking_apart v path a)

  source_apart : (r : Ref) → Apart (by_source h rest r.vat (source h.journal r)) (by_source k more r.vat (source k.journal r))
  source_apart r = parted (by_source h rest r.vat) (by_source k more r.vat) (source h.journal r) (source k.journal r) refl (e.source r) (λ s l. origin_apart r.vat s)

-- By whatever number of links each.
pub apart : (h k : History) → Extends h k → IsToOne h → (n m : ℕ) (r : Ref) → Apart (within m h r) (within n k r)
apart h k e t zero m r = λ v o i j. cc
apart h k e t (suc n) zero r = none_apart _
apart h k e t (suc n) (suc m) r =
    source_apart h k e (within m h) (within n k) (apart h k e t n m)
    (λ s a f b. let d = was_delivered h t s a f in apart h k e t n d.2.0 (caller s) d.0 d.1 d.2.1 b)
    r

-- ---- So meanings last

pub still : (h k : History) → Extends h k → IsToOne h → (n m : ℕ) → n ≤ m → (r : Ref) (x : Meaning) → within n h r ≡ Some x → within m k r ≡ Some x
still h k e t n m l r x i = by x (within n h r) i (grows h k e n m l r) (apart h k e t m n r)
  where
    either : (v : Vat) (o : ℕ) → ((within m k r ≡ Some (ObjectAt v o)) ⊎ (within m k r ≡ Some Broken)) → (within m k r ≡ Some Broken → ⊥) → within m k r ≡ Some (ObjectAt v o)
    either v o (inl y) never = y
    either v o (inr y) never = absurd (never y)

    by : (x : Meaning) (y : Option Meaning) → y ≡ Some x → Grows y (within m k r) → Apart y (within m k r) → within m k r ≡ Some x
    by (ObjectAt v o) y i g a = either v o (subst (λ z. Grows z (within m k r)) i g) (a v o i)
    by Broken y i g a = subst (λ z. Grows z (within m k r)) i g

pub lasts : (h : History) (more : List JournalEntry) → IsToOne h → (r : Ref) (x : Meaning) → StandsFor h r x → StandsFor (with_more h more) r x
lasts h more t r x s = (s.0, still h (with_more h more) (extends h more) t s.0 s.0 (omega arith) r x s.1)

pub means_one : (h : History) → IsToOne h → MeansOne h
means_one h t r x y a b =
    let n = a.0 + b.0 in
    let e = still h h (extends_itself h) t a.0 n (omega arith) r x a.1 in
    let f = still h h (extends_itself h) t b.0 n (omega arith) r y b.1 in
    cc
