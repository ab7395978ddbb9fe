-- In a history that says more, and by more links, a reference stands for what it stood for, or for broken.
use Rattle.std.proofs.Common.{◌≡◌, ◌⊎◌, inl, inr, ℕ, zero, suc, ◌≤◌, Option, None, Some, List, refl, sym, ap, subst, arith}
use Rattle.std.specs.List.{slice_get}
use Rattle.rpc_msg.specs.declared.ids.Vat.{Vat}
use Rattle.rpc_msg.specs.Vats.{other_vat}
use Rattle.rpc_msg.specs.Paths.{fields}
use Rattle.rpc_msg.specs.Op.{Op}
use Rattle.rpc_msg.specs.CapAt.{CapAt}
use Rattle.rpc_msg.specs.CapAt.TheVariants.{Cap, Null, NotCap}
use Rattle.rpc_msg.specs.Payloads.{tree_of}
use Rattle.rpc_msg.specs.Walking.{capability_at}
use Rattle.rpc_journal.specs.declared.report.Outcome.{Outcome}
use Rattle.rpc_journal.specs.declared.report.Outcome.TheVariants as outcome
use Rattle.rpc_journal.specs.History.{Ref, refs_at, caller, or_rest, made_with, answer_of}
use Rattle.rpc_journal.specs.Sources.{Asking, OfBootstrap, OfCall, asking, Source, OwnObject, OwnPromise, CloneOf, SentWith, EndedWith, FieldOf, source, Fate, FixedTo, WasRejected, fate}
use Rattle.rpc_journal.specs.Meaning.{History, Meaning, ObjectAt, Broken, object_or_broken, bootstrap_meaning, root_field, by_fate, by_ref, by_made, by_reply, by_end, by_cap, by_outcome, if_broken, by_replied, by_asking, by_source, within}
use Rattle.laws_runs.proofs.Extends.{Extends}

abbrev pub Grows : Option Meaning → Option Meaning → Type 0
Grows None y = Unit {0}
Grows (Some (ObjectAt v o)) y = (y ≡ Some (ObjectAt v o)) ⊎ (y ≡ Some Broken)
Grows (Some Broken) y = y ≡ Some Broken

pub as_it_is : (x : Option Meaning) → Grows x x
as_it_is None = tt
as_it_is (Some (ObjectAt v o)) = inl refl
as_it_is (Some Broken) = refl

same : (x y : Option Meaning) → y ≡ x → Grows x y
same x y e = subst (λ z. Grows x z) (sym e) (as_it_is x)

to_broken : (x : Option Meaning) → Grows x (Some Broken)
to_broken None = tt
to_broken (Some (ObjectAt v o)) = inr refl
to_broken (Some Broken) = refl

pub same_bootstrap : (h k : History) → Extends h k → (v : Vat) → bootstrap_meaning k v ≡ bootstrap_meaning h v
same_bootstrap h k e v = ap (object_or_broken (other_vat v)) (e.roots (other_vat v))

-- What says nothing grows to whatever; what says something is the same in both.
settled : {X : Type 0} (f g : Option X → Option Meaning) (o p : Option X) → f None ≡ None → ((x : X) → o ≡ Some x → p ≡ Some x) → ((x : X) → Grows (f (Some x)) (g (Some x))) → Grows (f o) (g p)
settled f g None p n h k = subst (λ z. Grows z (g p)) (sym n) tt
settled f g (Some x) p n h k = subst (λ z. Grows (f (Some x)) (g z)) (sym (h x refl)) (k x)

module _ (h k : History) (e : Extends h k) (rest more : Ref → Option Meaning) (g : (r : Ref) → Grows (rest r) (more r)) where
  ref_grows : (o : Option Ref) → Grows (by_ref h rest o) (by_ref k more o)
  ref_grows None = tt
  ref_grows (Some r) = g r

  fate_grows : (f : Fate) → Grows (by_fate h rest (Some f)) (by_fate k more (Some f))
  fate_grows (FixedTo r) = g r
  fate_grows WasRejected = refl

  end_grows : (v : Vat) (i : ℕ) (a : Asking) → Grows (by_end h rest v i (Some a)) (by_end k more v i (Some a))
  end_grows v i OfBootstrap = same _ _ (ap (λ (x : Meaning). Some x) (same_bootstrap h k e v))
  end_grows v i (OfCall s) = settled (by_reply h rest i) (by_reply k more i) (answer_of h.journal s) (answer_of k.journal s) refl (e.answer s) (λ a. ref_grows (slice_get a.refs i))

  cap_grows : (refs : List Ref) (c : CapAt) → Grows (by_cap h rest refs c) (by_cap k more refs c)
  cap_grows refs (Cap i) = ref_grows (slice_get refs i)
  cap_grows refs Null = refl
  cap_grows refs NotCap = refl

  outcome_grows : (path : List Op) (refs : List Ref) (x : Outcome) → Grows (by_outcome h rest path refs x) (by_outcome k more path refs x)
  outcome_grows path refs (outcome.Results payload) = cap_grows refs (capability_at (tree_of payload) path)
  outcome_grows path refs (outcome.Exception x) = refl

  either_grows : (a b : Option Meaning) → Grows a b → (x y : Option Meaning) → Grows x y → Grows (or_rest (if_broken h rest a) x) (or_rest (if_broken k more b) y)
  either_grows None None i x y j = j
  either_grows None (Some (ObjectAt v o)) i x y j = j
  either_grows None (Some Broken) i x y j = to_broken x
  either_grows (Some (ObjectAt v o)) None i x y j = j
  either_grows (Some (ObjectAt v o)) (Some (ObjectAt u p)) i x y j = j
  either_grows (Some (ObjectAt v o)) (Some Broken) i x y j = to_broken x
  either_grows (Some Broken) b i x y j = subst (λ c. Grows (Some Broken) (or_rest (if_broken k more c) y)) (sym i) refl

  asking_grows : (v : Vat) (path : List Op) (a : Asking) → Grows (by_asking h rest v path (Some a)) (by_asking k more v path (Some a))
  asking_grows v path OfBootstrap = same _ _ (ap (λ (x : Meaning). Some (root_field x (fields path))) (same_bootstrap h k e v))
  asking_grows v path (OfCall s) =
      either_grows (rest (caller s)) (more (caller s)) (g (caller s)) (by_replied h rest path (answer_of h.journal s)) (by_replied k more path (answer_of k.journal s))
      (settled (by_replied h rest path) (by_replied k more path) (answer_of h.journal s) (answer_of k.journal s) refl (e.answer s) (λ a. outcome_grows path a.refs a.outcome))

  origin_grows : (v : Vat) (s : Source) → Grows (by_source h rest v (Some s)) (by_source k more v (Some s))
  origin_grows v (OwnObject o) = inl refl
  origin_grows v (OwnPromise p) = settled (by_fate h rest) (by_fate k more) (fate h.journal v p) (fate k.journal v p) refl (e.fate v p) fate_grows
  origin_grows v (CloneOf q) = g (record { vat = v; number = q })
  origin_grows v (SentWith s i) = settled (by_made h rest s.vat i) (by_made k more s.vat i) (made_with h.journal s) (made_with k.journal s) refl (e.made s) (λ m. ref_grows (slice_get (refs_at s.vat m.refs) i))
  origin_grows v (EndedWith c i) = settled (by_end h rest v i) (by_end k more v i) (asking h.journal v c) (asking k.journal v c) refl (e.asking v c) (end_grows v i)
  origin_grows v (FieldOf c path) = settled (by_asking h rest v path) (by_asking k more v path) (asking h.journal v c) (asking k.journal v c) refl (e.asking v c) (asking_grows v path)

  pub source_grows : (r : Ref) → Grows (by_source h rest r.vat (source h.journal r)) (by_source k more r.vat (source k.journal r))
  source_grows r = settled (by_source h rest r.vat) (by_source k more r.vat) (source h.journal r) (source k.journal r) refl (e.source r) (origin_grows r.vat)

pub grows : (h k : History) → Extends h k → (n m : ℕ) → n ≤ m → (r : Ref) → Grows (within n h r) (within m k r)
grows h k e zero m l r = tt
grows h k e (suc n) zero l r = absurd (omega arith)
grows h k e (suc n) (suc m) l r = source_grows h k e (within n h) (within m k) (grows h k e n m (omega arith)) r
