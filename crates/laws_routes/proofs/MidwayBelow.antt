-- Entries go, and what is still named is held: it is still so in the middle of the step.
use Rattle.std.specs.FinMap as map
use Rattle.std.proofs.Common.{◌≡◌, ◌⊎◌, inl, inr, ℕ, nat_eq, false, List, [], Option, None, Some, IsSome, refl, sym, ap, subst, ◌∙◌}
use Rattle.finite_maps.specs.Tally.{Map}
use Rattle.rpc_msg.specs.Op.{Op}
use Rattle.rpc_msg.specs.declared.ids.EmbargoId.{EmbargoId}
use Rattle.rpc_msg.specs.declared.message.Message.{Message}
use Rattle.rpc_msg.specs.declared.parts.Descriptor.{Descriptor}
use Rattle.rpc_machine.specs.declared.calls.KeptOutcome.{KeptOutcome}
use Rattle.rpc_machine.specs.declared.calls.Promise.{Promise}
use Rattle.rpc_machine.specs.declared.calls.Promise.TheVariants as promise
use Rattle.rpc_machine.specs.declared.calls.Value.{Value}
use Rattle.rpc_machine.specs.declared.entries.AnswerEntry.{AnswerEntry}
use Rattle.rpc_machine.specs.declared.entries.Embargo.{Embargo}
use Rattle.rpc_machine.specs.declared.entries.Export.{Export}
use Rattle.rpc_machine.specs.declared.entries.Import.{Import}
use Rattle.rpc_machine.specs.declared.entries.Question.{Question}
use Rattle.rpc_machine.specs.declared.entries.Returned.{Returned}
use Rattle.rpc_machine.specs.declared.node.Node.{Node}
use Rattle.rpc_machine.specs.declared.node.Node.TheVariants as node
use Rattle.rpc_machine.specs.State.{State}
use Rattle.rpc_machine.specs.Nodes.{field_link, field_of, link, promise_link, value_of}
use Rattle.rpc_machine.specs.Advancing.{Leads, known_by_resolve, known_by_return, resolution_of, returned_of}
use Rattle.rpc_machine.specs.Places.{places}
use Rattle.laws_steps.specs.Callers.{AnswersWith, IsOpenFor}
use Rattle.laws_steps.specs.Settled.{IsAmong}
use Rattle.laws_steps.proofs.Below.{Below, IsClosed}
use Rattle.laws_routes.specs.MakingLaws.{EmbargoIsThere}
use Rattle.laws_routes.specs.Named.{AllMet, EachReturn}
use Rattle.laws_routes.specs.Premises.{EachLoop, EachOpen, EachTargetCap}
use Rattle.laws_routes.specs.Sayings.{has_of}
use Rattle.laws_routes.specs.Midway.{IsHeld, IsOutcomeOf, Midway}
use Rattle.laws_routes.proofs.MidwayGone.{calls_left, held_left, less_stops, met_fewer}
use Rattle.laws_routes.proofs.Placed as placed
use Rattle.laws_routes.proofs.WhatGoes.{none_there}

module _ (s t other : State) (out back : List Message) (h : Midway s other out back) (b : Below s t) (still : (n : Node) → IsAmong n (places t) → IsHeld s n → IsHeld t n) where
  -- What is held before is held behind.
  abbrev Stays : Node → Type 0
  Stays n = IsHeld s n → IsHeld t n

  less : (n : Node) → (link t n ≡ link s n) ⊎ (link t n ≡ None)
  less (node.Object o) = inr refl
  less (node.Promise p) = by (map.get t.promises p) refl
    where
      by : (o : Option Promise) → map.get t.promises p ≡ o → (promise_link o ≡ promise_link (map.get s.promises p)) ⊎ (promise_link o ≡ None)
      by None e = inr refl
      by (Some x) e = inl (sym (ap promise_link (b.promises p x e)))
  less (node.Field o path) = by (map.get t.outcomes o) refl
    where
      by : (z : Option KeptOutcome) → map.get t.outcomes o ≡ z → (field_link path (value_of z) ≡ field_link path (value_of (map.get s.outcomes o))) ⊎ (field_link path (value_of z) ≡ None)
      by None e = inr refl
      by (Some x) e = inl (sym (ap (λ z. field_link path (value_of z)) (b.outcomes o x e)))
  less (node.Import e) = inr refl
  less (node.Pipe q path) = inr refl
  less (node.Broken reason) = inr refl

  embargo : (r : ℕ) (e : Option EmbargoId) → EmbargoIsThere s r e → EmbargoIsThere t r e
  embargo r None i = tt
  embargo r (Some e) i = subst (λ (m : Map Embargo). EmbargoIsThere (record t { embargoes = m }) r (Some e)) (sym b.embargoes) i

  import_there : (e : ℕ) → IsSome (map.get t.imports e) → IsSome (map.get s.imports e)
  import_there e i = by (map.get t.imports e) refl i
    where
      by : (o : Option Import) → map.get t.imports e ≡ o → IsSome o → IsSome (map.get s.imports e)
      by None f k = cc
      by (Some x) f k = let a = b.imports e x f in subst (λ (o : Option Import). IsSome o) (sym a.1) refl

  still_open : (o q : ℕ) → IsOpenFor q (map.get t.outcomes o) → IsOpenFor q (map.get s.outcomes o)
  still_open o q i = by (map.get t.outcomes o) refl i
    where
      by : (z : Option KeptOutcome) → map.get t.outcomes o ≡ z → IsOpenFor q z → IsOpenFor q (map.get s.outcomes o)
      by None f k = absurd k
      by (Some x) f k = subst (IsOpenFor q) (sym (b.outcomes o x f)) k

  leads_held : (m k : Node) → link t m ≡ Some k → IsHeld t k
  leads_held (node.Object o) k e = let a : None ≡ Some k = e in cc
  leads_held (node.Promise p) k e = by (map.get t.promises p) refl e
    where
      by : (o : Option Promise) → map.get t.promises p ≡ o → promise_link o ≡ Some k → IsHeld t k
      by None f g = cc
      by (Some (promise.Open cs)) f g = cc
      by (Some (promise.Fixed to)) f g =
          let at = b.promises p (promise.Fixed to) f in
          let a : Some to ≡ Some k = g in
          let is : to ≡ k = cc in
          subst (IsHeld t) is (placed.fixed_to Stays (λ r i. i) t still p to f (h.links (node.Promise p) to (subst (λ (o : Option Promise). IsSome o) (sym at) refl) (ap promise_link at)))
  leads_held (node.Field o path) k e = by (map.get t.outcomes o) refl e
    where
      by_value : (x : KeptOutcome) (z : Option Value) → map.get t.outcomes o ≡ Some x → x.value ≡ z → field_link path z ≡ Some k → IsHeld t k
      by_value x None f is g = cc
      by_value x (Some v) f is g =
          let at = b.outcomes o x f in
          let a : Some (field_of v path) ≡ Some k = g in
          let same : field_of v path ≡ k = cc in
          subst (IsHeld t) same
          (placed.fields Stays (λ r i. i) t still o x v path f is
          (h.links (node.Field o path) (field_of v path) (subst (λ (z : Option KeptOutcome). IsSome z) (sym at) refl) (ap (λ z. field_link path (value_of z)) at ∙ ap (field_link path) is)))

      by : (z : Option KeptOutcome) → map.get t.outcomes o ≡ z → field_link path (value_of z) ≡ Some k → IsHeld t k
      by None f g = cc
      by (Some x) f g = by_value x x.value f refl g
  leads_held (node.Import j) k e = let a : None ≡ Some k = e in cc
  leads_held (node.Pipe q path) k e = let a : None ≡ Some k = e in cc
  leads_held (node.Broken reason) k e = let a : None ≡ Some k = e in cc

  resolved_left : (e : ℕ) (said : Descriptor) (to : Node) → known_by_resolve (resolution_of (map.get t.imports e)) ≡ Leads said to → IsHeld t to
  resolved_left e said to a = placed.resolved Stays (λ r i. i) t still e said to a (by (map.get t.imports e) refl a)
    where
      by : (o : Option Import) → map.get t.imports e ≡ o → known_by_resolve (resolution_of o) ≡ Leads said to → IsHeld s to
      by None f g = cc
      by (Some x) f g =
          let was = b.imports e x f in
          let y : Import = was.0 in
          let same : y.resolution ≡ x.resolution = was.2 in
          h.resolved e said to (ap (λ (o : Option Import). known_by_resolve (resolution_of o)) was.1 ∙ (ap known_by_resolve same ∙ g))

  returned_left : (q : ℕ) (path : List Op) (said : Descriptor) (to : Node) → known_by_return path (returned_of (map.get t.questions q)) ≡ Leads said to → IsHeld t to
  returned_left q path said to a = placed.returned Stays (λ r i. i) t still q path said to a (by (b.questions q))
    where
      closed : (o : Option Question) → IsClosed o → known_by_return path (returned_of o) ≡ Leads said to → ⊥
      closed None i g = cc
      closed (Some x) i g = let a : known_by_return path None ≡ Leads said to = ap (known_by_return path) (sym i.0) ∙ g in cc

      by : (map.get t.questions q ≡ map.get s.questions q) ⊎ IsClosed (map.get t.questions q) → IsHeld s to
      by (inl e) = h.returned q path said to (ap (λ (o : Option Question). known_by_return path (returned_of o)) (sym e) ∙ a)
      by (inr i) = absurd (closed (map.get t.questions q) i a)

  still_answered : (q : ℕ) (x : Question) → map.get t.questions q ≡ Some x → IsSome x.returned → (map.get t.questions q ≡ map.get s.questions q) ⊎ IsClosed (map.get t.questions q)
      → EachOpen (λ k. nat_eq k q ≡ false) out × EachReturn (λ k. nat_eq k q ≡ false) back
  still_answered q x e i (inl same) = h.answered q x (sym same ∙ e) i
  still_answered q x e i (inr closed) =
      let c : IsClosed (Some x) = subst IsClosed e closed in
      absurd (none_there Returned (subst (λ (o : Option Returned). IsSome o) c.0 i))

  pub below_still : ((q : ℕ) (a : AnswerEntry) → map.get t.answers q ≡ Some a → IsOutcomeOf q (map.get t.outcomes a.outcome)) → EachOpen (λ q. IsSome (map.get t.questions q)) out → EachReturn (λ q. IsSome (map.get t.questions q)) back → Midway t other out back
  below_still answers opens returns = record {
    stop = λ n. (let a = h.stop n in less_stops s t less a.0 n a.1);
    links = λ m k i e. leads_held m k e;
    heads = λ r x e. placed.heads Stays (λ r i. i) t still r x e (h.heads r x (ap (λ m. map.get m r) (sym b.refs) ∙ e));
    embargoes = λ e x i. placed.embargoes Stays (λ r i. i) t still e x i (h.embargoes e x (ap (λ m. map.get m e) (sym b.embargoes) ∙ i));
    resolved = resolved_left;
    returned = returned_left;
    waits = λ p cs e. calls_left s t Stays (λ n i. i) cs (placed.waits Stays (λ r i. i) t still p cs e) (h.waits p cs (b.promises p (promise.Open cs) e));
    holds = λ o x e. held_left s t Stays (λ n i. i) x.waiting (placed.holds Stays (λ r i. i) t still o x e) (h.holds o x (b.outcomes o x e));
    keeps = λ e x i. calls_left s t Stays (λ n i. i) x.waiting (placed.keeps Stays (λ r i. i) t still e x i) (h.keeps e x (ap (λ m. map.get m e) (sym b.embargoes) ∙ i));
    paired = λ r x e. embargo r x.embargo (h.paired r x (ap (λ m. map.get m r) (sym b.refs) ∙ e));
    exports = λ e x f. (let a = h.exports e x (ap (λ m. map.get m e) (sym b.exports) ∙ f) in (a.0, placed.exports Stays (λ r i. i) t still e x f a.1));
    theirs = h.theirs;
    imported = λ e i. h.imported e (import_there e i);
    answers = answers;
    pending = λ o q i. subst (λ (m : Map AnswerEntry). AnswersWith o (map.get m q)) (sym b.answers) (h.pending o q (still_open o q i));
    awaited = λ q a e. h.awaited q a (ap (λ m. map.get m q) (sym b.answers) ∙ e);
    opens = opens;
    returns = returns;
    answered = λ q x e i. still_answered q x e i (b.questions q);
    met = subst (λ (E : Map Export). EachTargetCap (λ e. IsSome (map.get E e)) back) (sym b.exports) h.met;
    named = (let a = h.named in (
      subst (λ (E : Map Export). AllMet E other.exports (has_of [] other.imports other.questions) out) (sym b.exports) a.0,
      subst (λ (E : Map Export). AllMet other.exports E (has_of [] t.imports t.questions) back) (sym b.exports)
          (met_fewer other.exports s.exports (has_of [] s.imports s.questions) (has_of [] t.imports t.questions) back import_there a.1),
    ));
    sent = subst (λ (m : Map Embargo). EachLoop (λ e. IsSome (map.get m e)) (λ e. Unit {0}) out) (sym b.embargoes) h.sent;
    echoed = subst (λ (m : Map Embargo). EachLoop (λ e. Unit {0}) (λ e. IsSome (map.get m e)) back) (sym b.embargoes) h.echoed;
  }
