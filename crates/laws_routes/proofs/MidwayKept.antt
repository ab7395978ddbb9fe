-- A call is counted, and its outcome is kept: it is still so in the middle of the step.
use Rattle.std.specs.FinMap as map
use Rattle.std.proofs.Common.{◌≡◌, ◌⊎◌, inl, inr, ℕ, ◌+◌, zero, suc, List, [], ◌∷◌, ◌++◌, Option, None, Some, IsSome, refl, sym, ap, subst, ◌∙◌}
use Rattle.finite_maps.specs.Tally.{Map}
use Rattle.finite_maps.proofs.Tested.{at_put}
use Rattle.rpc_msg.specs.declared.ids.EmbargoId.{EmbargoId}
use Rattle.rpc_msg.specs.declared.message.Message.{Message}
use Rattle.rpc_machine.specs.declared.calls.Caller.TheVariants as caller_of
use Rattle.rpc_machine.specs.declared.calls.HeldCall.{HeldCall}
use Rattle.rpc_machine.specs.declared.calls.KeptOutcome.{KeptOutcome}
use Rattle.rpc_machine.specs.declared.calls.OwnCall.{OwnCall}
use Rattle.rpc_machine.specs.declared.calls.Promise.{Promise}
use Rattle.rpc_machine.specs.declared.calls.Promise.TheVariants as promise
use Rattle.rpc_machine.specs.declared.calls.WaitingCall.{WaitingCall}
use Rattle.rpc_machine.specs.declared.calls.OwnCall.TheVariants as own_call
use Rattle.rpc_machine.specs.declared.entries.Reference.{Reference}
use Rattle.rpc_machine.specs.declared.node.Node.{Node}
use Rattle.rpc_machine.specs.declared.node.Node.TheVariants as node
use Rattle.rpc_machine.specs.State.{State}
use Rattle.rpc_machine.specs.Nodes.{field_link, link, promise_link, value_of}
use Rattle.rpc_machine.specs.Commands.{counted, with_outcome}
use Rattle.rpc_machine.specs.Progress.{Progress}
use Rattle.rpc_machine.specs.Laws as machine
use Rattle.laws_steps.specs.Callers.{IsOpenFor, peer}
use Rattle.laws_steps.specs.Settled.{IsThere}
use Rattle.laws_routes.specs.MakingLaws.{EmbargoIsThere, MayCall}
use Rattle.laws_routes.specs.Ties.{Around}
use Rattle.laws_routes.specs.Midway.{AllAreHeld, CallsAreHeld, HeldCallsAreHeld, IsHeld, IsOutcomeOf, Midway}
use Rattle.laws_routes.proofs.FromMidway.{may_go, may_keep}

-- What is held stays so where no table loses an entry, and no question is finished.
pub held_more : (s : State) (R : Map Reference) (P : Map Promise) (O : Map KeptOutcome) (C : Map OwnCall) (T : Map ℕ) (a b c : ℕ) → ((p : ℕ) → IsSome (map.get s.promises p) → IsSome (map.get P p)) → ((o : ℕ) → IsSome (map.get s.outcomes o) → IsSome (map.get O o)) → (n : Node)
    → IsHeld s n → IsHeld (record s { refs = R; promises = P; outcomes = O; calls = C; tasks = T; next_ref = a; next_call = b; next_task = c }) n
held_more s R P O C T a b c kept more (node.Object k) i = i
held_more s R P O C T a b c kept more (node.Promise p) i = (kept p i.0, i.1)
held_more s R P O C T a b c kept more (node.Field o path) i = (more o i.0, i.1)
held_more s R P O C T a b c kept more (node.Import e) i = i
held_more s R P O C T a b c kept more (node.Pipe q path) i = i
held_more s R P O C T a b c kept more (node.Broken reason) i = i

pub all_still : (s t : State) → ((k : Node) → IsHeld s k → IsHeld t k) → (ns : List Node) → AllAreHeld s ns → AllAreHeld t ns
all_still s t f [] i = tt
all_still s t f (n ∷ ns) i = (f n i.0, all_still s t f ns i.1)

pub calls_still : (s t : State) → ((k : Node) → IsHeld s k → IsHeld t k) → (cs : List WaitingCall) → CallsAreHeld s cs → CallsAreHeld t cs
calls_still s t f [] i = tt
calls_still s t f (c ∷ cs) i = let r = c.request in (all_still s t f r.caps i.0, calls_still s t f cs i.1)

pub held_still : (s t : State) → ((k : Node) → IsHeld s k → IsHeld t k) → (hs : List HeldCall) → HeldCallsAreHeld s hs → HeldCallsAreHeld t hs
held_still s t f [] i = tt
held_still s t f (h ∷ hs) i = (all_still s t f h.call.request.caps i.0, held_still s t f hs i.1)

-- Other references, to what is held, and more outcomes, of which none is known that was not.
module _ (s other : State) (out back : List Message) (h : Midway s other out back) (R : Map Reference) (P : Map Promise) (O : Map KeptOutcome) (C : Map OwnCall) (T : Map ℕ) (a b c : ℕ)
    (heads : (r : ℕ) (x : Reference) → map.get R r ≡ Some x → IsHeld s x.head) (paired : (r : ℕ) (x : Reference) → map.get R r ≡ Some x → EmbargoIsThere s r x.embargo)
    (kept : (p : ℕ) → IsSome (map.get s.promises p) → IsSome (map.get P p)) (leads : (p : ℕ) → promise_link (map.get P p) ≡ promise_link (map.get s.promises p))
    (more : (o : ℕ) → IsSome (map.get s.outcomes o) → IsSome (map.get O o)) (values : (o : ℕ) → value_of (map.get O o) ≡ value_of (map.get s.outcomes o))
    (waits : (p : ℕ) (cs : List WaitingCall) → map.get P p ≡ Some (promise.Open cs) → CallsAreHeld s cs) (holds : (o : ℕ) (x : KeptOutcome) → map.get O o ≡ Some x → HeldCallsAreHeld s x.waiting) (callers : (o q : ℕ) → IsOutcomeOf q (map.get s.outcomes o) → IsOutcomeOf q (map.get O o)) (pending : (o q : ℕ) → IsOpenFor q (map.get O o) → IsOpenFor q (map.get s.outcomes o)) where
  abbrev t : State
  t = record s { refs = R; promises = P; outcomes = O; calls = C; tasks = T; next_ref = a; next_call = b; next_task = c }

  held : (n : Node) → IsHeld s n → IsHeld t n
  held = held_more s R P O C T a b c kept more

  same_link : (n : Node) → link t n ≡ link s n
  same_link (node.Object k) = refl
  same_link (node.Promise p) = leads p
  same_link (node.Field o path) = ap (field_link path) (values o)
  same_link (node.Import e) = refl
  same_link (node.Pipe q path) = refl
  same_link (node.Broken reason) = refl

  stops : (d : ℕ) (n : Node) → machine.Stops s d n → machine.Stops t d n
  stops zero n e = same_link n ∙ e
  stops (suc d) n e = (e.0, same_link n ∙ e.1, stops d e.0 e.2)

  -- A node that comes leads nowhere.
  before : (n : Node) → IsThere t n → IsThere s n ⊎ (link s n ≡ None)
  before (node.Object k) i = inl i
  before (node.Promise p) i = by (map.get s.promises p)
    where
      by : (z : Option Promise) → IsSome z ⊎ (promise_link z ≡ None)
      by None = inr refl
      by (Some x) = inl refl
  before (node.Field o path) i = by (map.get s.outcomes o)
    where
      by : (z : Option KeptOutcome) → IsSome z ⊎ (field_link path (value_of z) ≡ None)
      by None = inr refl
      by (Some x) = inl refl
  before (node.Import e) i = inl i
  before (node.Pipe q path) i = inl i
  before (node.Broken reason) i = inl i

  embargo : (r : ℕ) (e : Option EmbargoId) → EmbargoIsThere s r e → EmbargoIsThere t r e
  embargo r None i = tt
  embargo r (Some e) i = i

  pub moved : Midway t other out back
  moved = record {
    stop = λ m. (let a = h.stop m in (a.0, stops a.0 m a.1));
    links = λ m k i e. goes m k (sym (same_link m) ∙ e) (before m i);
    heads = λ r x e. held x.head (heads r x e);
    embargoes = λ e b i. held b.node (h.embargoes e b i);
    resolved = λ e said to a. held to (h.resolved e said to a);
    returned = λ q path said to a. held to (h.returned q path said to a);
    waits = λ p cs e. calls_still s t held cs (waits p cs e);
    holds = λ o x e. held_still s t held x.waiting (holds o x e);
    keeps = λ e b i. calls_still s t held b.waiting (h.keeps e b i);
    paired = λ r x e. embargo r x.embargo (paired r x e);
    exports = λ e x f. (let a = h.exports e x f in (a.0, held x.node a.1));
    theirs = h.theirs;
    imported = h.imported;
    answers = λ q a f. callers a.outcome q (h.answers q a f);
    pending = λ o q i. h.pending o q (pending o q i);
    awaited = h.awaited;
    opens = h.opens;
    returns = h.returns;
    answered = h.answered;
    met = h.met;
    named = h.named;
    sent = h.sent;
    echoed = h.echoed;
  }
    where
      goes : (m k : Node) → link s m ≡ Some k → IsThere s m ⊎ (link s m ≡ None) → IsHeld t k
      goes m k e (inl i) = held k (h.links m k i e)
      goes m k e (inr f) = let a : Some k ≡ None = sym e ∙ f in cc

pub counted_still : (s other : State) (out back : List Message) → Midway s other out back → (r : ℕ) (x : Reference) → map.get s.refs r ≡ Some x → Midway (counted s r x) other out back
counted_still s other out back h r x at =
    moved s other out back h (map.insert s.refs r y) s.promises s.outcomes s.calls s.tasks s.next_ref (s.next_call + 1) s.next_task
    (at_put (λ k o. (z : Reference) → o ≡ Some z → IsHeld s z.head) s.refs r y (λ z e. (let a : y ≡ z = cc in subst (λ (z : Reference). IsHeld s z.head) a (h.heads r x at))) (λ k n z e. h.heads k z e))
    (at_put (λ k o. (z : Reference) → o ≡ Some z → EmbargoIsThere s k z.embargo) s.refs r y (λ z e. (let a : y ≡ z = cc in subst (λ (z : Reference). EmbargoIsThere s r z.embargo) a (h.paired r x at))) (λ k n z e. h.paired k z e))
    (λ p i. i) (λ p. refl) (λ o i. i) (λ o. refl) h.waits h.holds (λ o q i. i) (λ o q i. i)
  where
    y : Reference
    y = record x { made = x.made + 1 }

pub kept_still : (s other : State) (out back : List Message) → Midway s other out back → (c o : ℕ) → map.get s.outcomes o ≡ None
    → Midway (record (with_outcome s o (caller_of.Application (record { 0 = c }))) { calls = map.insert s.calls c (own_call.Kept o) }) other out back
kept_still s other out back h c o free =
    moved s other out back h s.refs s.promises (map.insert s.outcomes o x) (map.insert s.calls c (own_call.Kept o)) s.tasks s.next_ref s.next_call s.next_task h.heads h.paired (λ p i. i) (λ p. refl)
    (at_put (λ k z. IsSome (map.get s.outcomes k) → IsSome z) s.outcomes o x (λ i. refl) (λ k n i. i))
    (at_put (λ k z. value_of z ≡ value_of (map.get s.outcomes k)) s.outcomes o x (sym (ap value_of free)) (λ k n. refl)) h.waits
    (at_put (λ k z. (y : KeptOutcome) → z ≡ Some y → HeldCallsAreHeld s y.waiting) s.outcomes o x (λ y e. (let a : x ≡ y = cc in subst (λ (y : KeptOutcome). HeldCallsAreHeld s y.waiting) a tt)) (λ k n y e. h.holds k y e))
    (at_put (λ k z. (q : ℕ) → IsOutcomeOf q (map.get s.outcomes k) → IsOutcomeOf q z) s.outcomes o x (λ q i. absurd (subst (IsOutcomeOf q) free i)) (λ k n q i. i))
    (at_put (λ k z. (q : ℕ) → IsOpenFor q z → IsOpenFor q (map.get s.outcomes k)) s.outcomes o x (λ q i. absurd (not_peer q i.1)) (λ k n q i. i))
  where
    x : KeptOutcome
    x = record { caller = caller_of.Application (record { 0 = c }); value = None; waiting = [] }

    not_peer : (q : ℕ) → caller_of.Application (record { 0 = c }) ≡ peer q → ⊥
    not_peer q e = cc

pub may_call : (w : Around) (d : Progress) → Midway d.state w.other (w.out ++ d.effects.sends) w.back → d.state.vat ≡ w.vat → (r : ℕ) (x : Reference) → map.get d.state.refs r ≡ Some x → MayCall w d r x
may_call w d h vat r x at =
    let s = d.state in
    let out = w.out ++ d.effects.sends in
    let one = counted_still s w.other out w.back h r x at in
    let i = h.heads r x at in
    let j : IsHeld (counted s r x) x.head = held_more s (map.insert s.refs r (record x { made = x.made + 1 })) s.promises s.outcomes s.calls s.tasks s.next_ref (s.next_call + 1) s.next_task (λ p i. i) (λ o i. i) x.head i in
    record {
      vat = vat;
      embargo = h.paired r x at;
      keeps = λ o free. may_keep (counted s r x) w.other out w.back one o free;
      here = λ o free. may_go _ w.other out w.back (kept_still (counted s r x) w.other out w.back one s.next_call o free) x.head (kept_held o j);
      far = may_go (counted s r x) w.other out w.back one x.head j;
    }
  where
    s1 : State
    s1 = counted d.state r x

    kept_held : (o : ℕ) → IsHeld s1 x.head → IsHeld (record (with_outcome s1 o (caller_of.Application (record { 0 = (d.state).next_call }))) { calls = map.insert s1.calls (d.state).next_call (own_call.Kept o) }) x.head
    kept_held o i =
        let y : KeptOutcome = record { caller = caller_of.Application (record { 0 = (d.state).next_call }); value = None; waiting = [] } in
        held_more s1 s1.refs s1.promises (map.insert s1.outcomes o y) (map.insert s1.calls (d.state).next_call (own_call.Kept o)) s1.tasks s1.next_ref s1.next_call s1.next_task (λ p i. i) (at_put (λ k z. IsSome (map.get s1.outcomes k) → IsSome z) s1.outcomes o y (λ i. refl) (λ k n i. i)) x.head i
