-- What no place names goes: it is still so in the middle of the step.
use Rattle.std.specs.FinMap as map
use Rattle.std.proofs.Common.{◌≡◌, ◌⊎◌, inl, inr, ℕ, zero, suc, Bool, true, false, nat_eq, List, [], ◌∷◌, ◌++◌, Option, None, Some, IsSome, refl, sym, ap, subst, ◌∙◌}
use Rattle.finite_maps.specs.Tally.{Map}
use Rattle.finite_maps.proofs.Tested.{at_cut, itself}
use Rattle.rpc_msg.specs.declared.ids.EmbargoId.{EmbargoId}
use Rattle.rpc_msg.specs.declared.message.Message.{Message}
use Rattle.rpc_msg.specs.declared.message.Message.TheVariants as message
use Rattle.rpc_msg.specs.declared.message.PlainMessage.{PlainMessage}
use Rattle.rpc_msg.specs.declared.message.PlainMessage.TheVariants as plain
use Rattle.rpc_msg.specs.declared.parts.Descriptor.{Descriptor}
use Rattle.rpc_msg.specs.Messages.{descriptors_of, given}
use Rattle.rpc_machine.specs.declared.calls.Caller.TheVariants as who
use Rattle.rpc_machine.specs.declared.calls.HeldCall.{HeldCall}
use Rattle.rpc_machine.specs.declared.calls.KeptOutcome.{KeptOutcome}
use Rattle.rpc_machine.specs.declared.calls.Promise.{Promise}
use Rattle.rpc_machine.specs.declared.calls.Promise.TheVariants as promise
use Rattle.rpc_machine.specs.declared.calls.Value.{Value}
use Rattle.rpc_machine.specs.declared.calls.WaitingCall.{WaitingCall}
use Rattle.rpc_machine.specs.declared.entries.AnswerEntry.{AnswerEntry}
use Rattle.rpc_machine.specs.declared.entries.Export.{Export}
use Rattle.rpc_machine.specs.declared.entries.Import.{Import}
use Rattle.rpc_machine.specs.declared.node.Node.{Node}
use Rattle.rpc_machine.specs.declared.node.Node.TheVariants as node
use Rattle.rpc_machine.specs.declared.node.Reason.{Reason}
use Rattle.rpc_machine.specs.State.{State}
use Rattle.rpc_machine.specs.Nodes.{field_link, field_of, is_field, is_import, is_promise, link, promise_link, value_of}
use Rattle.rpc_machine.specs.Advancing.{Leads, known_by_resolve, resolution_of}
use Rattle.rpc_machine.specs.Collecting.{AnswerIsOther, CallerIsDone, Collects, Goes, ImportGoes, IsLooseImport, IsLooseOutcome, IsLoosePromise, IsLooseValue, Loose, OutcomeGoes, PromiseGoes, Tight}
use Rattle.rpc_machine.specs.Places.{named_by_calls, named_by_held, names, places}
use Rattle.rpc_machine.specs.Progress.{Progress}
use Rattle.rpc_machine.specs.Laws as machine
use Rattle.laws_steps.specs.Callers.{IsOpenFor}
use Rattle.laws_steps.specs.Settled.{IsAmong, IsThere}
use Rattle.laws_steps.proofs.Among.{among_left, among_right, none_among}
use Rattle.laws_routes.specs.MakingLaws.{EmbargoIsThere}
use Rattle.laws_routes.specs.Named.{AllMet, ResolveMet}
use Rattle.laws_routes.specs.Sayings.{Has, has_behind, has_of, is_among}
use Rattle.laws_routes.specs.Ties.{Around}
use Rattle.laws_routes.specs.Midway.{AllAreHeld, CallsAreHeld, HeldCallsAreHeld, IsHeld, IsOutcomeOf, Midway, MidwayAt}
use Rattle.laws_routes.proofs.Placed as placed
use Rattle.laws_routes.proofs.SayingsCarried.{or_fewer}

-- ---- Fewer imports on the receiver's side

module _ (E F : Map Export) where
  resolve_fewer : (has left : Has) (m : PlainMessage) → ((e : ℕ) → left.import e ≡ true → has.import e ≡ true) → ResolveMet E has m → ResolveMet E left m
  resolve_fewer has left (plain.Abort exception) f h = tt
  resolve_fewer has left (plain.Bootstrap q) f h = tt
  resolve_fewer has left (plain.Call c) f h = tt
  resolve_fewer has left (plain.Return r) f h = tt
  resolve_fewer has left (plain.Finish x) f h = tt
  resolve_fewer has left (plain.Resolve r) f h = λ i. h (f r.promise.0 i)
  resolve_fewer has left (plain.Release r) f h = tt
  resolve_fewer has left (plain.Disembargo x) f h = tt
  resolve_fewer has left (plain.Other n) f h = tt

  pub met_fewer : (has left : Has) (ms : List Message) → ((e : ℕ) → left.import e ≡ true → has.import e ≡ true) → AllMet E F has ms → AllMet E F left ms
  met_fewer has left [] f h = tt
  met_fewer has left (message.Plain m ∷ ms) f h =
      let ds = descriptors_of (message.Plain m) in
      (h.0, resolve_fewer has left m f h.1, met_fewer (has_behind has ds) (has_behind left ds) ms (λ e i. or_fewer (is_among e (given ds)) (has.import e) (left.import e) (f e) i) h.2)
  met_fewer has left (message.Unimplemented m ∷ ms) f h = met_fewer has left ms f h

-- ---- What is left is held

module _ (s t : State) (P : Node → Type 0) (still : (n : Node) → P n → IsHeld s n → IsHeld t n) where
  all_left : (ns : List Node) → ((n : Node) → IsAmong n ns → P n) → AllAreHeld s ns → AllAreHeld t ns
  all_left [] f h = tt
  all_left (n ∷ ns) f h = (still n (f n (inl refl)) h.0, all_left ns (λ m a. f m (inr a)) h.1)

  pub calls_left : (cs : List WaitingCall) → ((n : Node) → IsAmong n (named_by_calls cs) → P n) → CallsAreHeld s cs → CallsAreHeld t cs
  calls_left [] f h = tt
  calls_left (c ∷ cs) f h =
      let caps = c.request.caps in
      (all_left caps (λ m a. f m (among_left m caps (named_by_calls cs) a)) h.0, calls_left cs (λ m a. f m (among_right m caps (named_by_calls cs) a)) h.1)

  pub held_left : (hs : List HeldCall) → ((n : Node) → IsAmong n (named_by_held hs) → P n) → HeldCallsAreHeld s hs → HeldCallsAreHeld t hs
  held_left [] f h = tt
  held_left (x ∷ hs) f h =
      let caps = x.call.request.caps in
      (all_left caps (λ m a. f m (among_left m caps (named_by_held hs) a)) h.0, held_left hs (λ m a. f m (among_right m caps (named_by_held hs) a)) h.1)

pub less_stops : (s t : State) → ((n : Node) → (link t n ≡ link s n) ⊎ (link t n ≡ None)) → (d : ℕ) (n : Node) → machine.Stops s d n → (e : ℕ) × machine.Stops t e n
less_stops s t f zero n h = by (f n)
  where
    by : (link t n ≡ link s n) ⊎ (link t n ≡ None) → (e : ℕ) × machine.Stops t e n
    by (inl a) = (0, a ∙ h)
    by (inr a) = (0, a)
less_stops s t f (suc d) n h = by (less_stops s t f d h.0 h.2) (f n)
  where
    by : (e : ℕ) × machine.Stops t e h.0 → (link t n ≡ link s n) ⊎ (link t n ≡ None) → (e : ℕ) × machine.Stops t e n
    by r (inl a) = (suc r.0, (h.0, a ∙ h.1, r.1))
    by r (inr a) = (0, a)

module _ (s other : State) (out back : List Message) (h : Midway s other out back) (test : Node → Bool) (fine : (r : Reason) → test (node.Broken r) ≡ false) (none : names s test ≡ 0) (P : Map Promise) (O : Map KeptOutcome) (I : Map Import)
    (promises_left : (p : ℕ) (x : Promise) → map.get P p ≡ Some x → map.get s.promises p ≡ Some x) (outcomes_left : (o : ℕ) (x : KeptOutcome) → map.get O o ≡ Some x → map.get s.outcomes o ≡ Some x)
    (imports_left : (e : ℕ) (x : Import) → map.get I e ≡ Some x → map.get s.imports e ≡ Some x) where
  abbrev t : State
  t = record s { promises = P; outcomes = O; imports = I }

  every : (n : Node) → IsAmong n (places s) → test n ≡ false
  every = none_among test (places s) none

  less : (n : Node) → (link t n ≡ link s n) ⊎ (link t n ≡ None)
  less (node.Object o) = inr refl
  less (node.Promise p) = by (map.get P p) refl
    where
      by : (o : Option Promise) → map.get P p ≡ o → (promise_link o ≡ promise_link (map.get s.promises p)) ⊎ (promise_link o ≡ None)
      by None e = inr refl
      by (Some x) e = inl (sym (ap promise_link (promises_left p x e)))
  less (node.Field o path) = by (map.get O o) refl
    where
      by : (z : Option KeptOutcome) → map.get O o ≡ z → (field_link path (value_of z) ≡ field_link path (value_of (map.get s.outcomes o))) ⊎ (field_link path (value_of z) ≡ None)
      by None e = inr refl
      by (Some x) e = inl (sym (ap (λ z. field_link path (value_of z)) (outcomes_left o x e)))
  less (node.Import e) = inr refl
  less (node.Pipe q path) = inr refl
  less (node.Broken reason) = inr refl

  embargo : (r : ℕ) (e : Option EmbargoId) → EmbargoIsThere s r e → EmbargoIsThere t r e
  embargo r None i = tt
  embargo r (Some e) i = i

  import_there : (e : ℕ) → IsSome (map.get I e) → IsSome (map.get s.imports e)
  import_there e i = by (map.get I e) refl i
    where
      by : (o : Option Import) → map.get I e ≡ o → IsSome o → IsSome (map.get s.imports e)
      by None f k = cc
      by (Some x) f k = subst (λ (o : Option Import). IsSome o) (sym (imports_left e x f)) refl

  still_open : (o q : ℕ) → IsOpenFor q (map.get O o) → IsOpenFor q (map.get s.outcomes o)
  still_open o q i = by (map.get O o) refl i
    where
      by : (z : Option KeptOutcome) → map.get O o ≡ z → IsOpenFor q z → IsOpenFor q (map.get s.outcomes o)
      by None f k = absurd k
      by (Some x) f k = subst (IsOpenFor q) (sym (outcomes_left o x f)) k

  module _ (still : (n : Node) → test n ≡ false → IsHeld s n → IsHeld t n) (answers : (q : ℕ) (a : AnswerEntry) → map.get s.answers q ≡ Some a → IsOutcomeOf q (map.get O a.outcome)) where
    leads_held : (m k : Node) → link t m ≡ Some k → IsHeld t k
    leads_held (node.Object o) k e = let a : None ≡ Some k = e in cc
    leads_held (node.Promise p) k e = by (map.get P p) refl e
      where
        by : (o : Option Promise) → map.get P p ≡ o → promise_link o ≡ Some k → IsHeld t k
        by None f g = cc
        by (Some (promise.Open cs)) f g = cc
        by (Some (promise.Fixed to)) f g =
            let at = promises_left p (promise.Fixed to) f in
            let a : Some to ≡ Some k = g in
            let is : to ≡ k = cc in
            let there : IsThere s (node.Promise p) = subst (λ (o : Option Promise). IsSome o) (sym at) refl in
            subst (IsHeld t) is (still to (placed.fixed_to (λ n. test n ≡ false) fine s every p to at) (h.links (node.Promise p) to there (ap promise_link at)))
    leads_held (node.Field o path) k e = by (map.get O o) refl e
      where
        by_value : (x : KeptOutcome) (z : Option Value) → map.get s.outcomes o ≡ Some x → x.value ≡ z → field_link path z ≡ Some k → IsHeld t k
        by_value x None at f g = cc
        by_value x (Some v) at f g =
            let a : Some (field_of v path) ≡ Some k = g in
            let is : field_of v path ≡ k = cc in
            let there : IsThere s (node.Field o path) = subst (λ (z : Option KeptOutcome). IsSome z) (sym at) refl in
            subst (IsHeld t) is (still (field_of v path) (placed.fields (λ n. test n ≡ false) fine s every o x v path at f) (h.links (node.Field o path) (field_of v path) there (ap (λ z. field_link path (value_of z)) at ∙ ap (field_link path) f)))

        by : (z : Option KeptOutcome) → map.get O o ≡ z → field_link path (value_of z) ≡ Some k → IsHeld t k
        by None f g = cc
        by (Some x) f g = by_value x x.value (outcomes_left o x f) refl g
    leads_held (node.Import j) k e = let a : None ≡ Some k = e in cc
    leads_held (node.Pipe q path) k e = let a : None ≡ Some k = e in cc
    leads_held (node.Broken reason) k e = let a : None ≡ Some k = e in cc

    resolved_left : (e : ℕ) (said : Descriptor) (to : Node) → known_by_resolve (resolution_of (map.get I e)) ≡ Leads said to → IsHeld t to
    resolved_left e said to a = by (map.get I e) refl a
      where
        by : (o : Option Import) → map.get I e ≡ o → known_by_resolve (resolution_of o) ≡ Leads said to → IsHeld t to
        by None f g = cc
        by (Some x) f g =
            let was : known_by_resolve (resolution_of (map.get s.imports e)) ≡ Leads said to = ap (λ o. known_by_resolve (resolution_of o)) (imports_left e x f) ∙ g in
            still to (placed.resolved (λ n. test n ≡ false) fine s every e said to was) (h.resolved e said to was)

    lessened : Midway t other out back
    lessened = record {
      stop = λ n. (let a = h.stop n in less_stops s t less a.0 n a.1);
      links = λ m k i e. leads_held m k e;
      heads = λ r x e. still x.head (placed.heads (λ n. test n ≡ false) fine s every r x e) (h.heads r x e);
      embargoes = λ e b i. still b.node (placed.embargoes (λ n. test n ≡ false) fine s every e b i) (h.embargoes e b i);
      resolved = resolved_left;
      returned = λ q path said to a. still to (placed.returned (λ n. test n ≡ false) fine s every q path said to a) (h.returned q path said to a);
      waits = λ p cs e. (let at = promises_left p (promise.Open cs) e in calls_left s t (λ n. test n ≡ false) still cs (placed.waits (λ n. test n ≡ false) fine s every p cs at) (h.waits p cs at));
      holds = λ o x e. (let at = outcomes_left o x e in held_left s t (λ n. test n ≡ false) still x.waiting (placed.holds (λ n. test n ≡ false) fine s every o x at) (h.holds o x at));
      keeps = λ e b i. calls_left s t (λ n. test n ≡ false) still b.waiting (placed.keeps (λ n. test n ≡ false) fine s every e b i) (h.keeps e b i);
      paired = λ r x e. embargo r x.embargo (h.paired r x e);
      exports = λ e x f. (let a = h.exports e x f in (a.0, still x.node (placed.exports (λ n. test n ≡ false) fine s every e x f) a.1));
      theirs = h.theirs;
      imported = λ e i. h.imported e (import_there e i);
      answers = answers;
      pending = λ o q i. h.pending o q (still_open o q i);
      awaited = h.awaited;
      opens = h.opens;
      returns = h.returns;
      answered = h.answered;
      met = h.met;
      named = (let a = h.named in (a.0, met_fewer other.exports s.exports (has_of [] s.imports s.questions) (has_of [] I s.questions) back import_there a.1));
      sent = h.sent;
      echoed = h.echoed;
    }

-- ---- One thing goes

module _ (s other : State) (out back : List Message) (h : Midway s other out back) where
  promise_gone : (p : ℕ) → names s (is_promise p) ≡ 0 → Midway (record s { promises = map.remove s.promises p }) other out back
  promise_gone p none =
      lessened s other out back h (is_promise p) (λ r. refl) none P s.outcomes s.imports (at_cut (λ q o. (x : Promise) → o ≡ Some x → map.get s.promises q ≡ Some x) s.promises p (λ x e. cc) (λ q n x e. e)) (λ o x e. e) (λ e x f. f) still h.answers
    where
      P : Map Promise
      P = map.remove s.promises p

      still : (n : Node) → is_promise p n ≡ false → IsHeld s n → IsHeld (record s { promises = P }) n
      still (node.Object o) e i = i
      still (node.Promise q) e i = (at_cut (λ q o. nat_eq q p ≡ false → IsSome (map.get s.promises q) → IsSome o) s.promises p (λ e i. (let a : true ≡ false = sym (itself p) ∙ e in cc)) (λ q n e i. i) q e i.0, tt)
      still (node.Field o path) e i = i
      still (node.Import j) e i = i
      still (node.Pipe q path) e i = i
      still (node.Broken reason) e i = i

  import_gone : (k : ℕ) → names s (is_import k) ≡ 0 → Midway (record s { imports = map.remove s.imports k }) other out back
  import_gone k none =
      lessened s other out back h (is_import k) (λ r. refl) none s.promises s.outcomes I (λ p x e. e) (λ o x e. e) (at_cut (λ q o. (x : Import) → o ≡ Some x → map.get s.imports q ≡ Some x) s.imports k (λ x e. cc) (λ q n x e. e)) still h.answers
    where
      I : Map Import
      I = map.remove s.imports k

      still : (n : Node) → is_import k n ≡ false → IsHeld s n → IsHeld (record s { imports = I }) n
      still (node.Object o) e i = i
      still (node.Promise q) e i = i
      still (node.Field o path) e i = i
      still (node.Import j) e i = (tt, at_cut (λ q o. nat_eq q k ≡ false → IsSome (map.get s.imports q) → IsSome o) s.imports k (λ e i. (let a : true ≡ false = sym (itself k) ∙ e in cc)) (λ q n e i. i) j.0 e i.1)
      still (node.Pipe q path) e i = i
      still (node.Broken reason) e i = i

  outcome_gone : (o : ℕ) → IsLooseOutcome s o (map.get s.outcomes o) → names s (is_field o) ≡ 0 → Midway (record s { outcomes = map.remove s.outcomes o }) other out back
  outcome_gone o loose none =
      lessened s other out back h (is_field o) (λ r. refl) none s.promises O s.imports (λ p x e. e) (at_cut (λ q z. (x : KeptOutcome) → z ≡ Some x → map.get s.outcomes q ≡ Some x) s.outcomes o (λ x e. cc) (λ q n x e. e)) (λ e x f. f) still
      (λ q a f. at_cut (λ k z. a.outcome ≡ k → IsOutcomeOf q (map.get s.outcomes k) → IsOutcomeOf q z) s.outcomes o (λ e i. done q a f (map.get s.outcomes o) loose i e) (λ k n e i. i) a.outcome refl (h.answers q a f))
    where
      O : Map KeptOutcome
      O = map.remove s.outcomes o

      closed : (q : ℕ) (a : AnswerEntry) (x : KeptOutcome) (z : Option Value) → map.get s.answers q ≡ Some a → IsLooseValue s o x z → x.caller ≡ who.Peer (record { 0 = q }) → a.outcome ≡ o → ⊥
      closed q a x None f l i e = l
      closed q a x (Some v) f l i e = (subst (AnswerIsOther o) f (subst (CallerIsDone s o) i l.1)) e

      done : (q : ℕ) (a : AnswerEntry) → map.get s.answers q ≡ Some a → (z : Option KeptOutcome) → IsLooseOutcome s o z → IsOutcomeOf q z → a.outcome ≡ o → ⊥
      done q a f None l i e = l
      done q a f (Some x) l i e = closed q a x x.value f l i e

      still : (n : Node) → is_field o n ≡ false → IsHeld s n → IsHeld (record s { outcomes = O }) n
      still (node.Object k) e i = i
      still (node.Promise q) e i = i
      still (node.Field k path) e i = (at_cut (λ q z. nat_eq q o ≡ false → IsSome (map.get s.outcomes q) → IsSome z) s.outcomes o (λ e i. (let a : true ≡ false = sym (itself o) ∙ e in cc)) (λ q n e i. i) k e i.0, tt)
      still (node.Import j) e i = i
      still (node.Pipe q path) e i = i
      still (node.Broken reason) e i = i

  promise_names : (p : ℕ) (z : Option Promise) → IsLoosePromise s p z → names s (is_promise p) ≡ 0
  promise_names p None l = absurd l
  promise_names p (Some (promise.Open cs)) l = absurd l
  promise_names p (Some (promise.Fixed to)) l = l

  value_names : (o : ℕ) (x : KeptOutcome) (z : Option Value) → IsLooseValue s o x z → names s (is_field o) ≡ 0
  value_names o x None l = absurd l
  value_names o x (Some v) l = l.2

  outcome_names : (o : ℕ) (z : Option KeptOutcome) → IsLooseOutcome s o z → names s (is_field o) ≡ 0
  outcome_names o None l = absurd l
  outcome_names o (Some x) l = value_names o x x.value l

  import_names : (e : ℕ) (z : Option Import) → IsLooseImport s e z → names s (is_import e) ≡ 0
  import_names e None l = absurd l
  import_names e (Some x) l = l

goes : (w : Around) (d new : Progress) → MidwayAt w d → Goes d new → MidwayAt w new
goes w d new h (PromiseGoes p l e) =
    let s = d.state in
    let out = w.out ++ d.effects.sends in
    subst (MidwayAt w) (sym e) (promise_gone s w.other out w.back h p (promise_names s w.other out w.back h p (map.get s.promises p) l))
goes w d new h (OutcomeGoes o l e) =
    let s = d.state in
    let out = w.out ++ d.effects.sends in
    subst (MidwayAt w) (sym e) (outcome_gone s w.other out w.back h o l (outcome_names s w.other out w.back h o (map.get s.outcomes o) l))
goes w d new h (ImportGoes i l e) =
    let s = d.state in
    let out = w.out ++ d.effects.sends in
    subst (MidwayAt w) (sym e) (import_gone s w.other out w.back h i (import_names s w.other out w.back h i (map.get s.imports i) l))

pub collected : (w : Around) (new d : Progress) → MidwayAt w d → Collects new d → MidwayAt w new
collected w new d h (Tight a) = h
collected w new d h (Loose {mid = mid} g more) = collected w new mid (goes w d mid h g) more
