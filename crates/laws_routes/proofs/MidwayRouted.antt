-- A call goes on: it is still so in the middle of the step.
use Rattle.std.specs.FinMap as map
use Rattle.std.proofs.Common.{◌≡◌, ℕ, ◌+◌, zero, suc, nat_eq, false, List, [], ◌∷◌, ◌++◌, append_assoc, Option, None, Some, IsSome, refl, sym, ap, subst, ◌∙◌}
use Rattle.finite_maps.specs.Tally.{Map}
use Rattle.finite_maps.proofs.Tested.{at_put, sides}
use Rattle.finite_maps.proofs.Gets.{get-insert_same}
use Rattle.rpc_msg.specs.declared.parts.Descriptor.{Descriptor}
use Rattle.rpc_msg.specs.declared.parts.Target.{Target}
use Rattle.rpc_msg.specs.declared.message.Call as calls
use Rattle.rpc_msg.specs.declared.message.PlainMessage.{PlainMessage}
use Rattle.rpc_msg.specs.declared.message.PlainMessage.TheVariants as plain
use Rattle.rpc_msg.specs.declared.message.Message.{Message}
use Rattle.rpc_msg.specs.declared.message.Message.TheVariants as message
use Rattle.rpc_msg.specs.Messages.{descriptors_of, given}
use Rattle.rpc_machine.specs.declared.calls.HeldCall.{HeldCall}
use Rattle.rpc_machine.specs.declared.calls.KeptOutcome.{KeptOutcome}
use Rattle.rpc_machine.specs.declared.calls.Promise.{Promise}
use Rattle.rpc_machine.specs.declared.calls.Promise.TheVariants as promise
use Rattle.rpc_machine.specs.declared.calls.Request.{Request}
use Rattle.rpc_machine.specs.declared.calls.WaitingCall.{WaitingCall}
use Rattle.rpc_machine.specs.declared.entries.Export.{Export}
use Rattle.rpc_machine.specs.declared.entries.Finishing.TheVariants as finishing
use Rattle.rpc_machine.specs.declared.entries.Question.{Question}
use Rattle.rpc_machine.specs.declared.entries.Reference.{Reference}
use Rattle.rpc_machine.specs.declared.entries.Returned.{Returned}
use Rattle.rpc_machine.specs.declared.entries.Role.{Role}
use Rattle.rpc_machine.specs.declared.node.Node.{Node}
use Rattle.rpc_machine.specs.declared.node.Node.TheVariants as node
use Rattle.rpc_machine.specs.State.{State}
use Rattle.rpc_machine.specs.Nodes.{is_wire, link, promise_link, settle, value_of}
use Rattle.rpc_machine.specs.Advancing.{NothingYet, Leads, known_by_return, returned_of}
use Rattle.rpc_machine.specs.Descriptors.{Described, DescribesAll, ExportedAs}
use Rattle.rpc_machine.specs.Progress.{Progress, export_ids, with_refs}
use Rattle.rpc_machine.specs.Routing.{Asks, RoutedTo, RoutesAll, RoutesHeld, WaitsForField, WaitsForPromise}
use Rattle.rpc_machine.specs.Laws as machine
use Rattle.laws_steps.specs.Callers.{IsOpenFor}
use Rattle.laws_steps.specs.Settled.{IsThere}
use Rattle.laws_routes.specs.Laws.{AllMayGo}
use Rattle.laws_routes.specs.OutcomeLaws.{AllHeldMayGo}
use Rattle.laws_routes.specs.MakingLaws.{EmbargoIsThere}
use Rattle.laws_routes.specs.Named.{AllMet, EachMet, EachReturn, LinksMet, NamesMet, ResolveMet}
use Rattle.laws_routes.specs.Premises.{EachLoop, EachOpen, IsUnfinished, OpenOf}
use Rattle.laws_routes.specs.Sayings.{Has, has_behind, has_of}
use Rattle.laws_routes.specs.Ties.{Around}
use Rattle.laws_routes.specs.Midway.{AllAreHeld, CallsAreHeld, HeldCallsAreHeld, IsHeld, IsOutcomeOf, Midway, MidwayAt}
use Rattle.laws_routes.proofs.ExportsGrown.{Exports, Grown, described, described_all}
use Rattle.laws_routes.proofs.FromMidway.{at_end, may_go}
use Rattle.laws_routes.proofs.LinkShapes.{cap_map, open_map}
use Rattle.laws_routes.proofs.MidwayKept.{calls_still, held_more, held_still, moved}
use Rattle.laws_routes.proofs.ReturnsSaySo.{there_as}
use Rattle.laws_routes.proofs.SayingsCarried.{all_met, all_there, name_met, return_map, there_still}
use Rattle.laws_routes.proofs.WhatGoes.{none_there}

-- ---- New references, tasks, and calls that wait

pub refs_still : (ns : List Node) (s other : State) (out back : List Message) → Midway s other out back → AllAreHeld s ns → Midway (with_refs s ns) other out back
refs_still [] s other out back h i = h
refs_still (n ∷ ns) s other out back h i = refs_still ns (record s { refs = R; next_ref = s.next_ref + 1 }) other out back
    (moved s other out back h R s.promises s.outcomes s.calls s.tasks (s.next_ref + 1) s.next_call s.next_task
    (at_put (λ k o. (z : Reference) → o ≡ Some z → IsHeld s z.head) s.refs s.next_ref y (λ z e. (let a : y ≡ z = cc in subst (λ (z : Reference). IsHeld s z.head) a i.0)) (λ k f z e. h.heads k z e))
    (at_put (λ k o. (z : Reference) → o ≡ Some z → EmbargoIsThere s k z.embargo) s.refs s.next_ref y (λ z e. (let a : y ≡ z = cc in subst (λ (z : Reference). EmbargoIsThere s s.next_ref z.embargo) a tt)) (λ k f z e. h.paired k z e))
    (λ p j. j) (λ p. refl) (λ o j. j) (λ o. refl) h.waits h.holds (λ o q i. i) (λ o q i. i))
    (all ns i.1)
  where
    y : Reference
    y = record { head = n; embargo = None; made = 0 }

    R : Map Reference
    R = map.insert s.refs s.next_ref y

    all : (ms : List Node) → AllAreHeld s ms → AllAreHeld (record s { refs = R; next_ref = s.next_ref + 1 }) ms
    all [] j = tt
    all (m ∷ ms) j = (held_more s R s.promises s.outcomes s.calls s.tasks (s.next_ref + 1) s.next_call s.next_task (λ p k. k) (λ o k. k) m j.0, all ms j.1)

pub tasks_still : (s other : State) (out back : List Message) (T : Map ℕ) (k : ℕ) → Midway s other out back → Midway (record s { tasks = T; next_task = k }) other out back
tasks_still s other out back T k h = moved s other out back h s.refs s.promises s.outcomes s.calls T s.next_ref s.next_call k h.heads h.paired (λ p i. i) (λ p. refl) (λ o i. i) (λ o. refl) h.waits h.holds (λ o q i. i) (λ o q i. i)

pub calls_more : (s : State) (cs : List WaitingCall) (c : WaitingCall) → CallsAreHeld s cs → AllAreHeld s c.request.caps → CallsAreHeld s (cs ++ c ∷ [])
calls_more s [] c h i = (i, tt)
calls_more s (x ∷ cs) c h i = (h.0, calls_more s cs c h.1 i)

held_calls_more : (s : State) (hs : List HeldCall) (x : HeldCall) → HeldCallsAreHeld s hs → AllAreHeld s x.call.request.caps → HeldCallsAreHeld s (hs ++ x ∷ [])
held_calls_more s [] x h i = (i, tt)
held_calls_more s (y ∷ hs) x h i = (h.0, held_calls_more s hs x h.1 i)

waits_at_promise : (w : Around) (d : Progress) (c : WaitingCall) (p : ℕ) (o : Option Promise) (new : Progress) → map.get d.state.promises p ≡ o → MidwayAt w d → AllAreHeld d.state c.request.caps → WaitsForPromise d c p o new → MidwayAt w new
waits_at_promise w d c p None new e h i a = absurd a
waits_at_promise w d c p (Some (promise.Fixed to)) new e h i a = absurd a
waits_at_promise w d c p (Some (promise.Open cs)) new e h i a =
    let s = d.state in
    let x : Promise = promise.Open (cs ++ c ∷ []) in
    subst (MidwayAt w) (sym a)
    (moved s w.other (w.out ++ d.effects.sends) w.back h s.refs (map.insert s.promises p x) s.outcomes s.calls s.tasks s.next_ref s.next_call s.next_task h.heads h.paired
    (at_put (λ k z. IsSome (map.get s.promises k) → IsSome z) s.promises p x (λ i. refl) (λ k n i. i))
    (at_put (λ k z. promise_link z ≡ promise_link (map.get s.promises k)) s.promises p x (sym (ap promise_link e)) (λ k n. refl)) (λ o i. i) (λ o. refl)
    (at_put (λ k z. (ds : List WaitingCall) → z ≡ Some (promise.Open ds) → CallsAreHeld s ds) s.promises p x (λ ds f. (let b : cs ++ c ∷ [] ≡ ds = cc in subst (CallsAreHeld s) b (calls_more s cs c (h.waits p cs e) i))) (λ k n ds f. h.waits k ds f)) h.holds (λ o q i. i) (λ o q i. i))

waits_at_field : (w : Around) (d : Progress) (c : WaitingCall) (o : ℕ) (path : _) (z : Option KeptOutcome) (new : Progress) → map.get d.state.outcomes o ≡ z → MidwayAt w d → AllAreHeld d.state c.request.caps → WaitsForField d c o path z new → MidwayAt w new
waits_at_field w d c o path None new e h i a = absurd a
waits_at_field w d c o path (Some x) new e h i a =
    let s = d.state in
    let y : KeptOutcome = record x { waiting = x.waiting ++ record { path = path; call = c } ∷ [] } in
    subst (MidwayAt w) (sym a)
    (moved s w.other (w.out ++ d.effects.sends) w.back h s.refs s.promises (map.insert s.outcomes o y) s.calls s.tasks s.next_ref s.next_call s.next_task h.heads h.paired (λ p i. i) (λ p. refl)
    (at_put (λ k z. IsSome (map.get s.outcomes k) → IsSome z) s.outcomes o y (λ i. refl) (λ k n i. i))
    (at_put (λ k z. value_of z ≡ value_of (map.get s.outcomes k)) s.outcomes o y (sym (ap value_of e)) (λ k n. refl)) h.waits
    (at_put (λ k z. (u : KeptOutcome) → z ≡ Some u → HeldCallsAreHeld s u.waiting) s.outcomes o y
    (λ u f. (let b : y ≡ u = cc in subst (λ (u : KeptOutcome). HeldCallsAreHeld s u.waiting) b (held_calls_more s x.waiting (record { path = path; call = c }) (h.holds o x e) i))) (λ k n u f. h.holds k u f))
    (at_put (λ k z. (q : ℕ) → IsOutcomeOf q (map.get s.outcomes k) → IsOutcomeOf q z) s.outcomes o y (λ q i. subst (IsOutcomeOf q) e i) (λ k n q i. i))
    (at_put (λ k z. (q : ℕ) → IsOpenFor q z → IsOpenFor q (map.get s.outcomes k)) s.outcomes o y (λ q i. subst (IsOpenFor q) (sym e) i) (λ k n q i. i)))

-- ---- Exports, and a question

-- Exports and questions are of no account to links.
module _ (s : State) (E : Map Export) (Q : Map Question) (more : (q : ℕ) → IsUnfinished (map.get s.questions q) → IsUnfinished (map.get Q q)) where
  abbrev t : State
  t = record s { exports = E; questions = Q }

  held : (n : Node) → IsHeld s n → IsHeld t n
  held (node.Object k) i = i
  held (node.Promise p) i = i
  held (node.Field o path) i = i
  held (node.Import e) i = i
  held (node.Pipe q path) i = (i.0, (more q.0 i.1.0, i.1.1))
  held (node.Broken reason) i = i

  pub all_held : (ns : List Node) → AllAreHeld s ns → AllAreHeld t ns
  all_held [] i = tt
  all_held (n ∷ ns) i = (held n i.0, all_held ns i.1)

  there : (n : Node) → IsThere t n → IsThere s n
  there (node.Object k) i = i
  there (node.Promise p) i = i
  there (node.Field o path) i = i
  there (node.Import e) i = i
  there (node.Pipe q path) i = i
  there (node.Broken reason) i = i

  same_link : (n : Node) → link t n ≡ link s n
  same_link (node.Object k) = refl
  same_link (node.Promise p) = refl
  same_link (node.Field o path) = refl
  same_link (node.Import e) = refl
  same_link (node.Pipe q path) = refl
  same_link (node.Broken reason) = refl

  stops : (d : ℕ) (n : Node) → machine.Stops s d n → machine.Stops t d n
  stops zero n e = same_link n ∙ e
  stops (suc d) n e = (e.0, same_link n ∙ e.1, stops d e.0 e.2)

  embargo : (r : ℕ) (e : _) → EmbargoIsThere s r e → EmbargoIsThere t r e
  embargo r None i = tt
  embargo r (Some e) i = i

  pub asked : (other : State) (out then back : List Message) → Midway s other out back → ((e : ℕ) (x : Export) → map.get E e ≡ Some x → (is_wire x.node ≡ false) × IsHeld s x.node)
      → ((q : ℕ) (path : _) (said : Descriptor) (to : Node) → known_by_return path (returned_of (map.get Q q)) ≡ Leads said to → IsHeld s to)
      → EachOpen (λ q. IsSome (map.get Q q)) then → EachReturn (λ q. IsSome (map.get Q q)) back
      → ((q : ℕ) (x : Question) → map.get Q q ≡ Some x → IsSome x.returned → EachOpen (λ k. nat_eq k q ≡ false) then × EachReturn (λ k. nat_eq k q ≡ false) back) → ((e : ℕ) → IsSome (map.get s.exports e) → IsSome (map.get E e)) → LinksMet t other then back
      → EachLoop (λ e. IsSome (map.get s.embargoes e)) (λ e. Unit {0}) then → Midway t other then back
  asked other out then back h own returned opens returns answered grown named sent = record {
    stop = λ m. (let a = h.stop m in (a.0, stops a.0 m a.1));
    links = λ m k i e. held k (h.links m k (there m i) (sym (same_link m) ∙ e));
    heads = λ r x e. held x.head (h.heads r x e);
    embargoes = λ e b i. held b.node (h.embargoes e b i);
    resolved = λ e said to a. held to (h.resolved e said to a);
    returned = λ q path said to a. held to (returned q path said to a);
    waits = λ p cs e. calls_still s t held cs (h.waits p cs e);
    holds = λ o x e. held_still s t held x.waiting (h.holds o x e);
    keeps = λ e b i. calls_still s t held b.waiting (h.keeps e b i);
    paired = λ r x e. embargo r x.embargo (h.paired r x e);
    exports = λ e x f. (let a = own e x f in (a.0, held x.node a.1));
    theirs = h.theirs;
    imported = h.imported;
    answers = h.answers;
    pending = h.pending;
    awaited = h.awaited;
    opens = opens;
    returns = returns;
    answered = answered;
    met = cap_map _ _ back grown h.met;
    named = named;
    sent = sent;
    echoed = h.echoed;
  }

module _ (s other : State) (out back : List Message) (h : Midway s other out back) where
  -- The exports behind it are own nodes, and held.
  exported_own : (n : Node) (e : ℕ) (o : Option Export) (mid : State) → is_wire n ≡ false → IsHeld s n → ExportedAs s n e o mid → (j : ℕ) (x : Export) → map.get mid.exports j ≡ Some x → (is_wire x.node ≡ false) × IsHeld s x.node
  exported_own n e None mid own i a = subst (λ (z : State). (j : ℕ) (x : Export) → map.get z.exports j ≡ Some x → (is_wire x.node ≡ false) × IsHeld s x.node) (sym a.1)
      (at_put (λ j o. (x : Export) → o ≡ Some x → (is_wire x.node ≡ false) × IsHeld s x.node) s.exports e (record { node = n; count = 1 })
      (λ x f. (let b : record { node = n; count = 1 } ≡ x = cc in subst (λ (x : Export). (is_wire x.node ≡ false) × IsHeld s x.node) b (own, i))) (λ j b x f. h.exports j x f))
  exported_own n e (Some y) mid own i a = subst (λ (z : State). (j : ℕ) (x : Export) → map.get z.exports j ≡ Some x → (is_wire x.node ≡ false) × IsHeld s x.node) (sym a.1)
      (at_put (λ j o. (x : Export) → o ≡ Some x → (is_wire x.node ≡ false) × IsHeld s x.node) s.exports e (record { node = n; count = y.count + 1 })
      (λ x f. (let b : record { node = n; count = y.count + 1 } ≡ x = cc in subst (λ (x : Export). (is_wire x.node ≡ false) × IsHeld s x.node) b (own, i))) (λ j b x f. h.exports j x f))

  grown_still : (mid : State) → Exports s mid → ((j : ℕ) (x : Export) → map.get mid.exports j ≡ Some x → (is_wire x.node ≡ false) × IsHeld s x.node) → Midway mid other out back
  grown_still mid g own =
      let E = g.0 in
      let grows : Grown s.exports E = g.2 in
      let none = all_there other.exports in
      subst (λ (z : State). Midway z other out back) (sym g.1)
      (asked s E s.questions (λ q u. u) other out out back h (subst (λ (z : State). (j : ℕ) (x : Export) → map.get z.exports j ≡ Some x → (is_wire x.node ≡ false) × IsHeld s x.node) g.1 own)
      h.returned h.opens h.returns h.answered (there_still s.exports E grows.still)
      (all_met s.exports E other.exports other.exports grows.still none (has_of [] other.imports other.questions) out h.named.0, all_met other.exports other.exports s.exports E none grows.still (has_of [] s.imports s.questions) back h.named.1) h.sent)

  pub described_still : (n : Node) (c : Descriptor) (mid : State) → IsHeld s n → Described s n c mid → Midway mid other out back × NamesMet mid.exports other.exports c
  described_still (node.Object o) c mid i a = (
    grown_still mid (described s (node.Object o) c mid a) (exported_own (node.Object o) a.0 (map.get s.exports a.0) mid refl i a.2),
    subst (NamesMet mid.exports other.exports) (sym a.1) (there_as s (node.Object o) a.0 (map.get s.exports a.0) mid a.2),
  )
  described_still (node.Promise p) c mid i a = (
    grown_still mid (described s (node.Promise p) c mid a) (exported_own (node.Promise p) a.0 (map.get s.exports a.0) mid refl i a.2),
    subst (NamesMet mid.exports other.exports) (sym a.1) (there_as s (node.Promise p) a.0 (map.get s.exports a.0) mid a.2),
  )
  described_still (node.Field o path) c mid i a = (
    grown_still mid (described s (node.Field o path) c mid a) (exported_own (node.Field o path) a.0 (map.get s.exports a.0) mid refl i a.2),
    subst (NamesMet mid.exports other.exports) (sym a.1) (there_as s (node.Field o path) a.0 (map.get s.exports a.0) mid a.2),
  )
  described_still (node.Import e) c mid i a = (subst (λ (z : State). Midway z other out back) (sym a.1) h, subst (NamesMet mid.exports other.exports) (sym a.0) (h.imported e.0 i.1))
  described_still (node.Pipe q path) c mid i a = (subst (λ (z : State). Midway z other out back) (sym a.1) h, subst (NamesMet mid.exports other.exports) (sym a.0) tt)
  described_still (node.Broken reason) c mid i a = (subst (λ (z : State). Midway z other out back) (sym a.1) h, subst (NamesMet mid.exports other.exports) (sym a.0) tt)

pub held_exports : (s : State) (E : Map Export) (n : Node) → IsHeld s n → IsHeld (record s { exports = E }) n
held_exports s E n i = held s E s.questions (λ q u. u) n i

pub held_behind : (s mid : State) (ns : List Node) → Exports s mid → AllAreHeld s ns → AllAreHeld mid ns
held_behind s mid ns g i = subst (λ (z : State). AllAreHeld z ns) (sym g.1) (all_held s g.0 s.questions (λ q u. u) ns i)

pub all_described : (ns : List Node) (s other : State) (out back : List Message) (ds : List Descriptor) (mid : State) → Midway s other out back → AllAreHeld s ns → DescribesAll s ns ds mid → Midway mid other out back × EachMet mid.exports other.exports ds
all_described [] s other out back [] mid h i a = (subst (λ (z : State). Midway z other out back) (sym a) h, tt)
all_described [] s other out back (c ∷ ds) mid h i a = absurd a
all_described (n ∷ ns) s other out back [] mid h i a = absurd a
all_described (n ∷ ns) s other out back (c ∷ ds) mid h i a =
    let k = at_end s other out back h n i.0 in
    let one = described_still s other out back h (settle s n) c a.0 k.0 a.1 in
    let rest = all_described ns a.0 other out back ds mid one.0 (held_behind s a.0 ns (described s (settle s n) c a.0 a.1) i.1) a.2 in
    let g = described_all a.0 ns ds mid a.2 in
    let grows : Grown a.0.exports g.0 = g.2 in
    (rest.0, (subst (λ (z : State). NamesMet z.exports other.exports c) (sym g.1) (name_met a.0.exports g.0 other.exports other.exports grows.still (all_there other.exports) c one.1), rest.1))

-- ---- One more message

pub opens_more : (P : ℕ → Type 0) (ms : List Message) (m : Message) → EachOpen P ms → OpenOf P m → EachOpen P (ms ++ m ∷ [])
opens_more P [] m h k = (k, tt)
opens_more P (x ∷ ms) m h k = (h.0, opens_more P ms m h.1 k)

pub loops_more : (P Q : ℕ → Type 0) (ms : List Message) (m : Message) → EachLoop P Q ms → EachLoop P Q (m ∷ []) → EachLoop P Q (ms ++ m ∷ [])
loops_more P Q [] m h k = k
loops_more P Q (message.Plain (plain.Abort exception) ∷ ms) m h k = loops_more P Q ms m h k
loops_more P Q (message.Plain (plain.Bootstrap q) ∷ ms) m h k = loops_more P Q ms m h k
loops_more P Q (message.Plain (plain.Call x) ∷ ms) m h k = loops_more P Q ms m h k
loops_more P Q (message.Plain (plain.Return r) ∷ ms) m h k = loops_more P Q ms m h k
loops_more P Q (message.Plain (plain.Finish x) ∷ ms) m h k = loops_more P Q ms m h k
loops_more P Q (message.Plain (plain.Resolve r) ∷ ms) m h k = loops_more P Q ms m h k
loops_more P Q (message.Plain (plain.Release r) ∷ ms) m h k = loops_more P Q ms m h k
loops_more P Q (message.Plain (plain.Disembargo x) ∷ ms) m h k = (h.0, loops_more P Q ms m h.1 k)
loops_more P Q (message.Plain (plain.Other n) ∷ ms) m h k = loops_more P Q ms m h k
loops_more P Q (message.Unimplemented x ∷ ms) m h k = loops_more P Q ms m h k

module _ (E F : Map Export) where
  pub met_more : (has : Has) (ms : List Message) (m : Message) → AllMet E F has ms → ((has : Has) → AllMet E F has (m ∷ [])) → AllMet E F has (ms ++ m ∷ [])
  met_more has [] m h k = k has
  met_more has (message.Plain x ∷ ms) m h k = (h.0, h.1, met_more (has_behind has (descriptors_of (message.Plain x))) ms m h.2 k)
  met_more has (message.Unimplemented x ∷ ms) m h k = met_more has ms m h k

  -- Questions are of no account to it.
  resolve_alike : (has left : Has) (m : PlainMessage) → left.import ≡ has.import → ResolveMet E has m → ResolveMet E left m
  resolve_alike has left (plain.Abort exception) e h = tt
  resolve_alike has left (plain.Bootstrap q) e h = tt
  resolve_alike has left (plain.Call c) e h = tt
  resolve_alike has left (plain.Return r) e h = tt
  resolve_alike has left (plain.Finish x) e h = tt
  resolve_alike has left (plain.Resolve r) e h = λ i. h (ap (λ z. z r.promise.0) (sym e) ∙ i)
  resolve_alike has left (plain.Release r) e h = tt
  resolve_alike has left (plain.Disembargo x) e h = tt
  resolve_alike has left (plain.Other n) e h = tt

  pub met_alike : (has left : Has) (ms : List Message) → left.import ≡ has.import → AllMet E F has ms → AllMet E F left ms
  met_alike has left [] e h = tt
  met_alike has left (message.Plain m ∷ ms) e h =
      let ds = descriptors_of (message.Plain m) in
      (h.0, resolve_alike has left m e h.1, met_alike (has_behind has ds) (has_behind left ds) ms (ap (λ (i : ℕ → _). (has_behind (record { import = i; question = has.question }) ds).import) e) h.2)
  met_alike has left (message.Unimplemented m ∷ ms) e h = met_alike has left ms e h

-- ---- The call is sent

pub unreturned : (x y : Question) → x.returned ≡ None → x ≡ y → IsSome y.returned → ⊥
unreturned x y e f i = none_there Returned (subst (λ (o : Option Returned). IsSome o) (ap (λ (z : Question). z.returned) (sym f) ∙ e) i)

pub asks_still : (w : Around) (d : Progress) (q : ℕ) (role : Role) (target : Target) (r : Request) (new : Progress) → MidwayAt w d → AllAreHeld d.state r.caps → Asks d q role target r new → MidwayAt w new
asks_still w d q role target r new h i a =
    let ds = a.1.0 in
    let mid = a.1.1 in
    let out = w.out ++ d.effects.sends in
    let u = w.other in
    let x : Question = record { role = role; given = export_ids (given ds); returned = None; finish = finishing.Owed } in
    let c : calls.Call = record { question = record { 0 = q }; target = target; interface = r.interface; method = r.method; payload = r.payload; descriptors = ds; stamp = r.stamp } in
    let made = all_described r.caps d.state u out w.back ds mid h i a.1.2 in
    let k = made.0 in
    let Q = map.insert mid.questions q x in
    let is : (j : ℕ) → IsSome (map.get mid.questions j) → IsSome (map.get Q j) = at_put (λ j o. IsSome (map.get mid.questions j) → IsSome o) mid.questions q x (λ i. refl) (λ j n i. i) in
    let here : IsSome (map.get Q q) = at_same mid.questions q x in
    let still : Midway (record mid { questions = Q }) u (out ++ message.Plain (plain.Call c) ∷ []) w.back =
    asked mid mid.exports Q (at_put (λ j o. IsUnfinished (map.get mid.questions j) → IsUnfinished o) mid.questions q x (λ i. tt) (λ j n i. i)) u out (out ++ message.Plain (plain.Call c) ∷ []) w.back k k.exports
    (λ j path. at_put (λ j o. (said : Descriptor) (to : Node) → known_by_return path (returned_of o) ≡ Leads said to → IsHeld mid to) mid.questions q x (λ said to e. (let b : NothingYet ≡ Leads said to = e in cc)) (λ j n said to e. k.returned j path said to e) j)
    (opens_more _ out (message.Plain (plain.Call c)) (open_map _ _ out is k.opens) here) (return_map _ _ w.back is k.returns)
    (λ j. at_put (λ j o. (y : Question) → o ≡ Some y → IsSome y.returned → EachOpen (λ k. nat_eq k j ≡ false) (out ++ message.Plain (plain.Call c) ∷ []) × EachReturn (λ k. nat_eq k j ≡ false) w.back) mid.questions q x (λ y e i. absurd (unreturned x y refl (let b : x ≡ y = cc in b) i))
    (λ j n y e i. (let b = k.answered j y e i in (opens_more _ out (message.Plain (plain.Call c)) b.0 (sides q j ∙ n), b.1))) j) (λ e i. i)
    (met_more mid.exports u.exports (has_of [] u.imports u.questions) out (message.Plain (plain.Call c)) k.named.0 (λ has. (made.1, tt, tt)), met_alike u.exports mid.exports (has_of [] mid.imports mid.questions) (has_of [] mid.imports Q) w.back refl k.named.1)
    (loops_more _ _ out (message.Plain (plain.Call c)) k.sent tt) in
    subst (MidwayAt w) (sym a.1.3) (subst (λ (ms : List Message). Midway (record mid { questions = Q }) u ms w.back) (append_assoc w.out d.effects.sends (message.Plain (plain.Call c) ∷ [])) still)
  where
    at_same : (m : Map Question) (q : ℕ) (x : Question) → IsSome (map.get (map.insert m q x) q)
    at_same m q x = subst (λ (o : Option Question). IsSome o) (sym (get-insert_same m q x)) refl

-- ---- All

pub as_routed : (w : Around) (d : Progress) (c : WaitingCall) (n : Node) (new : Progress) → MidwayAt w d → AllAreHeld d.state c.request.caps → RoutedTo d c n new → MidwayAt w new
as_routed w d c (node.Object o) new h i a =
    let s = d.state in
    let r = c.request in
    subst (MidwayAt w) (sym a) (tasks_still (with_refs s r.caps) w.other (w.out ++ d.effects.sends) w.back (map.insert s.tasks s.next_task c.outcome) (s.next_task + 1) (refs_still r.caps s w.other (w.out ++ d.effects.sends) w.back h i))
as_routed w d c (node.Promise p) new h i a = waits_at_promise w d c p (map.get d.state.promises p) new refl h i a
as_routed w d c (node.Field o path) new h i a = waits_at_field w d c o path (map.get d.state.outcomes o) new refl h i a
as_routed w d c (node.Import e) new h i a = asks_still w d a.0 _ _ c.request new h i a.1
as_routed w d c (node.Pipe q path) new h i a = asks_still w d a.0 _ _ c.request new h i a.1
as_routed w d c (node.Broken reason) new h i a = subst (MidwayAt w) (sym a) h

-- ---- What is held stays so

held_refs : (ns : List Node) (s : State) (k : Node) → IsHeld s k → IsHeld (with_refs s ns) k
held_refs [] s k i = i
held_refs (n ∷ ns) s k i =
    let R = map.insert s.refs s.next_ref (record { head = n; embargo = None; made = 0 }) in
    held_refs ns (record s { refs = R; next_ref = s.next_ref + 1 }) k (held_more s R s.promises s.outcomes s.calls s.tasks (s.next_ref + 1) s.next_call s.next_task (λ p j. j) (λ o j. j) k i)

held_waiting : (d : Progress) (c : WaitingCall) (p : ℕ) (o : Option Promise) (new : Progress) → WaitsForPromise d c p o new → (k : Node) → IsHeld d.state k → IsHeld new.state k
held_waiting d c p None new a k i = absurd a
held_waiting d c p (Some (promise.Fixed to)) new a k i = absurd a
held_waiting d c p (Some (promise.Open cs)) new a k i =
    let s = d.state in
    let x : Promise = promise.Open (cs ++ c ∷ []) in
    subst (λ (z : Progress). IsHeld z.state k) (sym a)
    (held_more s s.refs (map.insert s.promises p x) s.outcomes s.calls s.tasks s.next_ref s.next_call s.next_task (at_put (λ k z. IsSome (map.get s.promises k) → IsSome z) s.promises p x (λ j. refl) (λ k n j. j)) (λ o j. j) k i)

held_at_field : (d : Progress) (c : WaitingCall) (o : ℕ) (path : _) (z : Option KeptOutcome) (new : Progress) → WaitsForField d c o path z new → (k : Node) → IsHeld d.state k → IsHeld new.state k
held_at_field d c o path None new a k i = absurd a
held_at_field d c o path (Some x) new a k i =
    let s = d.state in
    let y : KeptOutcome = record x { waiting = x.waiting ++ record { path = path; call = c } ∷ [] } in
    subst (λ (z : Progress). IsHeld z.state k) (sym a)
    (held_more s s.refs s.promises (map.insert s.outcomes o y) s.calls s.tasks s.next_ref s.next_call s.next_task (λ p j. j) (at_put (λ k z. IsSome (map.get s.outcomes k) → IsSome z) s.outcomes o y (λ j. refl) (λ k n j. j)) k i)

held_asked : (d : Progress) (q : ℕ) (role : Role) (target : Target) (r : Request) (new : Progress) → Asks d q role target r new → (k : Node) → IsHeld d.state k → IsHeld new.state k
held_asked d q role target r new a k i =
    let s = d.state in
    let mid = a.1.1 in
    let x : Question = record { role = role; given = export_ids (given a.1.0); returned = None; finish = finishing.Owed } in
    let g = described_all s r.caps a.1.0 mid a.1.2 in
    let at_mid : IsHeld mid k = subst (λ (z : State). IsHeld z k) (sym g.1) (held s g.0 s.questions (λ q u. u) k i) in
    subst (λ (z : Progress). IsHeld z.state k) (sym a.1.3)
    (held mid mid.exports (map.insert mid.questions q x) (at_put (λ j o. IsUnfinished (map.get mid.questions j) → IsUnfinished o) mid.questions q x (λ u. tt) (λ j n u. u)) k at_mid)

held_routed : (d : Progress) (c : WaitingCall) (n : Node) (new : Progress) → RoutedTo d c n new → (k : Node) → IsHeld d.state k → IsHeld new.state k
held_routed d c (node.Object o) new a k i =
    let s = d.state in
    let t = with_refs s c.request.caps in
    subst (λ (z : Progress). IsHeld z.state k) (sym a)
    (held_more t t.refs t.promises t.outcomes t.calls (map.insert s.tasks s.next_task c.outcome) t.next_ref t.next_call (s.next_task + 1) (λ p j. j) (λ o j. j) k (held_refs c.request.caps s k i))
held_routed d c (node.Promise p) new a k i = held_waiting d c p (map.get d.state.promises p) new a k i
held_routed d c (node.Field o path) new a k i = held_at_field d c o path (map.get d.state.outcomes o) new a k i
held_routed d c (node.Import e) new a k i = held_asked d a.0 _ _ c.request new a.1 k i
held_routed d c (node.Pipe q path) new a k i = held_asked d a.0 _ _ c.request new a.1 k i
held_routed d c (node.Broken reason) new a k i = subst (λ (z : Progress). IsHeld z.state k) (sym a) i

pub all_may_go : (w : Around) (d : Progress) (cs : List WaitingCall) (n : Node) (new : Progress) → MidwayAt w d → IsHeld d.state n → CallsAreHeld d.state cs → (h : RoutesAll d cs n new) → AllMayGo w d cs n new h × MidwayAt w new
all_may_go w d [] n new m i held_all h = (tt, subst (MidwayAt w) (sym h) m)
all_may_go w d (c ∷ cs) n new m i held_all h =
    let still = held_routed d c (settle d.state n) h.0 h.1 in
    let rest = all_may_go w h.0 cs n new (as_routed w d c (settle d.state n) h.0 m held_all.0 h.1) (still n i) (calls_still d.state h.0.state still cs held_all.1) h.2 in
    ((may_go d.state w.other (w.out ++ d.effects.sends) w.back m n i, rest.0), rest.1)

pub all_held_may_go : (w : Around) (d : Progress) (o : ℕ) (hs : List HeldCall) (new : Progress) → MidwayAt w d → IsSome (map.get d.state.outcomes o) → HeldCallsAreHeld d.state hs → (r : RoutesHeld d o hs new)
    → AllHeldMayGo w d o hs new r × MidwayAt w new
all_held_may_go w d o [] new m i held_all r = (tt, subst (MidwayAt w) (sym r) m)
all_held_may_go w d o (h ∷ hs) new m i held_all r =
    let n : Node = node.Field o h.path in
    let still = held_routed d h.call (settle d.state n) r.0 r.1 in
    let k : IsHeld r.0.state n = still n (i, tt) in
    let rest = all_held_may_go w r.0 o hs new (as_routed w d h.call (settle d.state n) r.0 m held_all.0 r.1) k.0 (held_still d.state r.0.state still hs held_all.1) r.2 in
    ((may_go d.state w.other (w.out ++ d.effects.sends) w.back m n (i, tt), rest.0), rest.1)
