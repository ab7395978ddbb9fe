-- An outcome settles: it is still so in the middle of the step.
use Rattle.std.specs.FinMap as map
use Rattle.std.proofs.Common.{◌≡◌, inl, inr, ℕ, ◌+◌, zero, suc, List, [], ◌∷◌, ◌++◌, Option, None, Some, IsSome, refl, sym, ap, subst, ◌∙◌}
use Rattle.finite_maps.specs.Tally.{Map}
use Rattle.finite_maps.proofs.Gets.{get-insert_same}
use Rattle.finite_maps.proofs.Tested.{at_put}
use Rattle.rpc_msg.specs.Payloads.{Contents as Payload}
use Rattle.rpc_msg.specs.Op.{Op}
use Rattle.rpc_msg.specs.CapAt.{CapAt}
use Rattle.rpc_msg.specs.CapAt.TheVariants.{Cap, Null, NotCap}
use Rattle.rpc_msg.specs.declared.ids.EmbargoId.{EmbargoId}
use Rattle.rpc_msg.specs.declared.message.Message.{Message}
use Rattle.rpc_machine.specs.Payloads.{cap_at}
use Rattle.rpc_machine.specs.declared.calls.Caller.{Caller}
use Rattle.rpc_machine.specs.declared.calls.HeldCall.{HeldCall}
use Rattle.rpc_machine.specs.declared.calls.KeptOutcome.{KeptOutcome}
use Rattle.rpc_machine.specs.declared.calls.Promise.{Promise}
use Rattle.rpc_machine.specs.declared.calls.Promise.TheVariants as promise
use Rattle.rpc_machine.specs.declared.calls.Value.{Value}
use Rattle.rpc_machine.specs.declared.calls.Value.TheVariants as value
use Rattle.rpc_machine.specs.declared.calls.WaitingCall.{WaitingCall}
use Rattle.rpc_machine.specs.declared.command.Level.TheVariants.{One}
use Rattle.rpc_machine.specs.declared.node.Node.{Node}
use Rattle.rpc_machine.specs.declared.node.Node.TheVariants as node
use Rattle.rpc_machine.specs.State.{State}
use Rattle.rpc_machine.specs.Nodes.{field_link, field_of, is_field, link, node_of_cap, promise_link, value_of}
use Rattle.rpc_machine.specs.Progress.{Progress, caps_of}
use Rattle.rpc_machine.specs.Settling.{Fits, PutsIn, SettlesFrom, SettlesOpen, Untangles, known}
use Rattle.laws_nodes.specs.Settling.{AllStop}
use Rattle.laws_nodes.proofs.Knowing.{known_stops}
use Rattle.laws_steps.specs.Callers.{AnswersWith, IsOpenFor, peer}
use Rattle.laws_steps.specs.Settled.{IsThere}
use Rattle.laws_routes.specs.MakingLaws.{EmbargoIsThere}
use Rattle.laws_routes.specs.OutcomeLaws.{MaySettleFrom, MaySettleOpen, with_known}
use Rattle.laws_routes.specs.Ties.{Around}
use Rattle.laws_routes.specs.Midway.{AllAreHeld, CallsAreHeld, HeldCallsAreHeld, IsHeld, IsOutcomeOf, Midway, MidwayAt}
use Rattle.laws_routes.proofs.FromMidway.{links_rest, may_open}
use Rattle.laws_routes.proofs.MidwayKept.{all_still, calls_still, held_more, held_still, moved}
use Rattle.laws_routes.proofs.MidwayRouted.{all_held_may_go}
use Rattle.laws_routes.proofs.MidwaySaid.{all_may_send}
use Rattle.laws_routes.proofs.MidwayTold.{told_still}

-- ---- The value takes promises for circles

module _ (other : State) (out back : List Message) where
  abbrev Fitted : State → State → List Node → Type 0
  Fitted s new caps = Midway new other out back × AllAreHeld new caps × ((k : Node) → IsHeld s k → IsHeld new k) × (new.outcomes ≡ s.outcomes) × (new.level ≡ s.level)

  abbrev x : Promise
  x = promise.Open []

  opened_held : (s : State) (p : ℕ) (k : Node) → IsHeld s k → IsHeld (record s { promises = map.insert s.promises p x }) k
  opened_held s p k i =
      held_more s s.refs (map.insert s.promises p x) s.outcomes s.calls s.tasks s.next_ref s.next_call s.next_task (at_put (λ k z. IsSome (map.get s.promises k) → IsSome z) s.promises p x (λ i. refl) (λ k n i. i)) (λ o i. i) k i

  opened_still : (s : State) (p : ℕ) → Midway s other out back → map.get s.promises p ≡ None → Midway (record s { promises = map.insert s.promises p x }) other out back
  opened_still s p h free =
      moved s other out back h s.refs (map.insert s.promises p x) s.outcomes s.calls s.tasks s.next_ref s.next_call s.next_task h.heads h.paired
      (at_put (λ k z. IsSome (map.get s.promises k) → IsSome z) s.promises p x (λ i. refl) (λ k n i. i))
      (at_put (λ k z. promise_link z ≡ promise_link (map.get s.promises k)) s.promises p x (sym (ap promise_link free)) (λ k n. refl)) (λ o i. i) (λ o. refl)
      (at_put (λ k z. (cs : List WaitingCall) → z ≡ Some (promise.Open cs) → CallsAreHeld s cs) s.promises p x (λ cs e. (let a : [] ≡ cs = cc in subst (CallsAreHeld s) a tt)) (λ k n cs e. h.waits k cs e)) h.holds (λ o q i. i) (λ o q i. i)

  put_in : (s : State) (o : ℕ) (from : Caller) (hs : List HeldCall) (payload : Payload) (i : ℕ) (n : Node) (rest caps : List Node) (new : State) → Midway s other out back → IsHeld s n → AllAreHeld s rest
      → PutsIn s o from hs payload i n rest caps new → Fitted s new caps
  put_in s o from hs payload i n rest caps new h j k (inl a) = subst (Fitted s new) (sym a.1) (subst (λ (z : State). Fitted s z (n ∷ rest)) (sym a.2) (h, (j, k), λ m l. l, refl, refl))
  put_in s o from hs payload i n rest caps new h j k (inr a) =
      let g = a.1 in
      let p = g.0 in
      let t : State = record s { promises = map.insert s.promises p x } in
      let there : IsSome (map.get (map.insert s.promises p x) p) = subst (λ (z : Option Promise). IsSome z) (sym (get-insert_same s.promises p x)) refl in
      subst (Fitted s new) (sym g.2) (subst (λ (z : State). Fitted s z (node.Promise p ∷ rest)) (sym g.3) (opened_still s p h g.1, ((there, tt), all_still s t (opened_held s p) rest k), opened_held s p, refl, refl))

  untangled : (s : State) (o : ℕ) (from : Caller) (hs : List HeldCall) (payload : Payload) (i : ℕ) (ns caps : List Node) (new : State) → Midway s other out back → AllAreHeld s ns → Untangles s o from hs payload i ns caps new → Fitted s new caps
  untangled s o from hs payload i [] caps new h k a = subst (Fitted s new) (sym a.0) (subst (λ (z : State). Fitted s z []) (sym a.1) (h, tt, λ m l. l, refl, refl))
  untangled s o from hs payload i (n ∷ ns) caps new h k a =
      let mid = a.1 in
      let f = untangled s o from hs payload (i + 1) ns a.0 mid h k.1 a.2 in
      let more = f.2 in
      let g = put_in mid o from hs payload i n a.0 caps new f.0 (more n k.0) f.1 a.3 in
      let further = g.2 in
      (g.0, g.1, λ m l. further m (more m l), g.3 ∙ f.3, g.4 ∙ f.4)

  fitted : (s : State) (o : ℕ) (from : Caller) (hs : List HeldCall) (v fit : Value) (new : State) → Midway s other out back → AllAreHeld s (caps_of v) → Fits s o from hs v fit new → Fitted s new (caps_of fit)
  fitted s o from hs (value.Exception exception) fit new h k a = subst (λ (u : Value). Fitted s new (caps_of u)) (sym a.0) (subst (λ (z : State). Fitted s z []) (sym a.1) (h, tt, λ m l. l, refl, refl))
  fitted s o from hs (value.Results payload caps) fit new h k a = subst (λ (u : Value). Fitted s new (caps_of u)) (sym a.1) (untangled s o from hs payload 0 caps a.0 new h k a.2)

-- ---- It is known

not_open : (v : Value) → Some v ≡ None → ⊥
not_open v e = cc

cap_held : (s : State) (caps : List Node) (i : ℕ) → AllAreHeld s caps → IsHeld s (node_of_cap caps (Cap i))
cap_held s [] i h = (tt, tt)
cap_held s (n ∷ ns) zero h = h.0
cap_held s (n ∷ ns) (suc i) h = cap_held s ns i h.1

of_cap : (s : State) (caps : List Node) (c : CapAt) → AllAreHeld s caps → IsHeld s (node_of_cap caps c)
of_cap s caps (Cap i) h = cap_held s caps i h
of_cap s caps Null h = (tt, tt)
of_cap s caps NotCap h = (tt, tt)

field_held : (s : State) (v : Value) (path : List Op) → AllAreHeld s (caps_of v) → IsHeld s (field_of v path)
field_held s (value.Results payload caps) path h = of_cap s caps (cap_at payload path) h
field_held s (value.Exception exception) path h = (tt, tt)

module _ (s : State) (o : ℕ) (y : KeptOutcome) where
  abbrev O : Map KeptOutcome
  O = map.insert s.outcomes o y

  more : (k : ℕ) → IsSome (map.get s.outcomes k) → IsSome (map.get O k)
  more = at_put (λ k z. IsSome (map.get s.outcomes k) → IsSome z) s.outcomes o y (λ j. refl) (λ k n j. j)

  held : (n : Node) → IsHeld s n → IsHeld (record s { outcomes = O }) n
  held n i = held_more s s.refs s.promises O s.calls s.tasks s.next_ref s.next_call s.next_task (λ p j. j) more n i

module _ (s other : State) (out back : List Message) (h : Midway s other out back) (o : ℕ) (x : KeptOutcome) (at : map.get s.outcomes o ≡ Some x) (v : Value) (caps : AllAreHeld s (caps_of v)) (stop : AllStop (known s o x.caller x.waiting v)) where
  abbrev y : KeptOutcome
  y = record { caller = x.caller; value = Some v; waiting = x.waiting }

  abbrev t : State
  t = known s o x.caller x.waiting v

  leads_held : (m k : Node) → IsThere t m → link t m ≡ Some k → IsHeld t k
  leads_held (node.Object j) k i e = let a : None ≡ Some k = e in cc
  leads_held (node.Promise q) k i e = held s o y k (h.links (node.Promise q) k i e)
  leads_held (node.Field q path) k i e =
      at_put (λ q z. IsSome z → field_link path (value_of z) ≡ Some k → IsHeld t k) s.outcomes o y (λ i e. (let a : Some (field_of v path) ≡ Some k = e in let b : field_of v path ≡ k = cc in subst (IsHeld t) b (held s o y (field_of v path) (field_held s v path caps))))
      (λ q n i e. held s o y k (h.links (node.Field q path) k i e)) q i e
  leads_held (node.Import j) k i e = let a : None ≡ Some k = e in cc
  leads_held (node.Pipe q path) k i e = let a : None ≡ Some k = e in cc
  leads_held (node.Broken reason) k i e = let a : None ≡ Some k = e in cc

  embargo : (r : ℕ) (e : Option EmbargoId) → EmbargoIsThere s r e → EmbargoIsThere t r e
  embargo r None i = tt
  embargo r (Some e) i = i

  known_still : Midway t other out back
  known_still = record {
    stop = stop;
    links = leads_held;
    heads = λ r z e. held s o y z.head (h.heads r z e);
    embargoes = λ e b i. held s o y b.node (h.embargoes e b i);
    resolved = λ e said to a. held s o y to (h.resolved e said to a);
    returned = λ q path said to a. held s o y to (h.returned q path said to a);
    waits = λ p cs e. calls_still s t (held s o y) cs (h.waits p cs e);
    holds = λ k u e. held_still s t (held s o y) u.waiting
        (at_put (λ k z. (u : KeptOutcome) → z ≡ Some u → HeldCallsAreHeld s u.waiting) s.outcomes o y (λ u e. (let a : y ≡ u = cc in subst (λ (u : KeptOutcome). HeldCallsAreHeld s u.waiting) a (h.holds o x at))) (λ k n u e. h.holds k u e) k u e);
    keeps = λ e b i. calls_still s t (held s o y) b.waiting (h.keeps e b i);
    paired = λ r z e. embargo r z.embargo (h.paired r z e);
    exports = λ e z f. (let a = h.exports e z f in (a.0, held s o y z.node a.1));
    theirs = h.theirs;
    imported = h.imported;
    answers = λ q a f. at_put (λ k u. IsOutcomeOf q (map.get s.outcomes k) → IsOutcomeOf q u) s.outcomes o y (λ i. subst (IsOutcomeOf q) at i) (λ k n i. i) a.outcome (h.answers q a f);
    pending = λ k q i. h.pending k q (at_put (λ k u. IsOpenFor q u → IsOpenFor q (map.get s.outcomes k)) s.outcomes o y (λ i. absurd (not_open v i.0)) (λ k n i. i) k i);
    awaited = h.awaited;
    opens = h.opens;
    returns = h.returns;
    answered = h.answered;
    met = h.met;
    named = h.named;
    sent = h.sent;
    echoed = h.echoed;
  }

-- Its calls leave its list.
emptied_still : (s other : State) (out back : List Message) → Midway s other out back → (o : ℕ) (y : KeptOutcome) (v : Value) → map.get s.outcomes o ≡ Some y → y.value ≡ Some v → Midway (known s o y.caller [] v) other out back
emptied_still s other out back h o y v at is =
    let z : KeptOutcome = record { caller = y.caller; value = Some v; waiting = [] } in
    moved s other out back h s.refs s.promises (map.insert s.outcomes o z) s.calls s.tasks s.next_ref s.next_call s.next_task h.heads h.paired (λ p i. i) (λ p. refl) (more s o z)
    (at_put (λ k u. value_of u ≡ value_of (map.get s.outcomes k)) s.outcomes o z (sym (ap value_of at ∙ is)) (λ k n. refl)) h.waits
    (at_put (λ k u. (b : KeptOutcome) → u ≡ Some b → HeldCallsAreHeld s b.waiting) s.outcomes o z (λ b e. (let a : z ≡ b = cc in subst (λ (b : KeptOutcome). HeldCallsAreHeld s b.waiting) a tt)) (λ k n b e. h.holds k b e))
    (at_put (λ k u. (q : ℕ) → IsOutcomeOf q (map.get s.outcomes k) → IsOutcomeOf q u) s.outcomes o z (λ q i. subst (IsOutcomeOf q) at i) (λ k n q i. i))
    (at_put (λ k u. (q : ℕ) → IsOpenFor q u → IsOpenFor q (map.get s.outcomes k)) s.outcomes o z (λ q i. absurd (not_open v i.0)) (λ k n q i. i))

-- ---- The whole

settles_open : (w : Around) (d : Progress) (o : ℕ) (v : Value) (x : KeptOutcome) (z : Option Value) (new : Progress) → MidwayAt w d → d.state.level ≡ One → map.get d.state.outcomes o ≡ Some x → x.value ≡ z → AllAreHeld d.state (caps_of v)
    → (h : SettlesOpen d o v x z new) → MaySettleOpen w d o v x z new h × MidwayAt w new
settles_open w d o v x (Some before) new m level at is caps h = absurd h
settles_open w d o v x None new m level at is caps h =
    let s = d.state in
    let out = w.out ++ d.effects.sends in
    let fit = h.0 in
    let mid = h.1 in
    let told = h.3.0 in
    let routed = h.3.2.0 in
    let y : KeptOutcome = record { caller = x.caller; value = Some fit; waiting = x.waiting } in
    let u : KeptOutcome = record { caller = x.caller; value = Some fit; waiting = [] } in
    let f = fitted w.other out w.back s o x.caller x.waiting v fit mid m caps h.2 in
    let there : map.get mid.outcomes o ≡ Some x = ap (λ q. map.get q o) f.3 ∙ at in
    let here : MidwayAt w (with_known d mid o x x.waiting fit) = known_still mid w.other out w.back f.0 o x there fit f.1 (known_stops o x.caller x.waiting s v fit mid h.2 m.stop) in
    let waits : (q : ℕ) → x.caller ≡ peer q → AnswersWith o (map.get mid.answers q) = λ q i. f.0.pending o q (subst (IsOpenFor q) (sym there) (is, i)) in
    let so = told_still w (with_known d mid o x x.waiting fit) o x.caller fit y told here (f.4 ∙ level) (all_still mid (known mid o x.caller x.waiting fit) (held mid o y) (caps_of fit) f.1) (get-insert_same mid.outcomes o y) refl refl waits h.3.1 in
    let t = told.state in
    let after = so.1 in
    let empty : MidwayAt w (with_known told t o x [] fit) = emptied_still t w.other (w.out ++ told.effects.sends) w.back after o y fit so.2 refl in
    let known_there : IsSome (map.get (map.insert t.outcomes o u) o) = subst (λ (z : Option KeptOutcome). IsSome z) (sym (get-insert_same t.outcomes o u)) refl in
    let goes = all_held_may_go w (with_known told t o x [] fit) o x.waiting routed empty known_there (held_still t (known t o x.caller [] fit) (held t o u) x.waiting (after.holds o y so.2)) h.3.2.1 in
    let says = all_may_send w routed None (is_field o) new goes.1 h.3.2.2 in (
      record {
        opens = may_open s w.other out w.back m;
        rest = links_rest (known mid o x.caller x.waiting fit) w.other out w.back here;
        tells = so.0;
        goes = goes.0;
        resolves = says.0;
      },
      says.1,
    )

pub may_settle : (w : Around) (d : Progress) (o : ℕ) (v : Value) (z : Option KeptOutcome) (new : Progress) → map.get d.state.outcomes o ≡ z → MidwayAt w d → d.state.level ≡ One → AllAreHeld d.state (caps_of v)
    → (h : SettlesFrom d o v z new) → MaySettleFrom w d o v z new h × MidwayAt w new
may_settle w d o v None new e m level caps h = absurd h
may_settle w d o v (Some x) new e m level caps h = settles_open w d o v x x.value new m level e refl caps h
