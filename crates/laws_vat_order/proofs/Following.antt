-- Each step: a call that waits where a node leads, waits where it leads after the step.
use Rattle.std.proofs.Common.{◌≡◌, ◌⊎◌, inl, inr, ℕ, List, [], Option, None, Some, IsSome, Result, refl, sym, ap, subst, ◌∙◌, arith}
use Rattle.std.specs.FinMap as map
use Rattle.finite_maps.proofs.Tested.{at_put}
use Rattle.rpc_msg.specs.Op.{Op}
use Rattle.rpc_msg.specs.declared.message.Message.{Message}
use Rattle.rpc_machine.specs.declared.node.Node.{Node}
use Rattle.rpc_machine.specs.declared.node.Node.TheVariants as node
use Rattle.rpc_machine.specs.declared.node.Reason.TheVariants.{BrokenPromise}
use Rattle.rpc_machine.specs.declared.command.Command.{Command}
use Rattle.rpc_machine.specs.declared.command.Granted.{Granted}
use Rattle.rpc_machine.specs.declared.command.Refusal.{Refusal}
use Rattle.rpc_machine.specs.declared.command.Effects.{Effects}
use Rattle.rpc_machine.specs.declared.calls.WaitingCall.{WaitingCall}
use Rattle.rpc_machine.specs.declared.calls.Promise.{Promise}
use Rattle.rpc_machine.specs.declared.calls.Promise.TheVariants as promise
use Rattle.rpc_machine.specs.declared.calls.KeptOutcome.{KeptOutcome}
use Rattle.rpc_machine.specs.declared.calls.Value.{Value}
use Rattle.rpc_machine.specs.State.{State}
use Rattle.rpc_machine.specs.Nodes.{promise_link, value_of, field_link, link, settle}
use Rattle.rpc_machine.specs.Numbers.{want_of_room}
use Rattle.rpc_machine.specs.Refusals.{refused}
use Rattle.rpc_machine.specs.Faults.{fault_of}
use Rattle.rpc_machine.specs.Down.{IsUnchanged, ShutsFrom, fallen}
use Rattle.rpc_machine.specs.Steps.{Does, Handles, Obeys, Refuses, LacksMemory, GoesDown, Shuts, IsDone, Receives, WasDown, FaultsBy, LacksRoom, IsHandled}
use Rattle.rpc_machine.specs.Laws.{OfEachStep}
use Rattle.rpc_machine.proofs.Settles.{settles_here}
use Rattle.laws_acts.specs.Moments.{Moment, beginning, each_to}
use Rattle.laws_acts.specs.FirstActs.{Starts}
use Rattle.laws_acts.specs.FirstActs as first
use Rattle.laws_acts.specs.MessageActs.{Consumes}
use Rattle.laws_acts.specs.MessageActs as message
use Rattle.laws_acts.specs.SmallActs.{Act, Acts, NoMore}
use Rattle.laws_acts.proofs.EachStep.{done, handled}
use Rattle.laws_steps.specs.Settled.{IsThere, AreThere, LeadsOn}
use Rattle.laws_steps.specs.NodesThere.{IsReached, Stays, Commanded, Received}
use Rattle.laws_steps.proofs.LeadsOn.{there_where_it_settles}
use Rattle.laws_steps.proofs.Reached.{go_on, after_command, after_message}
use Rattle.laws_nodes.specs.Settling.{AllStop}
use Rattle.laws_nodes.proofs.Stopping.{ends, on}
use Rattle.laws_nodes.proofs.Acyclic.{each_stops, within}
use Rattle.laws_vat_order.specs.Lines.{Has, HasAt, OfPromise, OfOutcome, IsAt, ForPromise, ForFieldAt, times_waiting}
use Rattle.laws_vat_order.specs.Order.{Follows, CallsFollow}
use Rattle.laws_vat_order.proofs.Counting.{all_waiting}
use Rattle.laws_vat_order.proofs.Counting as counting
use Rattle.laws_vat_order.proofs.Lists.{YetHas, each_has, promise_new, promise_fixed}
use Rattle.laws_vat_order.proofs.Moving.{with_tables, Quiet}
use Rattle.laws_vat_order.proofs.Steps.{one_act, once, gone}
use Rattle.laws_vat_order.proofs.Tracking.{MostOne, OfUnknown, OpenAt, InOpen, InKnown, InYet, Chain, Itself, On, Bound, Still, Moved, IsBound, Tracked, tracked}

-- ---- Open nodes

unknown_at : (path : List Op) (a : ℕ) (o : Option KeptOutcome) → field_link path (value_of o) ≡ None → OfOutcome (HasAt path a) o → OfUnknown path a o
unknown_at path a None e h = absurd h
unknown_at path a (Some x) e h = (by x.value refl, h)
  where
    by : (v : Option Value) → x.value ≡ v → v ≡ None
    by None f = refl
    by (Some v) f = absurd (let z : field_link path (Some v) ≡ None = sym (ap (field_link path) f) ∙ e in cc)

-- A node that has no link.
pub is_open_at : (s : State) (a : ℕ) (n : Node) → link s n ≡ None → IsAt s a n → OpenAt a s.promises s.outcomes n
is_open_at s a _ e (ForPromise p h) = h
is_open_at s a _ e (ForFieldAt o path h) = unknown_at path a (map.get s.outcomes o) e h

promise_open : (f : List WaitingCall → Type 0) (o : Option Promise) → OfPromise f o → promise_link o ≡ None
promise_open f None h = refl
promise_open f (Some (promise.Open calls)) h = refl
promise_open f (Some (promise.Fixed to)) h = absurd h

unknown_open : (path : List Op) (a : ℕ) (o : Option KeptOutcome) → OfUnknown path a o → (field_link path (value_of o) ≡ None) × OfOutcome (HasAt path a) o
unknown_open path a None h = absurd h
unknown_open path a (Some x) h = (ap (field_link path) h.0, h.1)

pub open_is_at : (t : State) (a : ℕ) (n : Node) → OpenAt a t.promises t.outcomes n → IsAt t a n × (link t n ≡ None)
open_is_at t a (node.Object o) h = absurd h
open_is_at t a (node.Promise p) h = (ForPromise p h, promise_open (Has a) (map.get t.promises p) h)
open_is_at t a (node.Field o path) h = let k = unknown_open path a (map.get t.outcomes o) h in (ForFieldAt o path k.1, k.0)
open_is_at t a (node.Import e) h = absurd h
open_is_at t a (node.Pipe q path) h = absurd h
open_is_at t a (node.Broken reason) h = absurd h

-- ---- The end

retable : (s t : State) (n m : Node) → (IsThere (with_tables s t.promises t.outcomes) n → link (with_tables s t.promises t.outcomes) n ≡ Some m) → IsThere t n → link t n ≡ Some m
retable s t (node.Object o) m h i = h i
retable s t (node.Promise p) m h i = h i
retable s t (node.Field o path) m h i = h i
retable s t (node.Import e) m h i = h i
retable s t (node.Pipe q path) m h i = h i
retable s t (node.Broken reason) m h i = h i

there_or_stops : (t : State) (n : Node) → IsThere t n ⊎ (link t n ≡ None)
there_or_stops t (node.Object o) = inl tt
there_or_stops t (node.Promise p) = by (map.get t.promises p) refl
  where
    by : (o : Option Promise) → map.get t.promises p ≡ o → IsSome (map.get t.promises p) ⊎ (promise_link (map.get t.promises p) ≡ None)
    by None e = inr (ap promise_link e)
    by (Some x) e = inl (subst IsSome (sym e) refl)
there_or_stops t (node.Field o path) = by (map.get t.outcomes o) refl
  where
    by : (x : Option KeptOutcome) → map.get t.outcomes o ≡ x → IsSome (map.get t.outcomes o) ⊎ (field_link path (value_of (map.get t.outcomes o)) ≡ None)
    by None e = inr (ap (λ (x : Option KeptOutcome). field_link path (value_of x)) e)
    by (Some x) e = inl (subst IsSome (sym e) refl)
there_or_stops t (node.Import e) = inl tt
there_or_stops t (node.Pipe q path) = inl tt
there_or_stops t (node.Broken reason) = inl tt

-- Where a node settles that is there, is there.
settled_there : (t : State) → AreThere t → (n m : Node) → IsThere t n → settle t n ≡ settle t m → IsThere t m
settled_there t there n m i e = by (there_or_stops t m)
  where
    by : IsThere t m ⊎ (link t m ≡ None) → IsThere t m
    by (inl h) = h
    by (inr h) = subst (IsThere t) (e ∙ settles_here t m h) (there_where_it_settles t there n i)

chain_settles : (s t : State) → AllStop t → AreThere t → (e n : Node) → IsThere t e → Chain (with_tables s t.promises t.outcomes) e n → IsThere t n × (settle t e ≡ settle t n)
chain_settles s t stop there e _ i Itself = (i, refl)
chain_settles s t stop there e _ i (On n m c h) =
    let r = chain_settles s t stop there e n i c in
    let k : settle t e ≡ settle t m = r.1 ∙ on t stop n m (retable s t n m h r.0) in
    (settled_there t there e m i k, k)

-- Where it waits then.
abbrev pub EndsAt : ℕ → Node → State → Type 0
EndsAt a e t = IsThere t e → IsAt t a (settle t e) ⊎ (times_waiting a t ≡ 0)

pub ended : (s : State) (a : ℕ) (e : Node) (last : Moment) (t : State) → AllStop last.state → AreThere last.state → Tracked s a e last → last.yet ≡ [] → last.clearing ≡ None → IsThere last.state e → IsAt last.state a (settle last.state e) ⊎ (times_waiting a last.state ≡ 0)
ended s a e last t stop there i none clear h = by i.3
  where
    at : (n : Node) → OpenAt a last.state.promises last.state.outcomes n → settle last.state e ≡ settle last.state n → IsAt last.state a (settle last.state e) ⊎ (times_waiting a last.state ≡ 0)
    at n k f = let z = open_is_at last.state a n k in inl (subst (IsAt last.state a) (sym (f ∙ settles_here last.state n z.1)) z.0)

    by : IsBound s a e last ⊎ (all_waiting a last ≡ 0) → IsAt last.state a (settle last.state e) ⊎ (times_waiting a last.state ≡ 0)
    by (inl (Still k)) = at e k refl
    by (inl (Moved n x y (InOpen k) c)) =
        at n k (chain_settles s last.state stop there e n h (subst (λ (z : _). Chain (with_tables s last.state.promises (Rattle.laws_vat_order.proofs.Tracking.full last.state.outcomes z)) e n) clear c)).1
    by (inl (Moved n x y (InKnown k) c)) = absurd (subst (λ (z : _). Rattle.laws_vat_order.proofs.Tracking.KnownAt a z n) clear k)
    by (inl (Moved n x y (InYet k) c)) = absurd (subst (YetHas n a) none k)
    by (inr k) = inr (omega arith)

-- ---- First acts

module _ (s : State) (a : ℕ) (e : Node) (here : OpenAt a s.promises s.outcomes e) where
  new_outcome : (u : ℕ) (y : KeptOutcome) → map.get s.outcomes u ≡ None → (n : Node) → OpenAt a s.promises s.outcomes n → OpenAt a s.promises (map.insert s.outcomes u y) n
  new_outcome u y f (node.Object o) h = absurd h
  new_outcome u y f (node.Promise p) h = h
  new_outcome u y f (node.Field o path) h = at_put (λ j z. OfUnknown path a (map.get s.outcomes j) → OfUnknown path a z) s.outcomes u y (λ i. absurd (subst (OfUnknown path a) f i)) (λ j g i. i) o h
  new_outcome u y f (node.Import k) h = absurd h
  new_outcome u y f (node.Pipe q path) h = absurd h
  new_outcome u y f (node.Broken reason) h = absurd h

  new_promise : (p : ℕ) (y : Promise) → map.get s.promises p ≡ None → (n : Node) → OpenAt a s.promises s.outcomes n → OpenAt a (map.insert s.promises p y) s.outcomes n
  new_promise p y f (node.Object o) h = absurd h
  new_promise p y f (node.Promise q) h = promise_new (Has a) s.promises p y f q h
  new_promise p y f (node.Field o path) h = h
  new_promise p y f (node.Import k) h = absurd h
  new_promise p y f (node.Pipe q path) h = absurd h
  new_promise p y f (node.Broken reason) h = absurd h

  fixed_at : (p : ℕ) (calls : List WaitingCall) (to : Node) → map.get s.promises p ≡ Some (promise.Open calls) → (n : Node) → OpenAt a s.promises s.outcomes n → OpenAt a (map.insert s.promises p (promise.Fixed to)) s.outcomes n ⊎ YetHas n a (each_to (node.Promise p) calls)
  fixed_at p calls to f (node.Object o) h = absurd h
  fixed_at p calls to f (node.Promise q) h = by (promise_fixed (Has a) s.promises p calls to f q h)
    where
      by : OfPromise (Has a) (map.get (map.insert s.promises p (promise.Fixed to)) q) ⊎ ((q ≡ p) × Has a calls) → OfPromise (Has a) (map.get (map.insert s.promises p (promise.Fixed to)) q) ⊎ YetHas (node.Promise q) a (each_to (node.Promise p) calls)
      by (inl i) = inl i
      by (inr i) = inr (subst (λ (k : ℕ). YetHas (node.Promise k) a (each_to (node.Promise p) calls)) (sym i.0) (each_has (node.Promise p) a calls i.1))
  fixed_at p calls to f (node.Field o path) h = inl h
  fixed_at p calls to f (node.Import k) h = absurd h
  fixed_at p calls to f (node.Pipe q path) h = absurd h
  fixed_at p calls to f (node.Broken reason) h = absurd h

  fixes : (p : ℕ) (calls : List WaitingCall) (to : Node) → map.get s.promises p ≡ Some (promise.Open calls) → Bound s a e (map.insert s.promises p (promise.Fixed to)) s.outcomes (each_to (node.Promise p) calls) None [] []
  fixes p calls to f = by (fixed_at p calls to f e here)
    where
      by : OpenAt a (map.insert s.promises p (promise.Fixed to)) s.outcomes e ⊎ YetHas e a (each_to (node.Promise p) calls) → Bound s a e (map.insert s.promises p (promise.Fixed to)) s.outcomes (each_to (node.Promise p) calls) None [] []
      by (inl i) = Still i
      by (inr i) = Moved e tt tt (InYet i) Itself

  abbrev Opened : Moment → Type 0
  Opened d = Quiet d × MostOne d.coming d.arisen × (IsBound s a e d ⊎ (all_waiting a d ≡ 0))

  opened : (c : Command) (g : Granted) (new : Moment) → Starts (beginning s) c g new → Opened new
  opened c g new (first.Hosts u f i h) = rw h (inl refl, tt, inl (Still here))
  opened c g new (first.Clones r x f i j h) = rw h (inl refl, tt, inl (Still here))
  opened c g new (first.Drops r x f i j h) = rw h (inl refl, tt, inl (Still here))
  opened c g new (first.AsksRoot q f i j h) = rw h (inl refl, tt, inl (Still here))
  opened c g new (first.CallsOut k x q t ds es f i j w l m n h) = rw h (inl refl, tt, inl (Still here))
  opened c g new (first.CallsHere k x u f i j w l m h) = rw h (inr (refl, refl, refl), tt, inl (Still (new_outcome u _ l e here)))
  opened c g new (first.CallsLater k x u z y f i j l m n h) = rw h (inl refl, tt, inl (Still (new_outcome u _ m e here)))
  opened c g new (first.NamesField k path from f i j h) = rw h (inl refl, tt, inl (Still here))
  opened c g new (first.Promises p f i j h) = rw h (inl refl, tt, inl (Still (new_promise p _ i e here)))
  opened c g new (first.Fixes p r x key calls f i j k l h) = rw h (inr (refl, refl, refl), tt, inl (fixes key calls x.head k))
  opened c g new (first.Rejects p why key calls f i j k h) = rw h (inr (refl, refl, refl), tt, inl (fixes key calls (node.Broken BrokenPromise) j))
  opened c g new (first.Answers t payload refs u f i j h) = rw h (inl refl, tt, inl (Still here))
  opened c g new (first.Fails t why u f i j h) = rw h (inl refl, tt, inl (Still here))
  opened c g new (first.Finishes k from f i j h) = rw h (inl refl, tt, inl (Still here))
  opened c g new (first.StaysPut r x f i j h) = rw h (inl refl, tt, inl (Still here))
  opened c g new (first.Breaks r x reason f i j k l h) = rw h (inl refl, tt, inl (Still here))
  opened c g new (first.Switches r x by n f i j k l m o h) = rw h (inl refl, tt, inl (Still here))
  opened c g new (first.Turns r x by n t k f i j l m w u v z h) = rw h (inl refl, tt, inl (Still here))

  came : (m : Message) (new : Moment) → Consumes (beginning s) m new → Opened new
  came m new (message.OpensRoot q u f i j h) = rw h (inl refl, tt, inl (Still (new_outcome u _ j e here)))
  came m new (message.OpensCall c u f i j h) = rw h (inr (refl, refl, refl), tt, inl (Still (new_outcome u _ j e here)))
  came m new (message.Loses y x f i j k h) = rw h (inl refl, tt, inl (Still here))
  came m new (message.ComesToCall y x c f i j k l h) = rw h (inl refl, tt, inl (Still here))
  came m new (message.ComesToRelay y x u f i j k l h) = rw h (inl refl, tt, inl (Still here))
  came m new (message.IsFinished x y f i j h) = rw h (inl refl, tt, inl (Still here))
  came m new (message.IsResolved r f h) = rw h (inl refl, tt, inl (Still here))
  came m new (message.IsReleased r f h) = rw h (inl refl, tt, inl (Still here))
  came m new (message.SendsBack t to x f i h) = rw h (inl refl, tt, inl (Still here))
  came m new (message.Lifts t x y f i h) = rw h (inr (refl, refl, refl), tt, inl (Still here))
  came m new (message.SendsForeign p f i h) = rw h (inl refl, tt, inl (Still here))
  came m new (message.SendsOther n f h) = rw h (inl refl, tt, inl (Still here))
  came m new (message.TakesBack r f h) = rw h (inl refl, tt, inl (Still here))
  came m new (message.Ignores r f h) = rw h (inl refl, tt, inl (Still here))

-- ---- Each step

module _ (a : ℕ) (n : Node) where
  stays : (s : State) (x : Effects) (t : State) → IsUnchanged s x t → IsAt s a (settle s n) → Follows a n t
  stays s x t u i h = rw u.new_is (inl i)

  falls : (s : State) (k : ℕ) (t : State) → t ≡ fallen s k → Follows a n t
  falls s k t f h = rw f (inr (gone a s k))

  shut : (s : State) (k : ℕ) (o : Option ℕ) (x : Effects) (t : State) → ShutsFrom s k o x t → IsAt s a (settle s n) → Follows a n t
  shut s k None x t h i = falls s k t h.new_is
  shut s k (Some j) x t h i = stays s x t h i

  -- From the open node where it waited to the node that leads there.
  back : (s : State) (x : Effects) (t : State) → AllStop s → AllStop t → AreThere t → LeadsOn s x t → EndsAt a (settle s n) t → Follows a n t
  back s x t from stop there law h i =
      let e : settle t n ≡ settle t (settle s n) = law there n (from n).0 (stop (settle s n)).0 i (from n).1 (stop (settle s n)).1 in
      subst (λ (m : Node). IsAt t a m ⊎ (times_waiting a t ≡ 0)) (sym e) (h (settled_there t there n (settle s n) i e))

  commanded : (s : State) (c : Command) (g : Granted) (x : Effects) (t : State) → IsReached s → AllStop t → AreThere t → refused s c ≡ None → Does s c g x t → OpenAt a s.promises s.outcomes (settle s n) → EndsAt a (settle s n) t
  commanded s c g x t r stop there free h i =
      let k = done P s c g x t begins goes h in
      subst (EndsAt a (settle s n)) (sym k.ends.state)
      (ended s a (settle s n) k.last t (subst AllStop k.ends.state stop) (subst AreThere k.ends.state there) k.holds.3 (ap (λ (m : Moment). m.yet) k.ends.rest) (ap (λ (m : Moment). m.clearing) k.ends.rest))
    where
      P : Moment → Type 0
      P d = (start : Moment) × Starts (beginning s) c g start × Acts d start × Tracked s a (settle s n) d

      begins : (new : Moment) → Starts (beginning s) c g new → P new
      begins new f = let y = opened s a (settle s n) i c g new f in (new, f, NoMore, (counting.started a s c g new f (once s r a), y.0, y.1, y.2))

      goes : (d new : Moment) → P d → Act d new → P new
      goes d new p f = (p.0, p.1, one_act d new p.0 p.2 f, tracked s a (settle s n) d new (within.commands s c g p.0 d free (each_stops s r) p.1 p.2) p.3 f)

  messaged : (s : State) (m : Message) (x : Effects) (t : State) → IsReached s → AllStop t → AreThere t → fault_of s m ≡ None → Handles s m x t → OpenAt a s.promises s.outcomes (settle s n) → EndsAt a (settle s n) t
  messaged s m x t r stop there free h i =
      let k = handled P s m x t free begins goes h in
      subst (EndsAt a (settle s n)) (sym k.ends.state)
      (ended s a (settle s n) k.last t (subst AllStop k.ends.state stop) (subst AreThere k.ends.state there) k.holds.3 (ap (λ (m : Moment). m.yet) k.ends.rest) (ap (λ (m : Moment). m.clearing) k.ends.rest))
    where
      P : Moment → Type 0
      P d = (start : Moment) × Consumes (beginning s) m start × Acts d start × Tracked s a (settle s n) d

      begins : (new : Moment) → Consumes (beginning s) m new → P new
      begins new f = let y = came s a (settle s n) i m new f in (new, f, NoMore, (counting.consumed a s m new f (once s r a), y.0, y.1, y.2))

      goes : (d new : Moment) → P d → Act d new → P new
      goes d new p f = (p.0, p.1, one_act d new p.0 p.2 f, tracked s a (settle s n) d new (within.messages s m p.0 d (each_stops s r) p.1 p.2) p.3 f)

  module _ (laws : OfEachStep LeadsOn) where
    pub of_command : (s : State) (c : Command) (k : Result Granted Refusal) (x : Effects) (t : State) → IsReached s → Obeys s c k x t → IsAt s a (settle s n) → Follows a n t
    of_command s c k x t r o i = by o
      where
        reached : IsReached t
        reached = go_on s t r (Commanded c k x o Stays)

        by : Obeys s c k x t → Follows a n t
        by (Refuses y f g u) = stays s x t u i
        by (LacksMemory f g y u) = stays s x t u i
        by (GoesDown f g y u) = falls s want_of_room t u.new_is
        by (Shuts j f g h) = shut s j s.down x t h i
        by (IsDone given f g h w) =
            let there = after_command s c k x t r o in
            back s x t (each_stops s r) (each_stops t reached) there (laws.commands s c k x t o)
            (commanded s c given x t r (each_stops t reached) there f h (is_open_at s a (settle s n) (ends s (each_stops s r) n) i))

    pub of_message : (s : State) (m : Message) (x : Effects) (t : State) → IsReached s → Receives s m x t → IsAt s a (settle s n) → Follows a n t
    of_message s m x t r o i = by o
      where
        reached : IsReached t
        reached = go_on s t r (Received m x o Stays)

        by : Receives s m x t → Follows a n t
        by (WasDown d u) = stays s x t u i
        by (FaultsBy j d f g h) = falls s j t h
        by (LacksRoom d f u) = falls s want_of_room t u.new_is
        by (IsHandled d f h w) =
            let there = after_message s m x t r o in
            back s x t (each_stops s r) (each_stops t reached) there (laws.messages s m x t o)
            (messaged s m x t r (each_stops t reached) there f h (is_open_at s a (settle s n) (ends s (each_stops s r) n) i))

pub calls_follow : OfEachStep LeadsOn → CallsFollow
calls_follow laws = record {
  commands = λ s c k x t r o a n i. of_command a n laws s c k x t r o i;
  messages = λ s m x t r o a n i. of_message a n laws s m x t r o i;
}
