-- Each step: of two calls in one line, the one behind does not pass the one ahead.
use Rattle.std.proofs.Common.{◌≡◌, ◌⊎◌, inl, inr, ℕ, ◌≤◌, List, [], ◌∷◌, ◌++◌, Option, None, Some, Result, refl, sym, ap, subst, ◌∙◌, arith}
use Rattle.std.specs.FinMap as map
use Rattle.finite_maps.proofs.Tallies.{tally-empty}
use Rattle.finite_maps.proofs.Gets.{get-insert_same}
use Rattle.rpc_msg.specs.declared.message.Message.{Message}
use Rattle.rpc_machine.specs.declared.node.Node.{Node}
use Rattle.rpc_machine.specs.declared.node.Node.TheVariants as node
use Rattle.rpc_machine.specs.declared.node.Reason.TheVariants.{BrokenPromise}
use Rattle.rpc_machine.specs.declared.command.Command.{Command}
use Rattle.rpc_machine.specs.declared.command.Granted.{Granted}
use Rattle.rpc_machine.specs.declared.command.Refusal.{Refusal}
use Rattle.rpc_machine.specs.declared.command.Effects.{Effects}
use Rattle.rpc_machine.specs.declared.calls.WaitingCall.{WaitingCall}
use Rattle.rpc_machine.specs.declared.calls.Promise.TheVariants as promise
use Rattle.rpc_machine.specs.declared.calls.KeptOutcome.{KeptOutcome}
use Rattle.rpc_machine.specs.declared.calls.Value.{Value}
use Rattle.rpc_machine.specs.declared.entries.Role.TheVariants as role
use Rattle.rpc_machine.specs.declared.entries.Embargo.{Embargo}
use Rattle.rpc_machine.specs.State.{State}
use Rattle.rpc_machine.specs.Numbers.{want_of_room}
use Rattle.rpc_machine.specs.Refusals.{refused}
use Rattle.rpc_machine.specs.Faults.{fault_of}
use Rattle.rpc_machine.specs.Down.{IsUnchanged, ShutsFrom, fallen}
use Rattle.rpc_machine.specs.Steps.{staying_up, Does, Handles, Obeys, Refuses, LacksMemory, GoesDown, Shuts, IsDone, Receives, WasDown, FaultsBy, LacksRoom, IsHandled}
use Rattle.laws_acts.specs.Moments.{Moment, beginning, each_to}
use Rattle.laws_acts.specs.FirstActs.{Starts}
use Rattle.laws_acts.specs.FirstActs as first
use Rattle.laws_acts.specs.MessageActs.{Consumes}
use Rattle.laws_acts.specs.MessageActs as message
use Rattle.laws_acts.specs.SmallActs.{Act, Acts, NoMore, Then, IsEnd}
use Rattle.laws_acts.proofs.EachStep.{done, handled, at_end}
use Rattle.laws_steps.specs.NodesThere.{IsReached}
use Rattle.laws_nodes.specs.Sources.{at_promise, at_outcome, at_embargo, waits_for, sources, HasOneSource}
use Rattle.laws_nodes.proofs.Sourced.{has_one}
use Rattle.laws_nodes.proofs.Acyclic.{each_stops, within}
use Rattle.laws_authority.proofs.Once.{no_deliveries}
use Rattle.laws_vat_order.specs.Lines.{Before, BeforeAt, OfPromise, OfEmbargo, IsAhead, AtPromise, ForField, UnderEmbargo, times_waiting, sent_on}
use Rattle.laws_vat_order.specs.Order.{WaitsOnce, DoesNotPass, NonePasses}
use Rattle.laws_vat_order.proofs.Counting.{all_waiting, IsOnce}
use Rattle.laws_vat_order.proofs.Counting as counting
use Rattle.laws_vat_order.specs.Lines.{of_question}
use Rattle.laws_vat_order.proofs.Sending.{IsUnanswered, none_asked}
use Rattle.laws_vat_order.proofs.Lists.{none_behind, before_more, each_before, promise_new, promise_fixed, outcome_new, embargo_more, embargo_new, embargo_lifted}
use Rattle.laws_vat_order.proofs.Moving.{Line, OnPromise, OnField, OnEmbargo, OnWay, Quiet, Told, InLine, Ordered, Fine, acted}
use Rattle.laws_vat_order.proofs.Moving as moving

-- ---- Acts, one more

pub one_act : (d new first : Moment) → Acts d first → Act d new → Acts new first
one_act d new first NoMore a = Then a NoMore
one_act d new first (Then {mid = mid} x rest) a = Then x (one_act d new mid rest a)

-- ---- A call waits once

known_once : (o : Option KeptOutcome) → waits_for o ≤ 1
known_once None = omega arith
known_once (Some x) = by x.value
  where
    by : (v : Option Value) → Rattle.laws_nodes.specs.Sources.unknown v ≤ 1
    by None = omega arith
    by (Some v) = omega arith

pub once : (s : State) → IsReached s → (a : ℕ) → IsOnce a s
once s r a =
    let h = (has_one s r).each a in
    let k = known_once (map.get s.outcomes a) in
    (omega arith, λ e. (let z : waits_for (map.get s.outcomes a) ≡ 0 = ap waits_for e in omega arith))

pub waits_once : WaitsOnce
waits_once s r a = (once s r a).0

-- ---- First acts

module _ (s : State) (a b : ℕ) where
  to_line : (yet : List (WaitingCall × Node)) → IsAhead s a b → Line s a b s.promises s.outcomes s.embargoes yet
  to_line yet (AtPromise p h) = OnPromise p h
  to_line yet (ForField o path h) = OnField o path h
  to_line yet (UnderEmbargo e h) = OnEmbargo e h

  with_outcome : (yet : List (WaitingCall × Node)) (u : ℕ) (y : KeptOutcome) → map.get s.outcomes u ≡ None → IsAhead s a b → Line s a b s.promises (map.insert s.outcomes u y) s.embargoes yet
  with_outcome yet u y e (AtPromise p h) = OnPromise p h
  with_outcome yet u y e (ForField o path h) = OnField o path (outcome_new (BeforeAt path a b) s.outcomes u y e o h)
  with_outcome yet u y e (UnderEmbargo k h) = OnEmbargo k h

  with_later : (u : ℕ) (y : KeptOutcome) (z : ℕ) (x : Embargo) (c : WaitingCall) → map.get s.outcomes u ≡ None → map.get s.embargoes z ≡ Some x → IsAhead s a b → Line s a b s.promises (map.insert s.outcomes u y) (map.insert s.embargoes z (record x { waiting = x.waiting ++ c ∷ [] })) []
  with_later u y z x c e f (AtPromise p h) = OnPromise p h
  with_later u y z x c e f (ForField o path h) = OnField o path (outcome_new (BeforeAt path a b) s.outcomes u y e o h)
  with_later u y z x c e f (UnderEmbargo k h) = OnEmbargo k (embargo_more (Before a b) s.embargoes z x (record x { waiting = x.waiting ++ c ∷ [] }) f (before_more a b c x.waiting) k h)

  with_promise : (p : ℕ) → map.get s.promises p ≡ None → IsAhead s a b → Line s a b (map.insert s.promises p (promise.Open [])) s.outcomes s.embargoes []
  with_promise p e (AtPromise q h) = OnPromise q (promise_new (Before a b) s.promises p (promise.Open []) e q h)
  with_promise p e (ForField o path h) = OnField o path h
  with_promise p e (UnderEmbargo k h) = OnEmbargo k h

  with_embargo : (k : ℕ) (y : Embargo) → map.get s.embargoes k ≡ None → IsAhead s a b → Line s a b s.promises s.outcomes (map.insert s.embargoes k y) []
  with_embargo k y e (AtPromise q h) = OnPromise q h
  with_embargo k y e (ForField o path h) = OnField o path h
  with_embargo k y e (UnderEmbargo z h) = OnEmbargo z (embargo_new (Before a b) s.embargoes k y e z h)

  fixes : (p : ℕ) (calls : List WaitingCall) (to : Node) → map.get s.promises p ≡ Some (promise.Open calls) → IsAhead s a b → Line s a b (map.insert s.promises p (promise.Fixed to)) s.outcomes s.embargoes (each_to (node.Promise p) calls)
  fixes p calls to e (AtPromise q h) = by (promise_fixed (Before a b) s.promises p calls to e q h)
    where
      by : OfPromise (Before a b) (map.get (map.insert s.promises p (promise.Fixed to)) q) ⊎ ((q ≡ p) × Before a b calls) → Line s a b (map.insert s.promises p (promise.Fixed to)) s.outcomes s.embargoes (each_to (node.Promise p) calls)
      by (inl i) = OnPromise q i
      by (inr i) = OnWay (node.Promise p) (each_before (node.Promise p) a b calls i.1)
  fixes p calls to e (ForField o path h) = OnField o path h
  fixes p calls to e (UnderEmbargo k h) = OnEmbargo k h

  lifts : (e : ℕ) (x : Embargo) → map.get s.embargoes e ≡ Some x → IsAhead s a b → Line s a b s.promises s.outcomes (map.remove s.embargoes e) (each_to x.node x.waiting)
  lifts e x f (AtPromise q h) = OnPromise q h
  lifts e x f (ForField o path h) = OnField o path h
  lifts e x f (UnderEmbargo k h) = by (embargo_lifted (Before a b) s.embargoes e x f k h)
    where
      by : OfEmbargo (Before a b) (map.get (map.remove s.embargoes e) k) ⊎ Before a b x.waiting → Line s a b s.promises s.outcomes (map.remove s.embargoes e) (each_to x.node x.waiting)
      by (inl i) = OnEmbargo k i
      by (inr i) = OnWay x.node (each_before x.node a b x.waiting i)

  abbrev Begun : Moment → Type 0
  Begun d = Quiet d × Told d × Ordered s a b d

  begun : (c : Command) (g : Granted) (new : Moment) → IsAhead s a b → Starts (beginning s) c g new → Begun new
  begun c g new i (first.Hosts u e f h) = rw h (inl refl, (tt, tt), inl (to_line [] i, tt, tt))
  begun c g new i (first.Clones r x e f j h) = rw h (inl refl, (tt, tt), inl (to_line [] i, tt, tt))
  begun c g new i (first.Drops r x e f j h) = rw h (inl refl, (tt, tt), inl (to_line [] i, tt, tt))
  begun c g new i (first.AsksRoot q e f j h) = rw h (inl refl, (tt, (tt, tt)), inl (to_line [] i, tt, tt))
  begun c g new i (first.CallsOut k x q t ds es e f j w l m n h) =
      let y = first.asked (role.Direct (record { 0 = s.next_call })) ds in
      let z : map.get (map.insert s.questions q y) q ≡ Some y = get-insert_same s.questions q y in
      rw h (inl refl, (tt, (subst IsUnanswered (sym z) refl, tt)), inl (to_line [] i, tt, (λ v. absurd (let u : None ≡ Some b = sym (ap of_question z) ∙ v in cc), tt)))
  begun c g new i (first.CallsHere k x u e f j w l m h) = rw h (inr (refl, refl, refl), (tt, tt), inl (with_outcome _ u _ l i, tt, tt))
  begun c g new i (first.CallsLater k x u z y e f j l m n h) = rw h (inl refl, (tt, tt), inl (with_later u _ z.0 y (first.waiting_call s k x u) m l i, tt, tt))
  begun c g new i (first.NamesField k path from e f j h) = rw h (inl refl, (tt, tt), inl (to_line [] i, tt, tt))
  begun c g new i (first.Promises p e f j h) = rw h (inl refl, (tt, tt), inl (with_promise p f i, tt, tt))
  begun c g new i (first.Fixes p r x key calls e f j k l h) = rw h (inr (refl, refl, refl), (tt, tt), inl (fixes key calls x.head k i, tt, tt))
  begun c g new i (first.Rejects p why key calls e f j k h) = rw h (inr (refl, refl, refl), (tt, tt), inl (fixes key calls (node.Broken BrokenPromise) j i, tt, tt))
  begun c g new i (first.Answers t payload refs u e f j h) = rw h (inl refl, (tt, tt), inl (to_line [] i, tt, tt))
  begun c g new i (first.Fails t why u e f j h) = rw h (inl refl, (tt, tt), inl (to_line [] i, tt, tt))
  begun c g new i (first.Finishes k from e f j h) = rw h (inl refl, (tt, tt), inl (to_line [] i, tt, tt))
  begun c g new i (first.StaysPut r x e f j h) = rw h (inl refl, (tt, tt), inl (to_line [] i, tt, tt))
  begun c g new i (first.Breaks r x reason e f j k l h) = rw h (inl refl, (tt, tt), inl (to_line [] i, tt, tt))
  begun c g new i (first.Switches r x by n e f j k l m o h) = rw h (inl refl, (tt, tt), inl (to_line [] i, tt, tt))
  begun c g new i (first.Turns r x by n t k e f j l m w u v z h) = rw h (inl refl, (tt, (tt, tt)), inl (with_embargo k _ v i, tt, tt))

  came : (m : Message) (new : Moment) → IsAhead s a b → Consumes (beginning s) m new → Begun new
  came m new i (message.OpensRoot q u e f j h) = rw h (inl refl, (tt, tt), inl (with_outcome _ u _ j i, tt, tt))
  came m new i (message.OpensCall c u e f j h) = rw h (inr (refl, refl, refl), (tt, tt), inl (with_outcome _ u _ j i, tt, tt))
  came m new i (message.Loses y x e f j k h) = rw h (inl refl, (tt, tt), inl (to_line [] i, tt, tt))
  came m new i (message.ComesToCall y x c e f j k l h) = rw h (inl refl, (tt, tt), inl (to_line [] i, tt, tt))
  came m new i (message.ComesToRelay y x u e f j k l h) = rw h (inl refl, (tt, tt), inl (to_line [] i, tt, tt))
  came m new i (message.IsFinished x y e f j h) = rw h (inl refl, (tt, tt), inl (to_line [] i, tt, tt))
  came m new i (message.IsResolved r e h) = rw h (inl refl, (tt, tt), inl (to_line [] i, tt, tt))
  came m new i (message.IsReleased r e h) = rw h (inl refl, (tt, tt), inl (to_line [] i, tt, tt))
  came m new i (message.SendsBack t to x e f h) = rw h (inl refl, (tt, (tt, tt)), inl (to_line [] i, tt, tt))
  came m new i (message.Lifts t x y e f h) = rw h (inr (refl, refl, refl), (tt, tt), inl (lifts x.0 y f i, tt, tt))
  came m new i (message.SendsForeign p e f h) = rw h (inl refl, (tt, tt), inl (to_line [] i, tt, tt))
  came m new i (message.SendsOther n e h) = rw h (inl refl, (tt, tt), inl (to_line [] i, tt, tt))
  came m new i (message.TakesBack r e h) = rw h (inl refl, (tt, tt), inl (to_line [] i, tt, tt))
  came m new i (message.Ignores r e h) = rw h (inl refl, (tt, tt), inl (to_line [] i, tt, tt))

  -- ---- The end

  to_ahead : (t : State) → Line s a b t.promises t.outcomes t.embargoes [] → IsAhead t a b
  to_ahead t (OnPromise p h) = AtPromise p h
  to_ahead t (OnField o path h) = ForField o path h
  to_ahead t (OnEmbargo e h) = UnderEmbargo e h
  to_ahead t (OnWay n h) = absurd h
  to_ahead t (moving.AtPromise p n h y l) = absurd y
  to_ahead t (moving.AtField o path n h y l) = absurd y

  pub ended : (last : Moment) (x : Effects) (t : State) → Fine s a b last → IsEnd last x t → DoesNotPass a b x t
  ended last x t i h = at_end (λ (u : State) (y : Effects). DoesNotPass a b y u) last x t h (by i.4)
    where
      none : last.yet ≡ []
      none = ap (λ (m : Moment). m.yet) h.rest

      by : Ordered s a b last → DoesNotPass a b (staying_up last.effects) last.state
      by (inl l) = inl (to_ahead last.state (subst (Line s a b last.state.promises last.state.outcomes last.state.embargoes) none l.0), l.1, l.2)
      by (inr l) = let z = l.0 in inr (omega arith, l.1, l.2)

-- ---- Each step

pub gone : (a : ℕ) (s : State) (n : ℕ) → times_waiting a (fallen s n) ≡ 0
gone a s n = let x = tally-empty (at_promise a) in let y = tally-empty (at_outcome a) in let z = tally-empty (at_embargo a) in omega arith

module _ (a b : ℕ) where
  stays : (s : State) (x : Effects) (t : State) → IsUnchanged s x t → IsAhead s a b → DoesNotPass a b x t
  stays s x t u i = rw (u.effects_are, u.new_is) (inl (i, tt, tt))

  falls : (s : State) (n : ℕ) (x : Effects) (t : State) → x.deliveries ≡ [] → t ≡ fallen s n → DoesNotPass a b x t
  falls s n x t e f = rw (e, f) (inr (gone a s n, tt, none_behind a b (sent_on map.empty x.sends) (none_asked b x.sends)))

  shut : (s : State) (n : ℕ) (o : Option ℕ) (x : Effects) (t : State) → ShutsFrom s n o x t → IsAhead s a b → DoesNotPass a b x t
  shut s n None x t h i = falls s n x t (ap (λ (y : Effects). y.deliveries) h.effects_are) h.new_is
  shut s n (Some k) x t h i = stays s x t h i

  commanded : (s : State) (c : Command) (g : Granted) (x : Effects) (t : State) → IsReached s → refused s c ≡ None → Does s c g x t → IsAhead s a b → DoesNotPass a b x t
  commanded s c g x t r free h i = let k = done P s c g x t begins goes h in ended s a b k.last x t k.holds.3 k.ends
    where
      P : Moment → Type 0
      P d = (start : Moment) × Starts (beginning s) c g start × Acts d start × Fine s a b d

      begins : (new : Moment) → Starts (beginning s) c g new → P new
      begins new f =
          let y = begun s a b c g new i f in
          (new, f, NoMore, (counting.started a s c g new f (once s r a), counting.started b s c g new f (once s r b), y.0, y.1, y.2))

      goes : (d new : Moment) → P d → Act d new → P new
      goes d new p f = (p.0, p.1, one_act d new p.0 p.2 f, acted s a b d new (within.commands s c g p.0 d free (each_stops s r) p.1 p.2) p.3 f)

  messaged : (s : State) (m : Message) (x : Effects) (t : State) → IsReached s → fault_of s m ≡ None → Handles s m x t → IsAhead s a b → DoesNotPass a b x t
  messaged s m x t r free h i = let k = handled P s m x t free begins goes h in ended s a b k.last x t k.holds.3 k.ends
    where
      P : Moment → Type 0
      P d = (start : Moment) × Consumes (beginning s) m start × Acts d start × Fine s a b d

      begins : (new : Moment) → Consumes (beginning s) m new → P new
      begins new f =
          let y = came s a b m new i f in
          (new, f, NoMore, (counting.consumed a s m new f (once s r a), counting.consumed b s m new f (once s r b), y.0, y.1, y.2))

      goes : (d new : Moment) → P d → Act d new → P new
      goes d new p f = (p.0, p.1, one_act d new p.0 p.2 f, acted s a b d new (within.messages s m p.0 d (each_stops s r) p.1 p.2) p.3 f)

  pub of_command : (s : State) (c : Command) (k : Result Granted Refusal) (x : Effects) (t : State) → IsReached s → Obeys s c k x t → IsAhead s a b → DoesNotPass a b x t
  of_command s c k x t r (Refuses y f g u) i = stays s x t u i
  of_command s c k x t r (LacksMemory f g y u) i = stays s x t u i
  of_command s c k x t r (GoesDown f g y u) i = falls s want_of_room x t (ap (λ (z : Effects). z.deliveries) u.effects_are) u.new_is
  of_command s c k x t r (Shuts n f g h) i = shut s n s.down x t h i
  of_command s c k x t r (IsDone given f g h w) i = commanded s c given x t r f h i

  pub of_message : (s : State) (m : Message) (x : Effects) (t : State) → IsReached s → Receives s m x t → IsAhead s a b → DoesNotPass a b x t
  of_message s m x t r (WasDown d u) i = stays s x t u i
  of_message s m x t r (FaultsBy n d f g h) i = falls s n x t (ap (λ (y : Effects). y.deliveries) g ∙ no_deliveries m n) h
  of_message s m x t r (LacksRoom d f u) i = falls s want_of_room x t (ap (λ (z : Effects). z.deliveries) u.effects_are) u.new_is
  of_message s m x t r (IsHandled d f h w) i = messaged s m x t r f h i

pub none_passes : NonePasses
none_passes = record {
  commands = λ s c k x t r o a b i. of_command a b s c k x t r o i;
  messages = λ s m x t r o a b i. of_message a b s m x t r o i;
}
