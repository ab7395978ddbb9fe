-- A host tells each task of the peer that is cancelled once, and misses none: act by act.
use Rattle.std.proofs.Common.{◌≡◌, ◌⊎◌, inl, inr, ℕ, zero, suc, ◌+◌, ◌≤◌, ◌<◌, Bool, true, false, cond, is_some, nat_eq, List, [], ◌∷◌, ◌++◌, append-nil, append_assoc, Option, None, Some, IsSome, Result, Ok, Err, refl, sym, ap, subst, ◌∙◌, arith}
use Rattle.std.specs.Ordering.{nat_cmp}
use Rattle.std.specs.FinMap as map
use Rattle.finite_maps.proofs.Tested.{at_cut, itself, equal, get_left}
use Rattle.rpc_msg.specs.declared.ids.ObjectId.{ObjectId}
use Rattle.rpc_msg.specs.declared.ids.TaskId.{TaskId}
use Rattle.rpc_msg.specs.declared.ids.Vat.{Vat}
use Rattle.rpc_msg.specs.declared.message.Message.{Message}
use Rattle.rpc_machine.specs.declared.calls.Caller.{Caller}
use Rattle.rpc_machine.specs.declared.calls.Caller.TheVariants as caller
use Rattle.rpc_machine.specs.declared.calls.KeptOutcome.{KeptOutcome}
use Rattle.rpc_machine.specs.declared.command.Command.{Command}
use Rattle.rpc_machine.specs.declared.command.Effects.{Effects}
use Rattle.rpc_machine.specs.declared.command.Granted.{Granted}
use Rattle.rpc_machine.specs.declared.command.Level.{Level}
use Rattle.rpc_machine.specs.declared.command.Refusal.{Refusal}
use Rattle.rpc_machine.specs.Down.{ShutsFrom, fallen}
use Rattle.rpc_machine.specs.Faults.{fault_of}
use Rattle.rpc_machine.specs.State.{State, start}
use Rattle.rpc_machine.specs.Steps.{Does as CoreDoes, Handles, Obeys, Refuses, LacksMemory, GoesDown, Shuts, IsDone, Receives as CoreReceives, WasDown, FaultsBy, LacksRoom, IsHandled}
use Rattle.rpc_machine.proofs.StaysDown.{command_down}
use Rattle.laws_steps.specs.Callers.{CallersAreServed, IsOpenFor}
use Rattle.laws_steps.specs.NodesThere.{IsReached, NodesAreThere, Stays}
use Rattle.laws_nodes.specs.Ones.{one_if}
use Rattle.laws_nodes.specs.Sources.{EachHasOneSource, HasOneSource}
use Rattle.laws_tasks.specs.TaskSteps.{IsFinished, IsOpen, StepsKeepTasks}
use Rattle.laws_authority.specs.Reach.{IsForPeer, IsPeer}
use Rattle.laws_authority.proofs.Running.{reached}
use Rattle.vat_host.specs.declared.event.Event.{Event}
use Rattle.vat_host.specs.declared.event.Event.TheVariants as event
use Rattle.vat_host.specs.Hosting.{Hosted, IsIdle, Tells, idle}
use Rattle.vat_host.specs.Unanswered.{IsCancelledAt, Unanswered, followed, heard, heard_at, told_of}
use Rattle.vat_hosts.specs.Cancelled.{CancelledAreTold, IsCancelled, TellsCancelled, cancels_by, cancels_of, times_cancelled}
use Rattle.vat_hosts.specs.OneHost.{Act, Acts, ActsAll}
use Rattle.vat_hosts.specs.OneHost.Act.{Commands, Takes, Receives, Asks}
use Rattle.vat_hosts.proofs.Following.{Follows, follows_on}
use Rattle.vat_hosts.proofs.Known.{Each}
use Rattle.vat_hosts.proofs.OneHost.{So, one_act, so_new}
use Rattle.vat_hosts.proofs.OpenTasks.{cancelled_finished, cancelled_task, one_open, one_task, task_open}
use Rattle.vat_hosts.proofs.Released.{IsOfStep, each_of_step}
use Rattle.vat_hosts.proofs.Unanswered.{noted, over_at}

-- ---- How often it was told

times-behind : (k : ℕ) (xs : List Act) (x : Act) → times_cancelled k (xs ++ x ∷ []) ≡ times_cancelled k xs + cancels_by k x
times-behind k [] x = omega arith
times-behind k (y ∷ ys) x = let e = times-behind k ys x in omega arith

-- With the same counts.
counted : (s : State) (u : Unanswered) (n m : ℕ → ℕ) → ((k : ℕ) → m k ≡ n k) → Follows s u n → Follows s u m
counted s u n m same f = record {
  there = f.there;
  tasks = f.tasks;
  over = λ o q is fin. by o (f.over o q is fin);
  told = λ k o q l e is. f.told k o q (let z = same k in omega arith) e is;
  below = λ k l. f.below k (let z = same k in omega arith);
  mine = f.mine;
}
  where
    by : (o : ℕ) {A : Type 0} → A ⊎ ((k : ℕ) × (map.get s.tasks k ≡ Some o) × (1 ≤ n k)) → A ⊎ ((k : ℕ) × (map.get s.tasks k ≡ Some o) × (1 ≤ m k))
    by o (inl z) = inl z
    by o (inr (k, e, l)) = inr (k, e, let z = same k in omega arith)

-- ---- A task is told

for_peer : (x : Option KeptOutcome) (q : ℕ) → IsOpenFor q x → IsForPeer x
for_peer None q none = none
for_peer (Some x) q is = subst IsPeer (sym is.1) tt

peers : (x : Option KeptOutcome) → IsOpen x → IsForPeer x → (q : ℕ) × IsOpenFor q x
peers None none is = absurd none
peers (Some x) known is = by x.caller refl is
  where
    by : (w : Caller) → x.caller ≡ w → IsPeer w → (q : ℕ) × IsOpenFor q (Some x)
    by (caller.Application c) e none = absurd none
    by (caller.Peer q) e is = (q.0, (known, e))

abbrev number : Caller → ℕ
number (caller.Application c) = 0
number (caller.Peer q) = q.0

none_some : {X : Type 0} (y : Option X) → y ≡ None → IsSome y → ⊥
none_some None e none = let bad : false ≡ true = none in cc
none_some (Some x) e some = let bad : Some x ≡ None = e in cc

same_peer : (x : Option KeptOutcome) (q p : ℕ) → IsOpenFor q x → IsOpenFor p x → p ≡ q
same_peer None q p none is = absurd none
same_peer (Some x) q p is other = ap number (sym other.1 ∙ is.1)

module _ (s : State) (one : HasOneSource s) (callers : CallersAreServed s) (u : Unanswered) (n : ℕ → ℕ) (f : Follows s u n) where
  -- One that is cancelled and was not told is to be told.
  untold : ((k : ℕ) → n k ≤ 1) → (t : TaskId) → IsCancelled s t → (n t.0 ≡ 1) ⊎ ((q : ℕ) × IsCancelledAt s u q t)
  untold once t is =
      let z = peers (map.get s.outcomes is.outcome) (task_open s one t.0 is.outcome is.task) is.for_peer in
      by z.0 z.1 (f.over is.outcome z.0 z.1 (cancelled_finished s callers t is.outcome z.0 is.task z.1 is.unwanted))
    where
      by : (q : ℕ) → IsOpenFor q (map.get s.outcomes is.outcome) → IsSome (over_at u q) ⊎ ((k : ℕ) × (map.get s.tasks k ≡ Some is.outcome) × (1 ≤ n k)) → (n t.0 ≡ 1) ⊎ ((q : ℕ) × IsCancelledAt s u q t)
      by q own (inl over) = inr (q, record { over = over; task = f.tasks t.0 is.outcome q is.task own; cancelled = is.unwanted })
      by q own (inr (k, e, l)) = inl (let same : k ≡ t.0 = one_task s one t.0 k is.outcome is.task e in let a : 1 ≤ n t.0 = subst (λ (j : ℕ). 1 ≤ n j) same l in let b = once t.0 in omega arith)

  module _ (q : ℕ) (t : TaskId) (at : IsCancelledAt s u q t) where
    abbrev o : ℕ
    o = (cancelled_task s t at.cancelled).0

    e : map.get s.tasks t.0 ≡ Some o
    e = (cancelled_task s t at.cancelled).1

    own : IsOpenFor q (map.get s.outcomes o)
    own = (f.mine q t at.task).1 o e

    -- It is rightly told, and was not before.
    rightly_told : IsCancelled s t
    rightly_told = record { outcome = o; task = e; for_peer = for_peer (map.get s.outcomes o) q own; unwanted = at.cancelled }

    not_before : 1 ≤ n t.0 → ⊥
    not_before l = let z = f.told t.0 o q l e own in none_some (over_at u q) z.0 at.over

    abbrev m : ℕ → ℕ
    m k = n k + one_if (nat_eq k t.0)

    more : (k : ℕ) → 1 ≤ n k → 1 ≤ m k
    more k l = omega arith

    now : 1 ≤ m t.0
    now = let z : one_if (nat_eq t.0 t.0) ≡ 1 = ap one_if (itself t.0) in omega arith

    new_over : (p r : ℕ) → IsOpenFor r (map.get s.outcomes p) → IsFinished (map.get s.answers r) → IsSome (over_at (told_of q u) r) ⊎ ((k : ℕ) × (map.get s.tasks k ≡ Some p) × (1 ≤ m k))
    new_over p r is fin = by (f.over p r is fin) (nat_eq r q) refl
      where
        by : IsSome (over_at u r) ⊎ ((k : ℕ) × (map.get s.tasks k ≡ Some p) × (1 ≤ n k)) → (b : Bool) → nat_eq r q ≡ b → IsSome (over_at (told_of q u) r) ⊎ ((k : ℕ) × (map.get s.tasks k ≡ Some p) × (1 ≤ m k))
        by (inr (k, g, l)) b d = inr (k, g, more k l)
        by (inl some) true d =
            let mine : IsOpenFor q (map.get s.outcomes p) = subst (λ (j : ℕ). IsOpenFor j (map.get s.outcomes p)) (equal r q d) is in
            inr (t.0, e ∙ ap (λ (j : ℕ). Some j) (one_open s callers o p q own mine), now)
        by (inl some) false d = inl (subst (λ (y : Option (Unit {0})). IsSome y) (sym (get_left u.over q r d)) some)

    new_told : (k p r : ℕ) → 1 ≤ m k → map.get s.tasks k ≡ Some p → IsOpenFor r (map.get s.outcomes p) → (over_at (told_of q u) r ≡ None) × IsFinished (map.get s.answers r)
    new_told k p r l g is = by (nat_eq k t.0) refl
      where
        by : (b : Bool) → nat_eq k t.0 ≡ b → (over_at (told_of q u) r ≡ None) × IsFinished (map.get s.answers r)
        by true d =
            let same : o ≡ p = (let h : Some o ≡ Some p = sym e ∙ (ap (map.get s.tasks) (sym (equal k t.0 d)) ∙ g) in let i : o ≡ p = cc in i) in
            let here : IsOpenFor r (map.get s.outcomes o) = subst (λ (j : ℕ). IsOpenFor r (map.get s.outcomes j)) (sym same) is in
            let r_is : r ≡ q = same_peer (map.get s.outcomes o) q r own here in (
              at_cut (λ j y. j ≡ q → y ≡ None) u.over q (λ i. refl) (λ j z i. absurd (let h : nat_eq j q ≡ true = subst (λ (a : ℕ). nat_eq a q ≡ true) (sym i) (itself q) in let bad : true ≡ false = sym h ∙ z in cc)) r r_is,
              cancelled_finished s callers t o r e here at.cancelled,
            )
        by false d =
            let z : one_if (nat_eq k t.0) ≡ 0 = ap one_if d in
            let w = f.told k p r (omega arith) g is in
            (at_cut (λ j y. over_at u j ≡ None → y ≡ None) u.over q (λ i. refl) (λ j z i. i) r w.0, w.1)

    new_below : (k : ℕ) → 1 ≤ m k → k < s.next_task
    new_below k l = by (nat_eq k t.0) refl
      where
        by : (b : Bool) → nat_eq k t.0 ≡ b → k < s.next_task
        by true d = subst (λ (j : ℕ). j < s.next_task) (sym (equal k t.0 d)) (f.mine q t at.task).0
        by false d = let z : one_if (nat_eq k t.0) ≡ 0 = ap one_if d in f.below k (omega arith)

    told_follows : Follows s (told_of q u) m
    told_follows = record { there = f.there; tasks = f.tasks; over = new_over; told = new_told; below = new_below; mine = f.mine }

    once_more : ((k : ℕ) → n k ≤ 1) → (k : ℕ) → m k ≤ 1
    once_more once k = by (nat_eq k t.0) refl
      where
        by : (b : Bool) → nat_eq k t.0 ≡ b → n k + one_if (nat_eq k t.0) ≤ 1
        by true d =
            let z : one_if (nat_eq k t.0) ≡ 1 = ap one_if d in
            let none : 1 ≤ n k → ⊥ = λ l. not_before (subst (λ (j : ℕ). 1 ≤ n j) (equal k t.0 d) l) in
            first_time (n k) none z
          where
            first_time : (a : ℕ) → (1 ≤ a → ⊥) → one_if (nat_eq k t.0) ≡ 1 → a + one_if (nat_eq k t.0) ≤ 1
            first_time zero not z = omega arith
            first_time (suc a) not z = absurd (not (omega arith))
        by false d = let z : one_if (nat_eq k t.0) ≡ 0 = ap one_if d in let l = once k in omega arith

-- ---- Steps of a vat that is up afterwards

not_down : (s : State) (d : ℕ) → s.down ≡ None → s.down ≡ Some d → ⊥
not_down s d up down = let bad : None ≡ Some d = sym up ∙ down in cc

not_fallen : (t s : State) (n : ℕ) → t.down ≡ None → t ≡ fallen s n → ⊥
not_fallen t s n up is = not_down t n up (ap (λ (y : State). y.down) is)

same_up : (s t : State) → t.down ≡ None → t ≡ s → s.down ≡ None
same_up s t up is = sym (ap (λ (y : State). y.down) is) ∙ up

not_shut : (s t : State) (n : ℕ) (o : Option ℕ) (x : Effects) → s.down ≡ o → t.down ≡ None → ShutsFrom s n o x t → ⊥
not_shut s t n None x e up h = not_fallen t s n up h.new_is
not_shut s t n (Some d) x e up h = not_down s d (same_up s t up h.new_is) e

was_up_command : (s t : State) (c : Command) (a : Result Granted Refusal) (x : Effects) → t.down ≡ None → Obeys s c a x t → s.down ≡ None
was_up_command s t c a x up o = by s.down refl
  where
    by : (d : Option ℕ) → s.down ≡ d → s.down ≡ None
    by None e = e
    by (Some d) e = same_up s t up (command_down s c a x t (ap is_some e) o).new_is

is_done : (s t : State) (c : Command) (g : Granted) (x : Effects) → t.down ≡ None → Obeys s c (Ok g) x t → CoreDoes s c g x t
is_done s t c g x up (Refuses r f e u) = absurd (let bad : Ok g ≡ Err r = e in cc)
is_done s t c g x up (LacksMemory f m e u) = absurd (let bad : Ok g ≡ Err _ = e in cc)
is_done s t c g x up (GoesDown f m e u) = absurd (not_fallen t s _ up u.new_is)
is_done s t c g x up (Shuts n e f h) = absurd (not_shut s t n s.down x refl up h)
is_done s t c g x up (IsDone given f e d w) = subst (λ (y : Granted). CoreDoes s c y x t) (let same : Ok g ≡ Ok given = e in let h : given ≡ g = cc in h) d

is_handled : (s t : State) (m : Message) (x : Effects) → t.down ≡ None → CoreReceives s m x t → (s.down ≡ None) × (fault_of s m ≡ None) × Handles s m x t
is_handled s t m x up (WasDown d u) = absurd (none_some s.down (same_up s t up u.new_is) d)
is_handled s t m x up (FaultsBy n d f g h) = absurd (not_fallen t s n up h)
is_handled s t m x up (LacksRoom d f u) = absurd (not_fallen t s _ up u.new_is)
is_handled s t m x up (IsHandled d f h w) = (d, f, h)

-- ---- Acts

not_cancelled : (e : Event) → IsOfStep e → (k : ℕ) → cancels_of k e ≡ 0
not_cancelled (event.Cancelled t) none k = absurd none
not_cancelled (event.Served y) is k = refl
not_cancelled (event.Ended x) is k = refl
not_cancelled (event.Resolved p) is k = refl
not_cancelled (event.Lifted r) is k = refl
not_cancelled (event.Released o) none k = absurd none
not_cancelled (event.Down n reason) none k = absurd none

module _ (keep : StepsKeepTasks) (sources : EachHasOneSource) (nodes : NodesAreThere) where
  abbrev Times : List Act → ℕ → ℕ
  Times xs k = times_cancelled k xs

  -- So far.
  pub record Good (xs : List Act) (h : Hosted) : Type 0 where
    pub so : So xs h
    pub once : (k : ℕ) → times_cancelled k xs ≤ 1
    pub steps : Each IsOfStep h.events
    pub follows : h.core.down ≡ None → Follows h.core h.unanswered (Times xs)

  is_reached : (xs : List Act) (h : Hosted) → So xs h → IsReached h.core
  is_reached xs h so = reached h.core so.log so.ran h.core Stays

  -- What is not told leaves the counts.
  quietly : (xs : List Act) (x : Act) → ((k : ℕ) → cancels_by k x ≡ 0) → (k : ℕ) → Times (xs ++ x ∷ []) k ≡ Times xs k
  quietly xs x none k = let a = times-behind k xs x in let b = none k in omega arith

  module _ (xs : List Act) (h k : Hosted) (x : Act) (good : Good xs h) (acts : Acts h x k) where
    new_so : So (xs ++ x ∷ []) k
    new_so = one_act xs h k x good.so acts

    new_steps : Each IsOfStep k.events
    new_steps = each_of_step h k (x ∷ []) good.steps (k, acts, refl)

    -- Nothing is told as cancelled.
    quiet : ((j : ℕ) → cancels_by j x ≡ 0) → (k.core.down ≡ None → Follows k.core k.unanswered (Times xs)) → Good (xs ++ x ∷ []) k
    quiet none follows = record {
      so = new_so;
      once = λ j. let a = good.once j in let b = quietly xs x none j in omega arith;
      steps = new_steps;
      follows = λ up. counted k.core k.unanswered (Times xs) (Times (xs ++ x ∷ [])) (quietly xs x none) (follows up);
    }

    -- The vat and what is kept of its calls stay as they are.
    still_follows : k.core ≡ h.core → k.unanswered ≡ h.unanswered → k.core.down ≡ None → Follows k.core k.unanswered (Times xs)
    still_follows core_is calls up =
        subst (λ (s : State). Follows s k.unanswered (Times xs)) (sym core_is)
        (subst (λ (u : Unanswered). Follows h.core u (Times xs)) (sym calls) (good.follows (same_up h.core k.core up core_is)))

    beside : k.core ≡ h.core → k.unanswered ≡ h.unanswered → ((j : ℕ) → cancels_by j x ≡ 0) → Good (xs ++ x ∷ []) k
    beside core_is calls none = quiet none (still_follows core_is calls)

    one_of : HasOneSource h.core
    one_of = sources h.core (is_reached xs h good.so)

    one_new : HasOneSource k.core
    one_new = sources k.core (is_reached (xs ++ x ∷ []) k new_so)

    callers_new : CallersAreServed k.core
    callers_new = (nodes k.core (is_reached (xs ++ x ∷ []) k new_so)).callers

    -- A command is done.
    commanded : (c : Command) (g : Granted) (e : Effects) → Obeys h.core c (Ok g) e k.core → k.unanswered ≡ followed e k.core h.unanswered → k.core.down ≡ None → Follows k.core k.unanswered (Times xs)
    commanded c g e obeys calls up =
        subst (λ (u : Unanswered). Follows k.core u (Times xs)) (sym calls)
        (follows_on h.core k.core None e (keep.commands h.core c g e k.core (is_reached xs h good.so) (is_done h.core k.core c g e up obeys)) one_of one_new callers_new h.unanswered (Times xs)
        (good.follows (was_up_command h.core k.core c (Ok g) e up obeys)))

    -- A message comes.
    heard_so : (m : Message) (e : Effects) (u : Unanswered) → CoreReceives h.core m e k.core → (u ≡ heard_at h.core m h.unanswered) ⊎ (IsSome k.core.down × (u ≡ h.unanswered)) → k.unanswered ≡ followed e k.core u → k.core.down ≡ None → Follows k.core k.unanswered (Times xs)
    heard_so m e u receives noted_is calls up = by noted_is
      where
        z : (h.core.down ≡ None) × (fault_of h.core m ≡ None) × Handles h.core m e k.core
        z = is_handled h.core k.core m e up receives

        noted_up : heard_at h.core m h.unanswered ≡ noted (Some m) h.unanswered
        noted_up = ap (λ (o : Option ℕ). cond (is_some o) h.unanswered (heard m h.unanswered)) z.0

        by : (u ≡ heard_at h.core m h.unanswered) ⊎ (IsSome k.core.down × (u ≡ h.unanswered)) → Follows k.core k.unanswered (Times xs)
        by (inl is) =
            subst (λ (u : Unanswered). Follows k.core u (Times xs)) (sym (calls ∙ ap (followed e k.core) (is ∙ noted_up)))
            (follows_on h.core k.core (Some m) e (keep.messages h.core m e k.core (is_reached xs h good.so) z.1 z.2) one_of one_new callers_new h.unanswered (Times xs) (good.follows z.0))
        by (inr (down, is)) = absurd (none_some k.core.down up down)

  -- A task is told.
  tells_one : (xs : List Act) (h k : Hosted) (t : TaskId) (q : ℕ) → Good xs h → Acts h (Asks (Some (event.Cancelled t))) k → h.core.down ≡ None → IsCancelledAt h.core h.unanswered q t → k ≡ record h { unanswered = told_of q h.unanswered } → Good (xs ++ Asks (Some (event.Cancelled t)) ∷ []) k
  tells_one xs h k t q good acts up at is =
      let at_h = is_reached xs h good.so in
      let one = sources h.core at_h in
      let callers = (nodes h.core at_h).callers in
      let f = good.follows up in
      let more : (j : ℕ) → Times (xs ++ Asks (Some (event.Cancelled t)) ∷ []) j ≡ Times xs j + one_if (nat_eq j t.0) = λ j. times-behind j xs (Asks (Some (event.Cancelled t))) in
      record {
        so = one_act xs h k (Asks (Some (event.Cancelled t))) good.so acts;
        once = λ j. let a = once_more h.core one callers h.unanswered (Times xs) f q t at good.once j in let b = more j in omega arith;
        steps = each_of_step h k (Asks (Some (event.Cancelled t)) ∷ []) good.steps (k, acts, refl);
        follows = λ new_up.
            counted k.core k.unanswered (λ j. Times xs j + one_if (nat_eq j t.0)) (Times (xs ++ Asks (Some (event.Cancelled t)) ∷ [])) more
            (subst (λ (j : Hosted). Follows j.core j.unanswered (λ i. Times xs i + one_if (nat_eq i t.0))) (sym is) (told_follows h.core one callers h.unanswered (Times xs) f q t at));
      }

  good_act : (xs : List Act) (h k : Hosted) (x : Act) → Good xs h → Acts h x k → Good (xs ++ x ∷ []) k
  good_act xs h k (Commands c (Ok g)) good (e, obeys, is) =
      quiet xs h k (Commands c (Ok g)) good (e, obeys, is) (λ j. refl) (commanded xs h k (Commands c (Ok g)) good (e, obeys, is) c g e obeys (ap (λ (j : Hosted). j.unanswered) is))
  good_act xs h k (Commands c (Err r)) good (why, is) =
      beside xs h k (Commands c (Err r)) good (why, is) (ap (λ (j : Hosted). j.core) is) (ap (λ (j : Hosted). j.unanswered) is) (λ j. refl)
  good_act xs h k (Takes ms) good (left, taken, is) =
      beside xs h k (Takes ms) good (left, taken, is) (ap (λ (j : Hosted). j.core) is) (ap (λ (j : Hosted). j.unanswered) is) (λ j. refl)
  good_act xs h k (Receives m) good (mid, (kept, (reason, noted_is), mid_is), (e, receives, is)) =
      quiet xs h k (Receives m) good (mid, (kept, (reason, noted_is), mid_is), (e, receives, is)) (λ j. refl)
      (heard_so xs h k (Receives m) good (mid, (kept, (reason, noted_is), mid_is), (e, receives, is)) m e kept.1 (subst (λ (j : Hosted). CoreReceives j.core m e k.core) mid_is receives) noted_is
      (ap (λ (j : Hosted). j.unanswered) is ∙ ap (λ (j : Hosted). followed e k.core j.unanswered) mid_is))
  good_act xs h k (Asks (Some e)) good (inl is) =
      beside xs h k (Asks (Some e)) good (inl is) (sym (ap (λ (j : Hosted). j.core) is)) (sym (ap (λ (j : Hosted). j.unanswered) is))
      (not_cancelled e (subst (λ (l : List Event). Each IsOfStep l) (ap (λ (j : Hosted). j.events) is) good.steps).0)
  good_act xs h k (Asks (Some (event.Cancelled t))) good (inr (inl (none, up, (q, at, is)))) = tells_one xs h k t q good (inr (inl (none, up, (q, at, is)))) up at is
  good_act xs h k (Asks (Some (event.Released o))) good (inr (inl (none, up, released, is))) =
      beside xs h k (Asks (Some (event.Released o))) good (inr (inl (none, up, released, is))) (ap (λ (j : Hosted). j.core) is) (ap (λ (j : Hosted). j.unanswered) is) (λ j. refl)
  good_act xs h k (Asks (Some (event.Served y))) good (inr (inl tells)) = absurd tells
  good_act xs h k (Asks (Some (event.Ended y))) good (inr (inl tells)) = absurd tells
  good_act xs h k (Asks (Some (event.Resolved p))) good (inr (inl tells)) = absurd tells
  good_act xs h k (Asks (Some (event.Lifted r))) good (inr (inl tells)) = absurd tells
  good_act xs h k (Asks (Some (event.Down n reason))) good (inr (inl tells)) = absurd tells
  good_act xs h k (Asks (Some (event.Down n reason))) good (inr (inr (none, still, down, why, is))) =
      beside xs h k (Asks (Some (event.Down n reason))) good (inr (inr (none, still, down, why, is))) (ap (λ (j : Hosted). j.core) is) (ap (λ (j : Hosted). j.unanswered) is) (λ j. refl)
  good_act xs h k (Asks (Some (event.Served y))) good (inr (inr tells)) = absurd tells
  good_act xs h k (Asks (Some (event.Ended y))) good (inr (inr tells)) = absurd tells
  good_act xs h k (Asks (Some (event.Resolved p))) good (inr (inr tells)) = absurd tells
  good_act xs h k (Asks (Some (event.Lifted r))) good (inr (inr tells)) = absurd tells
  good_act xs h k (Asks (Some (event.Cancelled t))) good (inr (inr tells)) = absurd tells
  good_act xs h k (Asks (Some (event.Released o))) good (inr (inr tells)) = absurd tells
  good_act xs h k (Asks None) good (none, why, is) =
      beside xs h k (Asks None) good (none, why, is) (ap (λ (j : Hosted). j.core) is) (ap (λ (j : Hosted). j.unanswered) is) (λ j. refl)

  good_all : (before xs : List Act) (h k : Hosted) → Good before h → ActsAll h xs k → Good (before ++ xs) k
  good_all before [] h k good same = subst (λ (l : List Act). Good l k) (sym (append-nil before)) (subst (λ (j : Hosted). Good before j) (sym same) good)
  good_all before (x ∷ xs) h k good (mid, first, more) =
      subst (λ (l : List Act). Good l k) (append_assoc before (x ∷ []) xs) (good_all (before ++ x ∷ []) xs mid k (good_act before h mid x good first) more)

  -- ---- A new host

  no_outcome : (o q : ℕ) → IsOpenFor q (map.get {X = KeptOutcome} {R = nat_cmp} map.empty o) → ⊥
  no_outcome o q is = subst (IsOpenFor q) (map.get-empty nat_cmp o) is

  good_new : (vat : Vat) (level : Level) (root : Option ObjectId) → Good [] (idle (start vat level root))
  good_new vat level root = record {
    so = so_new vat level root;
    once = λ k. omega arith;
    steps = tt;
    follows = λ up. record {
      there = λ o q is. absurd (no_outcome o q is);
      tasks = λ k o q e is. absurd (no_outcome o q is);
      over = λ o q is fin. absurd (no_outcome o q is);
      told = λ k o q l e is. absurd (no_outcome o q is);
      below = λ k l. absurd (omega arith);
      mine = λ q t is. absurd (let none = map.get-empty {X = Option TaskId} nat_cmp q in let bad : None ≡ Some (Some t) = sym none ∙ is in cc);
    };
  }

  tells_cancelled : (xs : List Act) (h : Hosted) → Good xs h → TellsCancelled xs h
  tells_cancelled xs h good = record {
    once = good.once;
    rightly = right;
    each = λ up t is. untold h.core one callers h.unanswered (Times xs) (good.follows up) good.once t is;
    none_missed = λ calm up t is. by calm up t (untold h.core one callers h.unanswered (Times xs) (good.follows up) good.once t is);
  }
    where
      one : HasOneSource h.core
      one = sources h.core (is_reached xs h good.so)

      callers : CallersAreServed h.core
      callers = (nodes h.core (is_reached xs h good.so)).callers

      right : (t : TaskId) (new : Hosted) → Tells h (Some (event.Cancelled t)) new → IsCancelled h.core t
      right t new (inl is) = absurd (subst (λ (l : List Event). Each IsOfStep l) (ap (λ (j : Hosted). j.events) is) good.steps).0
      right t new (inr (inl (none, up, (q, at, is)))) = rightly_told h.core one callers h.unanswered (Times xs) (good.follows up) q t at
      right t new (inr (inr tells)) = absurd tells

      by : IsIdle h → h.core.down ≡ None → (t : TaskId) → (Times xs t.0 ≡ 1) ⊎ ((q : ℕ) × IsCancelledAt h.core h.unanswered q t) → times_cancelled t.0 xs ≡ 1
      by calm up t (inl told) = told
      by calm up t (inr (q, at)) = absurd (calm.cancelled (up, (q, (t, at))))

pub cancelled_are_told : StepsKeepTasks → EachHasOneSource → NodesAreThere → CancelledAreTold
cancelled_are_told keep sources nodes vat level root xs h acts = tells_cancelled keep sources nodes xs h (good_all keep sources nodes [] xs (idle (start vat level root)) h (good_new keep sources nodes vat level root) acts)
