-- Numbers only rise, and what is new in a step has a number that was still to come: each act keeps that.
use Rattle.std.proofs.Common.{◌≡◌, ◌⊎◌, inl, inr, ℕ, ◌+◌, ◌≤◌, ◌<◌, Bool, true, false, cond, nat_eq, List, [], ◌∷◌, Option, None, Some, refl, sym, ap, ◌∙◌, arith}
use Rattle.std.specs.Ordering.{nat_cmp}
use Rattle.std.specs.FinMap as map
use Rattle.laws_acts.specs.rpc_msg.specs.declared.message.Message.{Message}
use Rattle.finite_maps.specs.Tally.{Map}
use Rattle.laws_acts.specs.rpc_machine.specs.declared.node.Node.{Node}
use Rattle.laws_acts.specs.rpc_machine.specs.declared.command.Command.{Command}
use Rattle.laws_acts.specs.rpc_machine.specs.declared.command.Granted.{Granted}
use Rattle.laws_acts.specs.rpc_machine.specs.declared.command.Effects.{Effects}
use Rattle.laws_acts.specs.rpc_machine.specs.State.{State, start}
use Rattle.laws_acts.specs.rpc_machine.specs.Lists.{update, updated}
use Rattle.laws_acts.specs.rpc_machine.specs.Progress.{with_refs, caps_of, quiet}
use Rattle.laws_acts.specs.rpc_machine.specs.Messages.{unembargoed}
use Rattle.laws_acts.specs.rpc_machine.specs.Down.{fallen}
use Rattle.laws_acts.specs.rpc_machine.specs.Faults.{fault_of}
use Rattle.laws_acts.specs.rpc_machine.specs.Laws.{OfEachStep}
use Rattle.laws_acts.specs.rpc_machine.specs.Steps.{Does, Handles}
use Rattle.laws_acts.specs.Moments.{Moment, beginning}
use Rattle.laws_acts.specs.FirstActs.{Starts}
use Rattle.laws_acts.specs.FirstActs as first
use Rattle.laws_acts.specs.MessageActs.{Consumes}
use Rattle.laws_acts.specs.MessageActs as message
use Rattle.laws_acts.specs.SmallActs.{Act}
use Rattle.laws_acts.specs.SmallActs as act
use Rattle.laws_acts.proofs.EachStep.{IsLaw, of_each_step, done, handled}
use Rattle.laws_steps.specs.Numbers.{AllBelow, NoneToCome, NoneAgain, StaysGone, NumbersRise}
use Rattle.finite_maps.proofs.Tested.{equal, get_put, at_put, at_cut}

-- Of one map and its next number, before and after.
abbrev Used : {X : Type 0} → Map X → ℕ → Map X → ℕ → Type 0
Used m next n after = (next ≤ after) × ((k : ℕ) → map.get m k ≡ None → (map.get n k ≡ None) ⊎ ((next ≤ k) × (k < after)))

stays : {X : Type 0} (m : Map X) (next : ℕ) → Used m next m next
stays m next = (omega arith, λ k h. inl h)

next_one : {X : Type 0} (m : Map X) (next : ℕ) (x : X) → Used m next (map.insert m next x) (next + 1)
next_one m next x = (omega arith, λ k h. by k h (nat_eq k next) refl)
  where
    by : (k : ℕ) → map.get m k ≡ None → (b : Bool) → nat_eq k next ≡ b → (map.get (map.insert m next x) k ≡ None) ⊎ ((next ≤ k) × (k < next + 1))
    by k h true e = let f = equal k next e in inr (omega arith, omega arith)
    by k h false e = inl (get_put m next x k ∙ ap (λ b. cond b (Some x) (map.get m k)) e ∙ h)

then_one : {X : Type 0} (m n o : Map X) (a b c : ℕ) → Used m a n b → Used n b o c → Used m a o c
then_one m n o a b c h k = (let f = h.0 in let g = k.0 in omega arith, λ q e. first q (h.1 q e))
  where
    second : (q : ℕ) → (map.get o q ≡ None) ⊎ ((b ≤ q) × (q < c)) → (map.get o q ≡ None) ⊎ ((a ≤ q) × (q < c))
    second q (inl e) = inl e
    second q (inr e) = let f = h.0 in let g = e.0 in let i = e.1 in inr (omega arith, omega arith)

    first : (q : ℕ) → (map.get n q ≡ None) ⊎ ((a ≤ q) × (q < b)) → (map.get o q ≡ None) ⊎ ((a ≤ q) × (q < c))
    first q (inl e) = second q (k.1 q e)
    first q (inr e) = let f = k.0 in let g = e.0 in let i = e.1 in inr (omega arith, omega arith)

module _ {X : Type 0} (m n : Map X) (a b : ℕ) (h : Used m a n b) where
  -- One more, with the next number.
  one_more : (x : X) → Used m a (map.insert n b x) (b + 1)
  one_more x = then_one m n (map.insert n b x) a b (b + 1) h (next_one n b x)

  one_fewer : (k : ℕ) → Used m a (map.remove n k) b
  one_fewer k = then_one m n (map.remove n k) a b b h (omega arith, λ q e. inl (at_cut (λ j o. map.get n j ≡ None → o ≡ None) n k (λ f. refl) (λ j f g. g) q e))

  replaced : (k : ℕ) (x y : X) → map.get n k ≡ Some x → Used m a (map.insert n k y) b
  replaced k x y e = then_one m n (map.insert n k y) a b b h (omega arith, λ q f. inl (at_put (λ j o. map.get n j ≡ None → o ≡ None) n k y (λ g. (let i : ◌≡◌ {A = Option X} (Some x) None = sym e ∙ g in cc)) (λ j g i. i) q f))

  changed : (k : ℕ) (f : X → X) → Used m a (update n k f) b
  changed k f = by (map.get n k) refl
    where
      by : (o : Option X) → map.get n k ≡ o → Used m a (updated n k f o) b
      by None e = h
      by (Some x) e = replaced k x (f x) e

more_refs : (s t : State) (ns : List Node) → Used s.refs s.next_ref t.refs t.next_ref → Used s.refs s.next_ref (with_refs t ns).refs (with_refs t ns).next_ref
more_refs s t [] h = h
more_refs s t (n ∷ ns) h =
    more_refs s (record t { refs = map.insert t.refs t.next_ref (record { head = n; embargo = None; made = 0 }); next_ref = t.next_ref + 1 }) ns
    (one_more s.refs t.refs s.next_ref t.next_ref h (record { head = n; embargo = None; made = 0 }))

-- ---- Of a state

abbrev Numbered : State → State → Type 0
Numbered s t =
    Used s.refs s.next_ref t.refs t.next_ref
    × Used s.calls s.next_call t.calls t.next_call
    × Used s.tasks s.next_task t.tasks t.next_task
    × Used s.unsettled s.next_promise t.unsettled t.next_promise

all_stay : (s : State) → Numbered s s
all_stay s = (stays s.refs s.next_ref, stays s.calls s.next_call, stays s.tasks s.next_task, stays s.unsettled s.next_promise)

-- ---- The acts

abbrev Fine : State → Moment → Type 0
Fine s d = Numbered s d.state × (d.state.down ≡ s.down)

started : (s : State) (c : Command) (g : Granted) (new : Moment) → Starts (beginning s) c g new → Numbered s s → Fine s new
started s c g new (first.Hosts o e a h) i = rw h ((one_more _ _ _ _ i.0 _, i.1, i.2, i.3), refl)
started s c g new (first.Clones r x e f a h) i = rw h ((one_more _ _ _ _ i.0 _, i.1, i.2, i.3), refl)
started s c g new (first.Drops r x e f a h) i = rw h ((one_fewer _ _ _ _ i.0 r.0, i.1, i.2, i.3), refl)
started s c g new (first.AsksRoot q e f a h) i = rw h ((i.0, one_more _ _ _ _ i.1 _, i.2, i.3), refl)
started s c g new (first.CallsOut k x q t ds es e f j w l m a h) i = rw h ((replaced _ _ _ _ i.0 k.reference.0 x _ f, one_more _ _ _ _ i.1 _, i.2, i.3), refl)
started s c g new (first.CallsHere k x u e f j w l a h) i = rw h ((replaced _ _ _ _ i.0 k.reference.0 x _ f, one_more _ _ _ _ i.1 _, i.2, i.3), refl)
started s c g new (first.CallsLater k x u z b e f j l m a h) i = rw h ((replaced _ _ _ _ i.0 k.reference.0 x _ f, one_more _ _ _ _ i.1 _, i.2, i.3), refl)
started s c g new (first.NamesField k path from e f a h) i = rw h ((one_more _ _ _ _ i.0 _, i.1, i.2, i.3), refl)
started s c g new (first.Promises p e f a h) i = rw h ((one_more _ _ _ _ i.0 _, i.1, i.2, one_more _ _ _ _ i.3 p), refl)
started s c g new (first.Fixes p r x key calls e f j k a h) i = rw h ((i.0, i.1, i.2, one_fewer _ _ _ _ i.3 p.0), refl)
started s c g new (first.Rejects p why key calls e f j a h) i = rw h ((i.0, i.1, i.2, one_fewer _ _ _ _ i.3 p.0), refl)
started s c g new (first.Answers t payload refs u e f a h) i = rw h ((i.0, i.1, one_fewer _ _ _ _ i.2 t.0, i.3), refl)
started s c g new (first.Fails t why u e f a h) i = rw h ((i.0, i.1, one_fewer _ _ _ _ i.2 t.0, i.3), refl)
started s c g new (first.Finishes k from e f a h) i = rw h ((i.0, one_fewer _ _ _ _ i.1 k.0, i.2, i.3), refl)
started s c g new (first.StaysPut r x e f a h) i = rw h (i, refl)
started s c g new (first.Breaks r x reason e f j k a h) i = rw h ((replaced _ _ _ _ i.0 r.0 x _ f, i.1, i.2, i.3), refl)
started s c g new (first.Switches r x by n e f j k l m a h) i = rw h ((replaced _ _ _ _ i.0 r.0 x _ f, i.1, i.2, i.3), refl)
started s c g new (first.Turns r x by n t k e f j l m w u v a h) i = rw h ((replaced _ _ _ _ i.0 r.0 x _ f, i.1, i.2, i.3), refl)

consumed : (s : State) (m : Message) (new : Moment) → Consumes (beginning s) m new → Numbered s s → Fine s new
consumed s m new (message.OpensRoot q u e f j h) i = rw h (i, refl)
consumed s m new (message.OpensCall c u e f j h) i = rw h (i, refl)
consumed s m new (message.Loses b x e f j k h) i = rw h (i, refl)
consumed s m new (message.ComesToCall b x c e f j k l h) i = rw h (i, refl)
consumed s m new (message.ComesToRelay b x u e f j k l h) i = rw h (i, refl)
consumed s m new (message.IsFinished x y e f j h) i = rw h (i, refl)
consumed s m new (message.IsResolved r e h) i = rw h (i, refl)
consumed s m new (message.IsReleased r e h) i = rw h (i, refl)
consumed s m new (message.SendsBack t to x e f h) i = rw h (i, refl)
consumed s m new (message.Lifts t x b e f h) i = rw h ((changed _ _ _ _ i.0 b.reference.0 unembargoed, i.1, i.2, i.3), refl)
consumed s m new (message.SendsForeign p e f h) i = rw h (i, refl)
consumed s m new (message.SendsOther n e h) i = rw h (i, refl)
consumed s m new (message.TakesBack r e h) i = rw h (i, refl)
consumed s m new (message.Ignores r e h) i = rw h (i, refl)

acted : (s : State) (d new : Moment) → Fine s d → Act d new → Fine s new
acted s d new i (act.Delivers c n rest u e f h) = let a = i.0 in rw h ((more_refs s d.state c.request.caps a.0, a.1, one_more _ _ _ _ a.2 c.outcome, a.3), i.1)
acted s d new i (act.Waits c n rest p calls e f j h) = rw h i
acted s d new i (act.Holds c n rest u path x e f j h) = rw h i
acted s d new i (act.Relays c n rest q t ds es e f j k h) = rw h i
acted s d new i (act.Breaks c n rest reason e f h) = rw h i
acted s d new i (act.NextArisen u v rest e f h) = rw h i
acted s d new i (act.Knows u v fit x ps e f j k h) = rw h i
acted s d new i (act.Reports c v from e f h) = let a = i.0 in rw h ((more_refs s d.state (caps_of v) a.0, a.1, a.2, a.3), i.1)
acted s d new i (act.TellsNobody c v e f h) = rw h i
acted s d new i (act.MakesReturn q v x b ds es e f j k h) = rw h i
acted s d new i (act.SendsReturn x y e f j h) = rw h i
acted s d new i (act.Clears x e f h) = rw h i
acted s d new i (act.Lists x e h) = rw h i
acted s d new i (act.SendsResolve x rest k es e w f h) = rw h i
acted s d new i (act.SendsBroken x rest reason e f h) = rw h i
acted s d new i (act.PromiseGoes p to w e f h) = rw h i
acted s d new i (act.OutcomeGoes u x v w e f j k l h) = rw h i
acted s d new i (act.ImportGoes k x w e f h) = rw h i
acted s d new i (act.Sweeps over e f j h) = rw h i
acted s d new i (act.SendsFinish q x rest e f j k l h) = rw h i
acted s d new i (act.Closes q x rest e f j k l h) = rw h i
acted s d new i (act.Releases w e f h) = rw h i

-- ---- The laws

below : {X : Type 0} (m n : Map X) (next after : ℕ) → Used m next n after → AllBelow m next → AllBelow n after
below m n next after h f k l = by (h.1 k (f k (let g = h.0 in omega arith)))
  where
    by : (map.get n k ≡ None) ⊎ ((next ≤ k) × (k < after)) → map.get n k ≡ None
    by (inl e) = e
    by (inr e) = let g = e.1 in absurd (omega arith)

again : {X : Type 0} (m n : Map X) (next after : ℕ) → Used m next n after → NoneAgain m next n
again m n next after h k l e = by (h.1 k e)
  where
    by : (map.get n k ≡ None) ⊎ ((next ≤ k) × (k < after)) → map.get n k ≡ None
    by (inl f) = f
    by (inr f) = let g = f.0 in absurd (omega arith)

-- What holds of a step.
abbrev Law : State → Effects → State → Type 0
Law s x t = NumbersRise s x t × (NoneToCome s → NoneToCome t) × StaysGone s t

of_numbered : (s : State) (x : Effects) (t : State) → Numbered s t → Law s x t
of_numbered s x t h = (
  λ e. ((h.0).0, (h.1).0, (h.2).0, (h.3).0),
  λ f. record { refs = below s.refs t.refs _ _ h.0 f.refs; calls = below s.calls t.calls _ _ h.1 f.calls; tasks = below s.tasks t.tasks _ _ h.2 f.tasks; promises = below s.unsettled t.unsettled _ _ h.3 f.promises },
  record { refs = again s.refs t.refs _ _ h.0; calls = again s.calls t.calls _ _ h.1; tasks = again s.tasks t.tasks _ _ h.2; promises = again s.unsettled t.unsettled _ _ h.3 },
)

none : {X : Type 0} (k : ℕ) → (let m : Map X = map.empty in map.get m k ≡ None)
none k = map.get-empty nat_cmp k

pub at_start : (v : _) (l : _) (b : _) → NoneToCome (start v l b)
at_start v l b = record { refs = λ k h. none k; calls = λ k h. none k; tasks = λ k h. none k; promises = λ k h. none k }

fallen_so : (s : State) (n : ℕ) (x : Effects) → Law s x (fallen s n)
fallen_so s n x = (
  λ e. absurd (let f : ◌≡◌ {A = Option ℕ} (Some n) None = e in cc),
  λ f. record { refs = λ k h. none k; calls = λ k h. none k; tasks = λ k h. none k; promises = λ k h. none k },
  record { refs = λ k l h. none k; calls = λ k l h. none k; tasks = λ k l h. none k; promises = λ k l h. none k },
)

law : IsLaw Fine Law
law = record {
  starts = λ s c g new f h. started s c g new h (all_stay s);
  consumes = λ s m new f h. consumed s m new h (all_stay s);
  act = λ s d new i h. acted s d new i h;
  ends = λ s last x t i h. rw h.state (of_numbered s x last.state i.0);
  stays = λ s. of_numbered s quiet s (all_stay s);
  falls = fallen_so;
}

pub numbered : OfEachStep Law
numbered = of_each_step law

-- What is done, and what is taken, leaves the vat up if it was.
pub command_leaves_up : (s : State) (c : Command) (g : Granted) (x : Effects) (t : State) → Does s c g x t → t.down ≡ s.down
command_leaves_up s c g x t h =
    let k = done (Fine s) s c g x t (λ new i. started s c g new i (all_stay s)) (λ d new i j. acted s d new i j) h in
    ap (λ (u : State). u.down) k.ends.state ∙ (k.holds).1

pub message_leaves_up : (s : State) (m : Message) (x : Effects) (t : State) → fault_of s m ≡ None → Handles s m x t → t.down ≡ s.down
message_leaves_up s m x t free h =
    let k = handled (Fine s) s m x t free (λ new i. consumed s m new i (all_stay s)) (λ d new i j. acted s d new i j) h in
    ap (λ (u : State). u.down) k.ends.state ∙ (k.holds).1
