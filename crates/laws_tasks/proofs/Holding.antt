-- Tasks, and the outcomes that the peer waits for: what each act keeps of those before the step, and what is new.
use Rattle.std.proofs.Common.{◌≡◌, ◌⊎◌, inl, inr, ℕ, ◌+◌, ◌<◌, ◌≤◌, Bool, true, false, nat_eq, Option, None, Some, IsSome, List, [], ◌∷◌, ◌++◌, refl, sym, ap, subst, ◌∙◌, arith}
use Rattle.std.specs.FinMap as map
use Rattle.finite_maps.specs.Tally.{Map}
use Rattle.finite_maps.proofs.Tested.{at_put, at_cut, equal, itself, get_other, get_left}
use Rattle.rpc_msg.specs.declared.message.Message.{Message}
use Rattle.rpc_machine.specs.rpc_journal.specs.declared.report.Delivery.{Delivery}
use Rattle.rpc_machine.specs.declared.calls.Caller.{Caller}
use Rattle.rpc_machine.specs.declared.calls.Caller.TheVariants as caller
use Rattle.rpc_machine.specs.declared.calls.KeptOutcome.{KeptOutcome}
use Rattle.rpc_machine.specs.declared.calls.Value.{Value}
use Rattle.rpc_machine.specs.declared.calls.Value.TheVariants as value
use Rattle.rpc_machine.specs.Commands.{heads}
use Rattle.rpc_machine.specs.Messages.{bootstrap_value}
use Rattle.rpc_machine.specs.Routing.{failed, reason_text}
use Rattle.rpc_machine.specs.declared.command.Command.{Command}
use Rattle.rpc_machine.specs.declared.command.Granted.{Granted}
use Rattle.rpc_machine.specs.State.{State}
use Rattle.laws_acts.specs.Moments.{Clearing, Moment, beginning}
use Rattle.laws_acts.specs.FirstActs.{Starts}
use Rattle.laws_acts.specs.FirstActs as first
use Rattle.laws_acts.specs.MessageActs.{Consumes}
use Rattle.laws_acts.specs.MessageActs as message
use Rattle.laws_acts.specs.SmallActs.{Act, delivery, kept_known}
use Rattle.laws_acts.specs.SmallActs as act
use Rattle.laws_steps.specs.Callers.{IsOpenFor, peer}
use Rattle.laws_tasks.specs.TaskSteps.{WasDelivered, IsCallOf}

-- ---- Words

-- It is the key of one of them.
abbrev pub IsKeyOf : ℕ → List (ℕ × Value) → Type 0
IsKeyOf o [] = ⊥
IsKeyOf o (x ∷ xs) = (x.0 ≡ o) ⊎ IsKeyOf o xs

-- It is known, or gone.
abbrev pub IsShut : Option KeptOutcome → Type 0
IsShut None = Unit {0}
IsShut (Some x) = IsSome x.value

-- The task is there; or its outcome becomes known in this step, or did.
abbrev pub IsInHand : ℕ → ℕ → Moment → Type 0
IsInHand k o d = (map.get d.state.tasks k ≡ Some o) ⊎ (IsKeyOf o d.coming ⊎ (IsKeyOf o d.arisen ⊎ IsShut (map.get d.state.outcomes o)))

module _ (s : State) (came : Option Message) where
  abbrev Stays : Moment → Type 0
  Stays d = (k o : ℕ) → map.get s.tasks k ≡ Some o → k < s.next_task → (k < d.state.next_task) × IsInHand k o d

  abbrev AreNew : Moment → Type 0
  AreNew d = (k o : ℕ) → map.get d.state.tasks k ≡ Some o → (map.get s.tasks k ≡ Some o) ⊎ ((s.next_task ≤ k) × WasDelivered k d.effects.deliveries)

  -- What was open for the peer before, or is by what came.
  abbrev pub WasOpen : ℕ → ℕ → Type 0
  WasOpen o q = IsOpenFor q (map.get s.outcomes o) ⊎ (IsCallOf q came × (map.get s.outcomes o ≡ None))

  abbrev Opens : Moment → Type 0
  Opens d = (o q : ℕ) → IsOpenFor q (map.get d.state.outcomes o) → WasOpen o q ⊎ IsKeyOf o d.coming

  abbrev Rises : Moment → Type 0
  Rises d = s.next_task ≤ d.state.next_task

  -- The outcome had that caller, if it was there.
  abbrev pub Had : Option KeptOutcome → Caller → Type 0
  Had None who = Unit {0}
  Had (Some x) who = who ≡ x.caller

  abbrev pub HasStill : ℕ → Option KeptOutcome → Type 0
  HasStill o None = Unit {0}
  HasStill o (Some y) = Had (map.get s.outcomes o) y.caller

  abbrev ClearingHas : Option Clearing → Type 0
  ClearingHas None = Unit {0}
  ClearingHas (Some x) = Had (map.get s.outcomes x.outcome) x.caller

  abbrev HaveStill : Map KeptOutcome → Type 0
  HaveStill m = (o : ℕ) → HasStill o (map.get m o)

  abbrev pub Held : Moment → Type 0
  Held d = Stays d × AreNew d × Opens d × Rises d × HaveStill d.state.outcomes × ClearingHas d.clearing

  -- ---- Lists

  delivered-append : (k : ℕ) (xs ys : List Delivery) → WasDelivered k xs ⊎ WasDelivered k ys → WasDelivered k (xs ++ ys)
  delivered-append k [] ys (inl none) = absurd none
  delivered-append k [] ys (inr is) = is
  delivered-append k (x ∷ xs) ys (inl (inl is)) = inl is
  delivered-append k (x ∷ xs) ys (inl (inr is)) = inr (delivered-append k xs ys (inl is))
  delivered-append k (x ∷ xs) ys (inr is) = inr (delivered-append k xs ys (inr is))

  key-append : (o : ℕ) (xs ys : List (ℕ × Value)) → IsKeyOf o xs → IsKeyOf o (xs ++ ys)
  key-append o [] ys none = absurd none
  key-append o (x ∷ xs) ys (inl is) = inl is
  key-append o (x ∷ xs) ys (inr is) = inr (key-append o xs ys is)

  pub no_key : (o : ℕ) (xs : List (ℕ × Value)) → xs ≡ [] → IsKeyOf o xs → ⊥
  no_key o xs e is = subst (IsKeyOf o) e is

  -- ---- Tables

  open_same : (m : Map KeptOutcome) (u : ℕ) (x y : KeptOutcome) (q : ℕ) → map.get m u ≡ Some x → y.value ≡ x.value → y.caller ≡ x.caller → IsOpenFor q (Some y) → IsOpenFor q (map.get m u)
  open_same m u x y q f v w is = subst (IsOpenFor q) (sym f) (sym v ∙ is.0, sym w ∙ is.1)

  -- An outcome changes, and is open afterwards only if it was.
  opens_put : (C : List (ℕ × Value)) (m : Map KeptOutcome) (u : ℕ) (x : KeptOutcome) → ((q : ℕ) → IsOpenFor q (Some x) → WasOpen u q ⊎ IsKeyOf u C) → ((o q : ℕ) → nat_eq o u ≡ false → IsOpenFor q (map.get m o) → WasOpen o q ⊎ IsKeyOf o C) → (o q : ℕ) → IsOpenFor q (map.get (map.insert m u x) o) → WasOpen o q ⊎ IsKeyOf o C
  opens_put C m u x here there o = at_put (λ j y. (q : ℕ) → IsOpenFor q y → WasOpen j q ⊎ IsKeyOf j C) m u x here (λ j n q is. there j q n is) o

  opens_cut : (C : List (ℕ × Value)) (m : Map KeptOutcome) (u : ℕ) → ((o q : ℕ) → IsOpenFor q (map.get m o) → WasOpen o q ⊎ IsKeyOf o C) → (o q : ℕ) → IsOpenFor q (map.get (map.remove m u) o) → WasOpen o q ⊎ IsKeyOf o C
  opens_cut C m u there o = at_cut (λ j y. (q : ℕ) → IsOpenFor q y → WasOpen j q ⊎ IsKeyOf j C) m u (λ q none. absurd none) (λ j n q is. there j q is) o

  -- What is shut stays so.
  shut_put : (m : Map KeptOutcome) (u : ℕ) (x : KeptOutcome) → (IsShut (map.get m u) → IsShut (Some x)) → (o : ℕ) → IsShut (map.get m o) → IsShut (map.get (map.insert m u x) o)
  shut_put m u x here o = at_put (λ j y. IsShut (map.get m j) → IsShut y) m u x here (λ j n is. is) o

  shut_cut : (m : Map KeptOutcome) (u o : ℕ) → IsShut (map.get m o) → IsShut (map.get (map.remove m u) o)
  shut_cut m u o = at_cut (λ j y. IsShut (map.get m j) → IsShut y) m u (λ is. tt) (λ j n is. is) o

  shut_here : (m : Map KeptOutcome) (u : ℕ) (x : KeptOutcome) → IsSome x.value → (o : ℕ) → u ≡ o → IsShut (map.get (map.insert m u x) o)
  shut_here m u x known o e = at_put (λ j y. u ≡ j → IsShut y) m u x (λ f. known) (λ j n f. absurd (let g : nat_eq j u ≡ true = subst (λ (i : ℕ). nat_eq i u ≡ true) f (itself u) in let h : true ≡ false = sym g ∙ n in cc)) o e

  have_put : (m : Map KeptOutcome) (u : ℕ) (x : KeptOutcome) → Had (map.get s.outcomes u) x.caller → HaveStill m → HaveStill (map.insert m u x)
  have_put m u x here all o = at_put HasStill m u x here (λ j n. all j) o

  have_cut : (m : Map KeptOutcome) (u : ℕ) → HaveStill m → HaveStill (map.remove m u)
  have_cut m u all o = at_cut HasStill m u tt (λ j n. all j) o

  pub had : (m : Map KeptOutcome) (u : ℕ) (x : KeptOutcome) → map.get m u ≡ Some x → HaveStill m → Had (map.get s.outcomes u) x.caller
  had m u x f all = subst (HasStill u) f (all u)

  had_none : (u : ℕ) (who : Caller) → map.get s.outcomes u ≡ None → Had (map.get s.outcomes u) who
  had_none u who f = subst (λ (o : Option KeptOutcome). Had o who) (sym f) tt

  -- ---- Each act

  pub acted : (d new : Moment) → Held d → Act d new → Held new
  acted d new i (act.Delivers c n rest u e f h) = rw h (stays, fresh, i.2, (let l = i.3 in omega arith), i.4, i.5)
    where
      stays : (k o : ℕ) → map.get s.tasks k ≡ Some o → k < s.next_task → (k < d.state.next_task + 1) × ((map.get (map.insert d.state.tasks d.state.next_task c.outcome) k ≡ Some o) ⊎ (IsKeyOf o d.coming ⊎ (IsKeyOf o d.arisen ⊎ IsShut (map.get d.state.outcomes o))))
      stays k o a b = let w = i.0 k o a b in (let l = w.0 in omega arith, by w.1)
        where
          by : IsInHand k o d → (map.get (map.insert d.state.tasks d.state.next_task c.outcome) k ≡ Some o) ⊎ (IsKeyOf o d.coming ⊎ (IsKeyOf o d.arisen ⊎ IsShut (map.get d.state.outcomes o)))
          by (inl there) = let w = i.0 k o a b in inl (get_other d.state.tasks d.state.next_task c.outcome k (let l = w.0 in grind (arith)) ∙ there)
          by (inr more) = inr more

      fresh : (k o : ℕ) → map.get (map.insert d.state.tasks d.state.next_task c.outcome) k ≡ Some o → (map.get s.tasks k ≡ Some o) ⊎ ((s.next_task ≤ k) × WasDelivered k (d.effects.deliveries ++ delivery d.state c u ∷ []))
      fresh k o = at_put (λ j y. y ≡ Some o → (map.get s.tasks j ≡ Some o) ⊎ ((s.next_task ≤ j) × WasDelivered j (d.effects.deliveries ++ delivery d.state c u ∷ []))) d.state.tasks d.state.next_task c.outcome
          (λ is. inr (i.3, delivered-append d.state.next_task d.effects.deliveries (delivery d.state c u ∷ []) (inr (inl refl))))
          (λ j n is. by j (i.1 j o is)) k
        where
          by : (j : ℕ) → (map.get s.tasks j ≡ Some o) ⊎ ((s.next_task ≤ j) × WasDelivered j d.effects.deliveries) → (map.get s.tasks j ≡ Some o) ⊎ ((s.next_task ≤ j) × WasDelivered j (d.effects.deliveries ++ delivery d.state c u ∷ []))
          by j (inl is) = inl is
          by j (inr is) = inr (is.0, delivered-append j d.effects.deliveries (delivery d.state c u ∷ []) (inl is.1))
  acted d new i (act.Holds c n rest u path x e f j h) =
      rw h
      (λ k o a b. let w = i.0 k o a b in (w.0, shut (λ z. shut_put d.state.outcomes u _ (λ is. subst IsShut j is) o z) k o w.1), i.1, opens_put d.coming d.state.outcomes u _ (λ q is. i.2 u q (open_same d.state.outcomes u x (record x { waiting = x.waiting ++ record { path = path; call = c } ∷ [] }) q j refl refl is)) (λ o q z is. i.2 o q is), i.3, have_put d.state.outcomes u _ (had d.state.outcomes u x j i.4) i.4, i.5)
    where
      shut : {A : Type 0} {B : Type 0} → (A → B) → (k o : ℕ) → (map.get d.state.tasks k ≡ Some o) ⊎ (IsKeyOf o d.coming ⊎ (IsKeyOf o d.arisen ⊎ A)) → (map.get d.state.tasks k ≡ Some o) ⊎ (IsKeyOf o d.coming ⊎ (IsKeyOf o d.arisen ⊎ B))
      shut g k o (inl is) = inl is
      shut g k o (inr (inl is)) = inr (inl is)
      shut g k o (inr (inr (inl is))) = inr (inr (inl is))
      shut g k o (inr (inr (inr is))) = inr (inr (inr (g is)))
  acted d new i (act.Breaks c n rest reason e f h) = rw h (λ k o a b. let w = i.0 k o a b in (w.0, by ((c.outcome, value.Exception (failed (reason_text reason))) ∷ []) k o w.1), i.1, i.2, i.3, i.4, i.5)
    where
      by : (more : List (ℕ × Value)) (k o : ℕ) → IsInHand k o d → (map.get d.state.tasks k ≡ Some o) ⊎ (IsKeyOf o d.coming ⊎ (IsKeyOf o (d.arisen ++ more) ⊎ IsShut (map.get d.state.outcomes o)))
      by more k o (inl is) = inl is
      by more k o (inr (inl is)) = inr (inl is)
      by more k o (inr (inr (inl is))) = inr (inr (inl (key-append o d.arisen more is)))
      by more k o (inr (inr (inr is))) = inr (inr (inr is))
  acted d new i (act.NextArisen u v rest e f h) = rw h (λ k o a b. let w = i.0 k o a b in (w.0, by k o w.1), i.1, λ o q is. opened o q (i.2 o q is), i.3, i.4, i.5)
    where
      none : d.coming ≡ []
      none = ap (λ (m : Moment). m.coming) e

      by : (k o : ℕ) → IsInHand k o d → (map.get d.state.tasks k ≡ Some o) ⊎ (IsKeyOf o ((u, v) ∷ []) ⊎ (IsKeyOf o rest ⊎ IsShut (map.get d.state.outcomes o)))
      by k o (inl is) = inl is
      by k o (inr (inl is)) = absurd (no_key o d.coming none is)
      by k o (inr (inr (inl is))) = next (subst (IsKeyOf o) f is)
        where
          next : IsKeyOf o ((u, v) ∷ rest) → (map.get d.state.tasks k ≡ Some o) ⊎ (IsKeyOf o ((u, v) ∷ []) ⊎ (IsKeyOf o rest ⊎ IsShut (map.get d.state.outcomes o)))
          next (inl z) = inr (inl (inl z))
          next (inr z) = inr (inr (inl z))
      by k o (inr (inr (inr is))) = inr (inr (inr is))

      opened : (o q : ℕ) → WasOpen o q ⊎ IsKeyOf o d.coming → WasOpen o q ⊎ IsKeyOf o ((u, v) ∷ [])
      opened o q (inl is) = inl is
      opened o q (inr is) = absurd (no_key o d.coming none is)
  acted d new i (act.Knows u v fit x ps e f j z h) = rw h (λ k o a b. let w = i.0 k o a b in (w.0, by k o w.1), i.1, opens_put [] d.state.outcomes u _ (λ q is. absurd (let bad : Some fit ≡ None = is.0 in cc)) (λ o q n is. opened o q n (i.2 o q is)), i.3, have_put d.state.outcomes u _ (had d.state.outcomes u x f i.4) i.4, had d.state.outcomes u x f i.4)
    where
      one : d.coming ≡ (u, v) ∷ []
      one = ap (λ (m : Moment). m.coming) e

      by : (k o : ℕ) → IsInHand k o d → (map.get d.state.tasks k ≡ Some o) ⊎ (⊥ ⊎ (IsKeyOf o d.arisen ⊎ IsShut (map.get (map.insert d.state.outcomes u (kept_known x.caller fit x.waiting)) o)))
      by k o (inl is) = inl is
      by k o (inr (inl is)) = next (subst (IsKeyOf o) one is)
        where
          next : IsKeyOf o ((u, v) ∷ []) → (map.get d.state.tasks k ≡ Some o) ⊎ (⊥ ⊎ (IsKeyOf o d.arisen ⊎ IsShut (map.get (map.insert d.state.outcomes u (kept_known x.caller fit x.waiting)) o)))
          next (inl y) = inr (inr (inr (shut_here d.state.outcomes u _ refl o y)))
          next (inr y) = absurd y
      by k o (inr (inr (inl is))) = inr (inr (inl is))
      by k o (inr (inr (inr is))) = inr (inr (inr (shut_put d.state.outcomes u _ (λ y. refl) o is)))

      opened : (o q : ℕ) → nat_eq o u ≡ false → WasOpen o q ⊎ IsKeyOf o d.coming → WasOpen o q ⊎ ⊥
      opened o q n (inl is) = inl is
      opened o q n (inr is) = next (subst (IsKeyOf o) one is)
        where
          next : IsKeyOf o ((u, v) ∷ []) → WasOpen o q ⊎ ⊥
          next (inl y) = absurd (let g : nat_eq o u ≡ true = subst (λ (k : ℕ). nat_eq k u ≡ true) y (itself u) in let bad : true ≡ false = sym g ∙ n in cc)
          next (inr y) = absurd y
  acted d new i (act.Clears x e f h) = rw h (λ k o a b. let w = i.0 k o a b in (w.0, by k o w.1), i.1, opens_put d.coming d.state.outcomes x.outcome _ (λ q is. absurd (let bad : Some x.value ≡ None = is.0 in cc)) (λ o q n is. i.2 o q is), i.3, have_put d.state.outcomes x.outcome _ (subst (λ (m : Moment). ClearingHas m.clearing) e i.5) i.4, tt)
    where
      by : (k o : ℕ) → IsInHand k o d → (map.get d.state.tasks k ≡ Some o) ⊎ (IsKeyOf o d.coming ⊎ (IsKeyOf o d.arisen ⊎ IsShut (map.get (map.insert d.state.outcomes x.outcome (kept_known x.caller x.value [])) o)))
      by k o (inl is) = inl is
      by k o (inr (inl is)) = inr (inl is)
      by k o (inr (inr (inl is))) = inr (inr (inl is))
      by k o (inr (inr (inr is))) = inr (inr (inr (shut_put d.state.outcomes x.outcome _ (λ y. refl) o is)))
  acted d new i (act.OutcomeGoes u x v e f j z l w h) = rw h (λ k o a b. let y = i.0 k o a b in (y.0, by k o y.1), i.1, opens_cut d.coming d.state.outcomes u i.2, i.3, have_cut d.state.outcomes u i.4, i.5)
    where
      by : (k o : ℕ) → IsInHand k o d → (map.get d.state.tasks k ≡ Some o) ⊎ (IsKeyOf o d.coming ⊎ (IsKeyOf o d.arisen ⊎ IsShut (map.get (map.remove d.state.outcomes u) o)))
      by k o (inl is) = inl is
      by k o (inr (inl is)) = inr (inl is)
      by k o (inr (inr (inl is))) = inr (inr (inl is))
      by k o (inr (inr (inr is))) = inr (inr (inr (shut_cut d.state.outcomes u o is)))
  acted d new i (act.Waits c n rest p calls e f j h) = rw h i
  acted d new i (act.Relays c n rest q t ds es e f j z h) = rw h i
  acted d new i (act.Reports c v from e f h) = rw h i
  acted d new i (act.TellsNobody c v e f h) = rw h i
  acted d new i (act.MakesReturn q v x b ds es e f j z h) = rw h i
  acted d new i (act.SendsReturn x y e f j h) = rw h i
  acted d new i (act.Lists x e h) = rw h i
  acted d new i (act.SendsResolve x rest z es e w f h) = rw h i
  acted d new i (act.SendsBroken x rest reason e f h) = rw h i
  acted d new i (act.PromiseGoes p to w e f h) = rw h i
  acted d new i (act.ImportGoes z x w e f h) = rw h i
  acted d new i (act.Sweeps over e f j h) = rw h i
  acted d new i (act.SendsFinish q x rest e f j z l h) = rw h i
  acted d new i (act.Closes q x rest e f j z l h) = rw h i
  acted d new i (act.Releases w e f h) = rw h i

  -- ---- The first act

  still : Held (beginning s)
  still = (λ k o a b. (b, inl a), λ k o a. inl a, λ o q is. inl (inl is), refl_least, have_all, tt)
    where
      refl_least : s.next_task ≤ s.next_task
      refl_least = omega arith

      have_all : HaveStill s.outcomes
      have_all o = by (map.get s.outcomes o) refl
        where
          by : (x : Option KeptOutcome) → map.get s.outcomes o ≡ x → HasStill o x
          by None e = tt
          by (Some x) e = subst (λ (y : Option KeptOutcome). Had y x.caller) (sym e) refl

  -- A task is answered.
  answers : (t o : ℕ) (v : Value) → map.get s.tasks t ≡ Some o → Held (record (beginning s) { state = record s { tasks = map.remove s.tasks t }; coming = (o, v) ∷ [] })
  answers t o v f = (λ k u a b. (b, by k u a (nat_eq k t) refl), fewer, λ u q is. inl (inl is), still.3, still.4, tt)
    where
      by : (k u : ℕ) → map.get s.tasks k ≡ Some u → (b : Bool) → nat_eq k t ≡ b → (map.get (map.remove s.tasks t) k ≡ Some u) ⊎ (IsKeyOf u ((o, v) ∷ []) ⊎ (⊥ ⊎ IsShut (map.get s.outcomes u)))
      by k u a true n = inr (inl (inl (let same : Some o ≡ Some u = sym f ∙ (ap (map.get s.tasks) (sym (equal k t n)) ∙ a) in cc)))
      by k u a false n = inl (get_left s.tasks t k n ∙ a)

      fewer : (k u : ℕ) → map.get (map.remove s.tasks t) k ≡ Some u → (map.get s.tasks k ≡ Some u) ⊎ ((s.next_task ≤ k) × ⊥)
      fewer k u = at_cut (λ j y. y ≡ Some u → (map.get s.tasks j ≡ Some u) ⊎ ((s.next_task ≤ j) × ⊥)) s.tasks t (λ is. absurd (let bad : None ≡ Some u = is in cc)) (λ j n is. inl is) k

  -- An outcome opens that is none of the peer's.
  opens_own : (u c : ℕ) → (o q : ℕ) → IsOpenFor q (map.get (map.insert s.outcomes u (record { caller = caller.Application (record { 0 = c }); value = None; waiting = [] })) o) → WasOpen o q ⊎ ⊥
  opens_own u c = opens_put [] s.outcomes u _ (λ q is. absurd (let bad : caller.Application (record { 0 = c }) ≡ peer q = is.1 in cc)) (λ o q n is. inl (inl is))

  pub started : (c : Command) (g : Granted) (new : Moment) → Starts (beginning s) c g new → Held new
  started c g new (first.CallsHere y x o e f j l m a u) = rw u (λ k w a b. (b, inl a), still.1, opens_own o s.next_call, still.3, have_put s.outcomes o _ (had_none o _ m) still.4, tt)
  started c g new (first.CallsLater y x o z b e f j l m a u) = rw u (λ k w a b. (b, inl a), still.1, opens_own o s.next_call, still.3, have_put s.outcomes o _ (had_none o _ m) still.4, tt)
  started c g new (first.Answers t payload refs o e f a u) = rw u (answers t.0 o (value.Results payload (heads s refs)) f)
  started c g new (first.Fails t why o e f a u) = rw u (answers t.0 o (value.Exception why) f)
  started c g new (first.AsksRoot q e f a u) = rw u still
  started c g new (first.CallsOut y x q t ds es e f j l m n a u) = rw u still
  started c g new (first.Hosts o e a u) = rw u still
  started c g new (first.Clones y x e f a u) = rw u still
  started c g new (first.NamesField y path from e f a u) = rw u still
  started c g new (first.Promises p e f a u) = rw u still
  started c g new (first.Drops y x e f a u) = rw u still
  started c g new (first.Fixes p y x key calls e f j l a u) = rw u still
  started c g new (first.Rejects p why key calls e f j a u) = rw u still
  started c g new (first.Finishes y from e f a u) = rw u still
  started c g new (first.StaysPut y x e f a u) = rw u still
  started c g new (first.Breaks y x reason e f j l a u) = rw u still
  started c g new (first.Switches y x by n e f j l m o a u) = rw u still
  started c g new (first.Turns y x by n t z e f j l m o w q a u) = rw u still

-- A message comes.
module _ (s : State) (m : Message) where
  calm : Held s (Some m) (beginning s)
  calm = still s (Some m)

  pub consumed : (new : Moment) → Consumes (beginning s) m new → Held s (Some m) new
  consumed new (message.OpensRoot p o e f j u) =
      rw u (λ k w a b. (b, inl a), calm.1, opens_put s (Some m) ((o, bootstrap_value s.bootstrap) ∷ []) s.outcomes o _ (λ q is. inr (inl refl)) (λ w q n is. inl (inl is)), calm.3, have_put s (Some m) s.outcomes o _ (had_none s (Some m) o _ j) calm.4, tt)
  consumed new (message.OpensCall c o e f j u) =
      rw u (λ k w a b. (b, inl a), calm.1, opens_put s (Some m) [] s.outcomes o _ (λ q is. inl (inr ((c, ap Some e, let same : peer c.question.0 ≡ peer q = is.1 in cc), j))) (λ w q n is. inl (inl is)), calm.3, have_put s (Some m) s.outcomes o _ (had_none s (Some m) o _ j) calm.4, tt)
  consumed new (message.ComesToRelay b x o e f j k l u) = rw u (λ k o a b. (b, inl a), calm.1, calm.2, calm.3, calm.4, tt)
  consumed new (message.Loses b x e f j k u) = rw u calm
  consumed new (message.ComesToCall b x c e f j k l u) = rw u calm
  consumed new (message.IsFinished x z e f j u) = rw u calm
  consumed new (message.IsResolved r e u) = rw u calm
  consumed new (message.IsReleased r e u) = rw u calm
  consumed new (message.SendsBack t to x e f u) = rw u calm
  consumed new (message.Lifts t x b e f u) = rw u calm
  consumed new (message.SendsForeign p e f u) = rw u calm
  consumed new (message.SendsOther n e u) = rw u calm
  consumed new (message.TakesBack r e u) = rw u calm
  consumed new (message.Ignores r e u) = rw u calm
