-- What a host keeps of calls follows its vat: each call of the peer that a task serves is noted with it, and each that is over is noted
-- as over until it is told. A step keeps that.
use Rattle.std.proofs.Common.{◌≡◌, ◌⊎◌, inl, inr, ℕ, ◌≤◌, ◌<◌, Bool, true, false, nat_lt, Option, None, Some, IsSome, refl, sym, ap, subst, ◌∙◌, arith}
use Rattle.std.specs.FinMap as map
use Rattle.rpc_msg.specs.declared.ids.TaskId.{TaskId}
use Rattle.rpc_msg.specs.declared.message.Message.{Message}
use Rattle.rpc_machine.specs.declared.calls.KeptOutcome.{KeptOutcome}
use Rattle.rpc_machine.specs.declared.command.Effects.{Effects}
use Rattle.rpc_machine.specs.State.{State}
use Rattle.core_queries.specs.Tasks.{task_caller}
use Rattle.laws_steps.specs.Callers.{CallersAreServed, IsOpenFor, peer}
use Rattle.laws_nodes.specs.Sources.{HasOneSource}
use Rattle.laws_tasks.specs.TaskSteps.{WasDelivered, IsCallOf, IsFinished, IsFinishOf, IsOpen, IsOwed, IsReturned, KeepsTasks}
use Rattle.vat_host.specs.Unanswered.{Unanswered, followed, served}
use Rattle.vat_hosts.proofs.OpenTasks.{called_by, caller_of, one_open, one_task, open_for, owed_for, task_open}
use Rattle.vat_hosts.proofs.Unanswered.{answered_left, answered_less, noted, noted_call, noted_finish, noted_keeps, noted_none, noted_over, noted_task, over_at, served_by, served_new, served_over, served_stays, served_there, task_at}

-- Of the state of a vat that is up, what its host keeps, and how often each task was told as cancelled.
pub record Follows (s : State) (u : Unanswered) (n : ℕ → ℕ) : Type 0 where
  -- the question of an open outcome for the peer is noted, with its task if it has one
  pub there : (o q : ℕ) → IsOpenFor q (map.get s.outcomes o) → IsSome (task_at u q)
  pub tasks : (k o q : ℕ) → map.get s.tasks k ≡ Some o → IsOpenFor q (map.get s.outcomes o) → task_at u q ≡ Some (Some (record { 0 = k }))
  -- and it is over if its Finish came, unless its task was told
  pub over : (o q : ℕ) → IsOpenFor q (map.get s.outcomes o) → IsFinished (map.get s.answers q) → IsSome (over_at u q) ⊎ ((k : ℕ) × (map.get s.tasks k ≡ Some o) × (1 ≤ n k))
  -- a task that was told is over no more
  pub told : (k o q : ℕ) → 1 ≤ n k → map.get s.tasks k ≡ Some o → IsOpenFor q (map.get s.outcomes o) → (over_at u q ≡ None) × IsFinished (map.get s.answers q)
  pub below : (k : ℕ) → 1 ≤ n k → k < s.next_task
  -- a task that is noted is of that question
  pub mine : (q : ℕ) (t : TaskId) → task_at u q ≡ Some (Some t) → (t.0 < s.next_task) × ((o : ℕ) → map.get s.tasks t.0 ≡ Some o → IsOpenFor q (map.get s.outcomes o))

module _ (s t : State) (came : Option Message) (x : Effects) (keeps : KeepsTasks s came x t) (one : HasOneSource s) (new_one : HasOneSource t) (new_callers : CallersAreServed t) (u : Unanswered) (n : ℕ → ℕ) (f : Follows s u n) where
  abbrev w : Unanswered
  w = noted came u

  abbrev v : Unanswered
  v = followed x t w

  -- No Return goes for an open outcome.
  none_goes : (o q : ℕ) → IsOpenFor q (map.get t.outcomes o) → IsReturned q x.sends → ⊥
  none_goes o q is goes = keeps.returned q goes (owed_for t new_callers o q is)

  left : (o q : ℕ) → IsOpenFor q (map.get t.outcomes o) → (task_at v q ≡ task_at (served t x.deliveries w) q) × (over_at v q ≡ over_at (served t x.deliveries w) q)
  left o q is = answered_left x.sends (served t x.deliveries w) q (none_goes o q is)

  over_left : (o q : ℕ) → IsOpenFor q (map.get t.outcomes o) → over_at v q ≡ over_at w q
  over_left o q is = (left o q is).1 ∙ ap (λ m. map.get m q) (served_over t x.deliveries w)

  -- An outcome of a task of before was for the peer before.
  was_open : (o q : ℕ) → IsOpenFor q (map.get t.outcomes o) → IsOpen (map.get s.outcomes o) → IsOpenFor q (map.get s.outcomes o)
  was_open o q is before = by (keeps.opens o q is)
    where
      by : IsOpenFor q (map.get s.outcomes o) ⊎ (IsCallOf q came × (map.get s.outcomes o ≡ None)) → IsOpenFor q (map.get s.outcomes o)
      by (inl z) = z
      by (inr z) = absurd (subst IsOpen z.1 before)

  some_noted : (q : ℕ) → IsSome (task_at u q) → IsSome (task_at w q)
  some_noted q is = by (task_at u q) refl is
    where
      by : (o : Option (Option TaskId)) → task_at u q ≡ o → IsSome o → IsSome (task_at w q)
      by None e none = absurd (let bad : false ≡ true = none in cc)
      by (Some y) e some = subst (λ (o : Option (Option TaskId)). IsSome o) (sym (noted_keeps came u q y e)) refl

  there_noted : (o q : ℕ) → IsOpenFor q (map.get t.outcomes o) → IsSome (task_at w q)
  there_noted o q is = by (keeps.opens o q is)
    where
      by : IsOpenFor q (map.get s.outcomes o) ⊎ (IsCallOf q came × (map.get s.outcomes o ≡ None)) → IsSome (task_at w q)
      by (inl z) = some_noted q (f.there o q z)
      by (inr z) = noted_call came u q z.0

  new_there : (o q : ℕ) → IsOpenFor q (map.get t.outcomes o) → IsSome (task_at v q)
  new_there o q is = subst (λ (y : Option (Option TaskId)). IsSome y) (sym (left o q is).0) (served_there t x.deliveries w q (there_noted o q is))

  -- The task of a question is the one.
  alone : (k o q : ℕ) → map.get t.tasks k ≡ Some o → IsOpenFor q (map.get t.outcomes o) → (y : TaskId) → task_caller t y ≡ Some (peer q) → y ≡ record { 0 = k }
  alone k o q e is y called =
      let z = called_by t new_one y q called in
      let same : map.get t.tasks y.0 ≡ Some o = z.1 ∙ ap (λ (p : ℕ). Some p) (one_open t new_callers z.0 o q z.2 is) in
      ap (λ (j : ℕ). record { 0 = j }) (one_task t new_one k y.0 o e same)

  new_tasks : (k o q : ℕ) → map.get t.tasks k ≡ Some o → IsOpenFor q (map.get t.outcomes o) → task_at v q ≡ Some (Some (record { 0 = k }))
  new_tasks k o q e is = (left o q is).0 ∙ by (keeps.delivered k o e)
    where
      by : (map.get s.tasks k ≡ Some o) ⊎ ((s.next_task ≤ k) × WasDelivered k x.deliveries) → task_at (served t x.deliveries w) q ≡ Some (Some (record { 0 = k }))
      by (inl before) =
          served_stays t q (record { 0 = k }) (alone k o q e is) x.deliveries w
          (noted_keeps came u q (Some (record { 0 = k })) (f.tasks k o q before (was_open o q is (task_open s one k o before))))
      by (inr fresh) = served_new t q (record { 0 = k }) (alone k o q e is) x.deliveries w (caller_of t k o q e is) (there_noted o q is) fresh.1

  new_over : (o q : ℕ) → IsOpenFor q (map.get t.outcomes o) → IsFinished (map.get t.answers q) → IsSome (over_at v q) ⊎ ((k : ℕ) × (map.get t.tasks k ≡ Some o) × (1 ≤ n k))
  new_over o q is finished = by (keeps.opens o q is) (keeps.finishes q finished)
    where
      kept : IsSome (over_at w q) → IsSome (over_at v q)
      kept z = subst (λ (y : Option (Unit {0})). IsSome y) (sym (over_left o q is)) z

      still : IsSome (over_at u q) ⊎ ((k : ℕ) × (map.get s.tasks k ≡ Some o) × (1 ≤ n k)) → IsSome (over_at v q) ⊎ ((k : ℕ) × (map.get t.tasks k ≡ Some o) × (1 ≤ n k))
      still (inl z) = inl (kept (noted_over came u q z))
      still (inr (k, e, l)) = inr (k, keeps.stays k o e (open_for (map.get t.outcomes o) q is), l)

      by : IsOpenFor q (map.get s.outcomes o) ⊎ (IsCallOf q came × (map.get s.outcomes o ≡ None)) → IsFinished (map.get s.answers q) ⊎ IsFinishOf q came → IsSome (over_at v q) ⊎ ((k : ℕ) × (map.get t.tasks k ≡ Some o) × (1 ≤ n k))
      by (inl before) (inl was) = still (f.over o q before was)
      by (inl before) (inr comes) = inl (kept (noted_finish came u q comes (f.there o q before)))
      by (inr (asks, none)) (inl was) = absurd (subst IsFinished (keeps.asks q asks) was)
      by (inr (asks, none)) (inr comes) = let z = keeps.over q comes in absurd (let bad : Some z.0 ≡ None = sym z.1 ∙ keeps.asks q asks in cc)

  new_told : (k o q : ℕ) → 1 ≤ n k → map.get t.tasks k ≡ Some o → IsOpenFor q (map.get t.outcomes o) → (over_at v q ≡ None) × IsFinished (map.get t.answers q)
  new_told k o q l e is = by (keeps.delivered k o e)
    where
      ends : (map.get t.answers q ≡ None) ⊎ IsFinished (map.get t.answers q) → IsFinished (map.get t.answers q)
      ends (inl none) = absurd (subst IsOwed none (owed_for t new_callers o q is))
      ends (inr z) = z

      by : (map.get s.tasks k ≡ Some o) ⊎ ((s.next_task ≤ k) × WasDelivered k x.deliveries) → (over_at v q ≡ None) × IsFinished (map.get t.answers q)
      by (inl before) =
          let z = f.told k o q l before (was_open o q is (task_open s one k o before)) in (
            over_left o q is ∙ (noted_none came u q (λ comes. (keeps.over q comes).2 z.1) ∙ z.0),
            ends (keeps.finished q z.1),
          )
      by (inr fresh) = absurd (let a = f.below k l in let b = fresh.0 in omega arith)

  new_below : (k : ℕ) → 1 ≤ n k → k < t.next_task
  new_below k l = let a = f.below k l in let b = keeps.rises in omega arith

  -- A task is below the next.
  task_below : (k o : ℕ) → map.get t.tasks k ≡ Some o → k < t.next_task
  task_below k o e = by (nat_lt k t.next_task) refl
    where
      by : (b : Bool) → nat_lt k t.next_task ≡ b → k < t.next_task
      by true g = grind (arith)
      by false g = absurd (let none = new_one.tasks k (grind (arith)) in let bad : Some o ≡ None = sym e ∙ none in cc)

  -- An outcome that is still open is for the same.
  still_for : (o q : ℕ) → IsOpenFor q (map.get s.outcomes o) → IsOpen (map.get t.outcomes o) → IsOpenFor q (map.get t.outcomes o)
  still_for o q is known = by (map.get s.outcomes o) (map.get t.outcomes o) refl refl is known
    where
      by : (y z : Option KeptOutcome) → map.get s.outcomes o ≡ y → map.get t.outcomes o ≡ z → IsOpenFor q y → IsOpen z → IsOpenFor q z
      by None z e g none known = absurd none
      by (Some y) None e g is none = none
      by (Some y) (Some z) e g is known = (known, keeps.callers o y z e g ∙ is.1)

  new_mine : (q : ℕ) (y : TaskId) → task_at v q ≡ Some (Some y) → (y.0 < t.next_task) × ((o : ℕ) → map.get t.tasks y.0 ≡ Some o → IsOpenFor q (map.get t.outcomes o))
  new_mine q y is = by (served_by t x.deliveries w q y ((answered_less x.sends (served t x.deliveries w)).0 q (Some y) is))
    where
      by : (task_at w q ≡ Some (Some y)) ⊎ (task_caller t y ≡ Some (peer q)) → (y.0 < t.next_task) × ((o : ℕ) → map.get t.tasks y.0 ≡ Some o → IsOpenFor q (map.get t.outcomes o))
      by (inl z) = let b = f.mine q y (noted_task came u q y z) in (let a = b.0 in let c = keeps.rises in omega arith, λ o e. before o e b.0 b.1 (keeps.delivered y.0 o e))
        where
          before : (o : ℕ) → map.get t.tasks y.0 ≡ Some o → y.0 < s.next_task → ((p : ℕ) → map.get s.tasks y.0 ≡ Some p → IsOpenFor q (map.get s.outcomes p)) → (map.get s.tasks y.0 ≡ Some o) ⊎ ((s.next_task ≤ y.0) × WasDelivered y.0 x.deliveries) → IsOpenFor q (map.get t.outcomes o)
          before o e l g (inl was) = still_for o q (g o was) (task_open t new_one y.0 o e)
          before o e l g (inr fresh) = absurd (let a = fresh.0 in omega arith)
      by (inr called) =
          let z = called_by t new_one y q called in
          (task_below y.0 z.0 z.1, λ o e. subst (λ (p : ℕ). IsOpenFor q (map.get t.outcomes p)) (let g : Some z.0 ≡ Some o = sym z.1 ∙ e in let h : z.0 ≡ o = cc in h) z.2)

  pub follows_on : Follows t v n
  follows_on = record { there = new_there; tasks = new_tasks; over = new_over; told = new_told; below = new_below; mine = new_mine }
