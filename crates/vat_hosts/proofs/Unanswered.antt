-- What a host keeps of calls of the peer that are not answered: what a message that comes, and what a step, changes of it.
use Rattle.std.proofs.Common.{◌≡◌, ◌⊎◌, inl, inr, ℕ, Bool, true, false, nat_eq, Option, None, Some, IsSome, List, [], ◌∷◌, refl, sym, ap, subst, ◌∙◌}
use Rattle.std.specs.FinMap as map
use Rattle.finite_maps.proofs.Tested.{at_put, at_cut, itself, equal, get_left, get_other}
use Rattle.rpc_msg.specs.declared.ids.TaskId.{TaskId}
use Rattle.rpc_msg.specs.declared.message.Message.{Message}
use Rattle.rpc_msg.specs.declared.message.Message.TheVariants as message
use Rattle.rpc_msg.specs.declared.message.PlainMessage.{PlainMessage}
use Rattle.rpc_msg.specs.declared.message.PlainMessage.TheVariants as plain
use Rattle.rpc_journal.specs.declared.report.Delivery.{Delivery}
use Rattle.rpc_machine.specs.declared.calls.Caller.{Caller}
use Rattle.rpc_machine.specs.declared.calls.Caller.TheVariants as caller
use Rattle.rpc_machine.specs.State.{State}
use Rattle.core_queries.specs.Tasks.{task_caller}
use Rattle.laws_steps.specs.Callers.{peer}
use Rattle.laws_tasks.specs.TaskSteps.{WasDelivered, IsReturned, IsCallOf, IsFinishOf}
use Rattle.vat_host.specs.Unanswered.{Unanswered, answered, asked, finished, heard, heard_plainly, returned, served, served_for, with_task}

-- ---- Words

abbrev pub task_at : Unanswered → ℕ → Option (Option TaskId)
task_at u q = map.get u.tasks q

abbrev pub over_at : Unanswered → ℕ → Option (Unit {0})
over_at u q = map.get u.over q

same_key : (q k : ℕ) → k ≡ q → nat_eq q k ≡ false → ⊥
same_key q k e n = let f : nat_eq q k ≡ true = subst (λ (j : ℕ). nat_eq q j ≡ true) (sym e) (itself q) in let bad : true ≡ false = sym f ∙ n in cc

other_key : (q k : ℕ) → (k ≡ q → ⊥) → nat_eq q k ≡ false
other_key q k not = by (nat_eq q k) refl
  where
    by : (b : Bool) → nat_eq q k ≡ b → nat_eq q k ≡ false
    by true e = absurd (not (sym (equal q k e)))
    by false e = e

-- ---- A message comes

-- What came of calls is noted.
abbrev pub noted : Option Message → Unanswered → Unanswered
noted None u = u
noted (Some m) u = heard m u

-- What is there of a question stays.
asked_keeps : (o : Option (Option TaskId)) (k : ℕ) (u : Unanswered) (q : ℕ) (x : Option TaskId) → task_at u k ≡ o → task_at u q ≡ Some x → task_at (asked o k u) q ≡ Some x
asked_keeps (Some t) k u q x e is = is
asked_keeps None k u q x e is = get_other u.tasks k None q (other_key q k (λ s. let bad : None ≡ Some x = sym e ∙ (ap (map.get u.tasks) s ∙ is) in cc)) ∙ is

finished_tasks : (o : Option (Option TaskId)) (k : ℕ) (u : Unanswered) (q : ℕ) → task_at (finished o k u) q ≡ task_at u q
finished_tasks None k u q = refl
finished_tasks (Some t) k u q = refl

plainly_keeps : (m : PlainMessage) (u : Unanswered) (q : ℕ) (x : Option TaskId) → task_at u q ≡ Some x → task_at (heard_plainly m u) q ≡ Some x
plainly_keeps (plain.Call c) u q x is = asked_keeps (task_at u c.question.0) c.question.0 u q x refl is
plainly_keeps (plain.Finish f) u q x is = finished_tasks (task_at u f.question.0) f.question.0 u q ∙ is
plainly_keeps (plain.Bootstrap k) u q x is = is
plainly_keeps (plain.Return r) u q x is = is
plainly_keeps (plain.Resolve r) u q x is = is
plainly_keeps (plain.Release r) u q x is = is
plainly_keeps (plain.Disembargo d) u q x is = is
plainly_keeps (plain.Abort a) u q x is = is
plainly_keeps (plain.Other n) u q x is = is

pub noted_keeps : (came : Option Message) (u : Unanswered) (q : ℕ) (x : Option TaskId) → task_at u q ≡ Some x → task_at (noted came u) q ≡ Some x
noted_keeps None u q x is = is
noted_keeps (Some (message.Plain m)) u q x is = plainly_keeps m u q x is
noted_keeps (Some (message.Unimplemented m)) u q x is = is

-- No task is noted.
asked_task : (o : Option (Option TaskId)) (k : ℕ) (u : Unanswered) (q : ℕ) (t : TaskId) → task_at (asked o k u) q ≡ Some (Some t) → task_at u q ≡ Some (Some t)
asked_task (Some x) k u q t is = is
asked_task None k u q t is = at_put (λ j y. y ≡ Some (Some t) → task_at u j ≡ Some (Some t)) u.tasks k None (λ is. absurd (let bad : Some None ≡ Some (Some t) = is in cc)) (λ j n is. is) q is

plainly_task : (m : PlainMessage) (u : Unanswered) (q : ℕ) (t : TaskId) → task_at (heard_plainly m u) q ≡ Some (Some t) → task_at u q ≡ Some (Some t)
plainly_task (plain.Call c) u q t is = asked_task (task_at u c.question.0) c.question.0 u q t is
plainly_task (plain.Finish f) u q t is = sym (finished_tasks (task_at u f.question.0) f.question.0 u q) ∙ is
plainly_task (plain.Bootstrap k) u q t is = is
plainly_task (plain.Return r) u q t is = is
plainly_task (plain.Resolve r) u q t is = is
plainly_task (plain.Release r) u q t is = is
plainly_task (plain.Disembargo d) u q t is = is
plainly_task (plain.Abort a) u q t is = is
plainly_task (plain.Other n) u q t is = is

pub noted_task : (came : Option Message) (u : Unanswered) (q : ℕ) (t : TaskId) → task_at (noted came u) q ≡ Some (Some t) → task_at u q ≡ Some (Some t)
noted_task None u q t is = is
noted_task (Some (message.Plain m)) u q t is = plainly_task m u q t is
noted_task (Some (message.Unimplemented m)) u q t is = is

-- The question of a Call is noted.
asked_there : (o : Option (Option TaskId)) (k : ℕ) (u : Unanswered) → task_at u k ≡ o → IsSome (task_at (asked o k u) k)
asked_there (Some t) k u e = subst (λ (o : Option (Option TaskId)). IsSome o) (sym e) refl
asked_there None k u e = at_put (λ j y. j ≡ k → IsSome y) u.tasks k None (λ i. refl) (λ j n i. absurd (same_key j k (sym i) n)) k refl

pub noted_call : (came : Option Message) (u : Unanswered) (q : ℕ) → IsCallOf q came → IsSome (task_at (noted came u) q)
noted_call came u q (c, is, same) =
    subst (λ (m : Option Message). IsSome (task_at (noted m u) q)) (sym is)
    (subst (λ (k : ℕ). IsSome (task_at (heard (message.Plain (plain.Call c)) u) k)) same (asked_there (task_at u c.question.0) c.question.0 u refl))

-- The question of a Finish is over, if its call is there.
finished_there : (o : Option (Option TaskId)) (k : ℕ) (u : Unanswered) → IsSome o → IsSome (over_at (finished o k u) k)
finished_there None k u none = absurd (let bad : false ≡ true = none in cc)
finished_there (Some t) k u some = at_put (λ j y. j ≡ k → IsSome y) u.over k tt (λ i. refl) (λ j n i. absurd (same_key j k (sym i) n)) k refl

pub noted_finish : (came : Option Message) (u : Unanswered) (q : ℕ) → IsFinishOf q came → IsSome (task_at u q) → IsSome (over_at (noted came u) q)
noted_finish came u q (f, is, same) there =
    subst (λ (m : Option Message). IsSome (over_at (noted m u) q)) (sym is)
    (subst (λ (k : ℕ). IsSome (over_at (heard (message.Plain (plain.Finish f)) u) k)) same
    (finished_there (task_at u f.question.0) f.question.0 u (subst (λ (k : ℕ). IsSome (task_at u k)) (sym same) there)))

-- What is over stays so, and no other is.
asked_over : (o : Option (Option TaskId)) (k : ℕ) (u : Unanswered) (q : ℕ) → over_at (asked o k u) q ≡ over_at u q
asked_over None k u q = refl
asked_over (Some t) k u q = refl

finished_still : (o : Option (Option TaskId)) (k : ℕ) (u : Unanswered) (q : ℕ) → IsSome (over_at u q) → IsSome (over_at (finished o k u) q)
finished_still None k u q is = is
finished_still (Some t) k u q is = at_put (λ j y. IsSome (over_at u j) → IsSome y) u.over k tt (λ i. refl) (λ j n i. i) q is

finished_other : (o : Option (Option TaskId)) (k : ℕ) (u : Unanswered) (q : ℕ) → (k ≡ q → ⊥) → over_at (finished o k u) q ≡ over_at u q
finished_other None k u q not = refl
finished_other (Some t) k u q not = get_other u.over k tt q (other_key q k not)

plainly_over : (m : PlainMessage) (u : Unanswered) (q : ℕ) → IsSome (over_at u q) → IsSome (over_at (heard_plainly m u) q)
plainly_over (plain.Call c) u q is = subst (λ (o : Option (Unit {0})). IsSome o) (sym (asked_over (task_at u c.question.0) c.question.0 u q)) is
plainly_over (plain.Finish f) u q is = finished_still (task_at u f.question.0) f.question.0 u q is
plainly_over (plain.Bootstrap k) u q is = is
plainly_over (plain.Return r) u q is = is
plainly_over (plain.Resolve r) u q is = is
plainly_over (plain.Release r) u q is = is
plainly_over (plain.Disembargo d) u q is = is
plainly_over (plain.Abort a) u q is = is
plainly_over (plain.Other n) u q is = is

pub noted_over : (came : Option Message) (u : Unanswered) (q : ℕ) → IsSome (over_at u q) → IsSome (over_at (noted came u) q)
noted_over None u q is = is
noted_over (Some (message.Plain m)) u q is = plainly_over m u q is
noted_over (Some (message.Unimplemented m)) u q is = is

plainly_none : (m : PlainMessage) (u : Unanswered) (q : ℕ) → (IsFinishOf q (Some (message.Plain m)) → ⊥) → over_at (heard_plainly m u) q ≡ over_at u q
plainly_none (plain.Call c) u q not = asked_over (task_at u c.question.0) c.question.0 u q
plainly_none (plain.Finish f) u q not = finished_other (task_at u f.question.0) f.question.0 u q (λ e. not (f, refl, e))
plainly_none (plain.Bootstrap k) u q not = refl
plainly_none (plain.Return r) u q not = refl
plainly_none (plain.Resolve r) u q not = refl
plainly_none (plain.Release r) u q not = refl
plainly_none (plain.Disembargo d) u q not = refl
plainly_none (plain.Abort a) u q not = refl
plainly_none (plain.Other n) u q not = refl

pub noted_none : (came : Option Message) (u : Unanswered) (q : ℕ) → (IsFinishOf q came → ⊥) → over_at (noted came u) q ≡ over_at u q
noted_none None u q not = refl
noted_none (Some (message.Plain m)) u q not = plainly_none m u q not
noted_none (Some (message.Unimplemented m)) u q not = refl

-- ---- Tasks that are delivered

with_over : (o : Option (Option TaskId)) (k : ℕ) (t : TaskId) (u : Unanswered) → (with_task o k t u).over ≡ u.over
with_over None k t u = refl
with_over (Some x) k t u = refl

for_over : (w : Option Caller) (t : TaskId) (u : Unanswered) → (served_for w t u).over ≡ u.over
for_over None t u = refl
for_over (Some (caller.Application c)) t u = refl
for_over (Some (caller.Peer k)) t u = with_over (task_at u k.0) k.0 t u

pub served_over : (s : State) (ds : List Delivery) (u : Unanswered) → (served s ds u).over ≡ u.over
served_over s [] u = refl
served_over s (d ∷ ds) u = served_over s ds (served_for (task_caller s d.task) d.task u) ∙ for_over (task_caller s d.task) d.task u

-- A question that is noted stays so.
with_there : (o : Option (Option TaskId)) (k : ℕ) (t : TaskId) (u : Unanswered) (q : ℕ) → IsSome (task_at u q) → IsSome (task_at (with_task o k t u) q)
with_there None k t u q is = is
with_there (Some x) k t u q is = at_put (λ j y. IsSome (task_at u j) → IsSome y) u.tasks k (Some t) (λ i. refl) (λ j n i. i) q is

for_there : (w : Option Caller) (t : TaskId) (u : Unanswered) (q : ℕ) → IsSome (task_at u q) → IsSome (task_at (served_for w t u) q)
for_there None t u q is = is
for_there (Some (caller.Application c)) t u q is = is
for_there (Some (caller.Peer k)) t u q is = with_there (task_at u k.0) k.0 t u q is

pub served_there : (s : State) (ds : List Delivery) (u : Unanswered) (q : ℕ) → IsSome (task_at u q) → IsSome (task_at (served s ds u) q)
served_there s [] u q is = is
served_there s (d ∷ ds) u q is = served_there s ds (served_for (task_caller s d.task) d.task u) q (for_there (task_caller s d.task) d.task u q is)

-- A task that is noted was, or is of that question.
with_by : (o : Option (Option TaskId)) (k : ℕ) (t : TaskId) (u : Unanswered) (q : ℕ) (x : TaskId) → task_at (with_task o k t u) q ≡ Some (Some x) → (task_at u q ≡ Some (Some x)) ⊎ ((k ≡ q) × (t ≡ x))
with_by None k t u q x is = inl is
with_by (Some y) k t u q x is = at_put (λ j z. z ≡ Some (Some x) → (task_at u j ≡ Some (Some x)) ⊎ ((k ≡ j) × (t ≡ x))) u.tasks k (Some t) (λ i. inr (refl, (let e : Some (Some t) ≡ Some (Some x) = i in let f : t ≡ x = cc in f))) (λ j n i. inl i) q is

for_by : (w : Option Caller) (t : TaskId) (u : Unanswered) (q : ℕ) (x : TaskId) → task_at (served_for w t u) q ≡ Some (Some x) → (task_at u q ≡ Some (Some x)) ⊎ ((w ≡ Some (peer q)) × (t ≡ x))
for_by None t u q x is = inl is
for_by (Some (caller.Application c)) t u q x is = inl is
for_by (Some (caller.Peer k)) t u q x is = by (with_by (task_at u k.0) k.0 t u q x is)
  where
    by : (task_at u q ≡ Some (Some x)) ⊎ ((k.0 ≡ q) × (t ≡ x)) → (task_at u q ≡ Some (Some x)) ⊎ ((Some (caller.Peer k) ≡ Some (peer q)) × (t ≡ x))
    by (inl z) = inl z
    by (inr z) = inr (ap (λ (j : ℕ). Some (peer j)) z.0, z.1)

pub served_by : (s : State) (ds : List Delivery) (u : Unanswered) (q : ℕ) (x : TaskId) → task_at (served s ds u) q ≡ Some (Some x) → (task_at u q ≡ Some (Some x)) ⊎ (task_caller s x ≡ Some (peer q))
served_by s [] u q x is = inl is
served_by s (d ∷ ds) u q x is = first (served_by s ds (served_for (task_caller s d.task) d.task u) q x is)
  where
    next : (task_at u q ≡ Some (Some x)) ⊎ ((task_caller s d.task ≡ Some (peer q)) × (d.task ≡ x)) → (task_at u q ≡ Some (Some x)) ⊎ (task_caller s x ≡ Some (peer q))
    next (inl z) = inl z
    next (inr z) = inr (subst (λ (y : TaskId). task_caller s y ≡ Some (peer q)) z.1 z.0)

    first : (task_at (served_for (task_caller s d.task) d.task u) q ≡ Some (Some x)) ⊎ (task_caller s x ≡ Some (peer q)) → (task_at u q ≡ Some (Some x)) ⊎ (task_caller s x ≡ Some (peer q))
    first (inl z) = next (for_by (task_caller s d.task) d.task u q x z)
    first (inr z) = inr z

-- The one task of a question stays noted, and is noted when it is delivered.
module _ (s : State) (q : ℕ) (x : TaskId) (alone : (t : TaskId) → task_caller s t ≡ Some (peer q) → t ≡ x) where
  with_stays : (o : Option (Option TaskId)) (k : ℕ) (t : TaskId) (u : Unanswered) → (k ≡ q → t ≡ x) → task_at u q ≡ Some (Some x) → task_at (with_task o k t u) q ≡ Some (Some x)
  with_stays None k t u same is = is
  with_stays (Some y) k t u same is = at_put (λ j z. j ≡ q → z ≡ Some (Some x)) u.tasks k (Some t) (λ i. ap (λ (y : TaskId). Some (Some y)) (same i)) (λ j n i. ap (map.get u.tasks) i ∙ is) q refl

  for_stays : (w : Option Caller) (t : TaskId) (u : Unanswered) → task_caller s t ≡ w → task_at u q ≡ Some (Some x) → task_at (served_for w t u) q ≡ Some (Some x)
  for_stays None t u e is = is
  for_stays (Some (caller.Application c)) t u e is = is
  for_stays (Some (caller.Peer k)) t u e is = with_stays (task_at u k.0) k.0 t u (λ i. alone t (e ∙ ap (λ (j : ℕ). Some (peer j)) i)) is

  pub served_stays : (ds : List Delivery) (u : Unanswered) → task_at u q ≡ Some (Some x) → task_at (served s ds u) q ≡ Some (Some x)
  served_stays [] u is = is
  served_stays (d ∷ ds) u is = served_stays ds (served_for (task_caller s d.task) d.task u) (for_stays (task_caller s d.task) d.task u refl is)

  with_new : (o : Option (Option TaskId)) (u : Unanswered) → task_at u q ≡ o → IsSome o → task_at (with_task o q x u) q ≡ Some (Some x)
  with_new None u e none = absurd (let bad : false ≡ true = none in cc)
  with_new (Some y) u e some = at_put (λ j z. j ≡ q → z ≡ Some (Some x)) u.tasks q (Some x) (λ i. refl) (λ j n i. absurd (same_key j q (sym i) n)) q refl

  pub served_new : (ds : List Delivery) (u : Unanswered) → task_caller s x ≡ Some (peer q) → IsSome (task_at u q) → WasDelivered x.0 ds → task_at (served s ds u) q ≡ Some (Some x)
  served_new [] u mine there none = absurd none
  served_new (d ∷ ds) u mine there (inl is) =
      served_stays ds (served_for (task_caller s d.task) d.task u)
      (subst (λ (t : TaskId). task_at (served_for (task_caller s t) t u) q ≡ Some (Some x)) (let e : x ≡ d.task = ap (λ (n : ℕ). record { 0 = n }) (sym is) in e)
      (subst (λ (w : Option Caller). task_at (served_for w x u) q ≡ Some (Some x)) (sym mine) (with_new (task_at u q) u refl there)))
  served_new (d ∷ ds) u mine there (inr is) = served_new ds (served_for (task_caller s d.task) d.task u) mine (for_there (task_caller s d.task) d.task u q there) is

-- ---- Returns that are sent

plainly_left : (m : PlainMessage) (u : Unanswered) (q : ℕ) → (IsReturned q (message.Plain m ∷ []) → ⊥) → (task_at (returned (message.Plain m) u) q ≡ task_at u q) × (over_at (returned (message.Plain m) u) q ≡ over_at u q)
plainly_left (plain.Return r) u q not = let other = other_key q r.answer.0 (λ e. not (inl e)) in (get_left u.tasks r.answer.0 q other, get_left u.over r.answer.0 q other)
plainly_left (plain.Call c) u q not = (refl, refl)
plainly_left (plain.Finish f) u q not = (refl, refl)
plainly_left (plain.Bootstrap k) u q not = (refl, refl)
plainly_left (plain.Resolve r) u q not = (refl, refl)
plainly_left (plain.Release r) u q not = (refl, refl)
plainly_left (plain.Disembargo d) u q not = (refl, refl)
plainly_left (plain.Abort a) u q not = (refl, refl)
plainly_left (plain.Other n) u q not = (refl, refl)

one_left : (m : Message) (u : Unanswered) (q : ℕ) → (IsReturned q (m ∷ []) → ⊥) → (task_at (returned m u) q ≡ task_at u q) × (over_at (returned m u) q ≡ over_at u q)
one_left (message.Plain m) u q not = plainly_left m u q not
one_left (message.Unimplemented m) u q not = (refl, refl)

-- Of a question without a Return all stays.
pub answered_left : (ms : List Message) (u : Unanswered) (q : ℕ) → (IsReturned q ms → ⊥) → (task_at (answered ms u) q ≡ task_at u q) × (over_at (answered ms u) q ≡ over_at u q)
answered_left [] u q not = (refl, refl)
answered_left (m ∷ ms) u q not =
    let rest = answered_left ms (returned m u) q (λ is. not (inr is)) in
    let one = one_left m u q (first m not) in
    (rest.0 ∙ one.0, rest.1 ∙ one.1)
  where
    first : (m : Message) → (IsReturned q (m ∷ ms) → ⊥) → IsReturned q (m ∷ []) → ⊥
    first m not (inl is) = not (inl is)
    first m not (inr none) = none

-- Nothing is noted besides.
abbrev IsLess : Unanswered → Unanswered → Type 0
IsLess v u = ((q : ℕ) (x : Option TaskId) → task_at v q ≡ Some x → task_at u q ≡ Some x) × ((q : ℕ) → over_at u q ≡ None → over_at v q ≡ None)

plainly_less : (m : PlainMessage) (u : Unanswered) → IsLess (returned (message.Plain m) u) u
plainly_less (plain.Return r) u = (
  λ q x. at_cut (λ j y. y ≡ Some x → task_at u j ≡ Some x) u.tasks r.answer.0 (λ is. absurd (let bad : None ≡ Some x = is in cc)) (λ j n is. is) q,
  λ q. at_cut (λ j y. over_at u j ≡ None → y ≡ None) u.over r.answer.0 (λ is. refl) (λ j n is. is) q,
)
plainly_less (plain.Call c) u = (λ q x is. is, λ q is. is)
plainly_less (plain.Finish f) u = (λ q x is. is, λ q is. is)
plainly_less (plain.Bootstrap k) u = (λ q x is. is, λ q is. is)
plainly_less (plain.Resolve r) u = (λ q x is. is, λ q is. is)
plainly_less (plain.Release r) u = (λ q x is. is, λ q is. is)
plainly_less (plain.Disembargo d) u = (λ q x is. is, λ q is. is)
plainly_less (plain.Abort a) u = (λ q x is. is, λ q is. is)
plainly_less (plain.Other n) u = (λ q x is. is, λ q is. is)

one_less : (m : Message) (u : Unanswered) → IsLess (returned m u) u
one_less (message.Plain m) u = plainly_less m u
one_less (message.Unimplemented m) u = (λ q x is. is, λ q is. is)

pub answered_less : (ms : List Message) (u : Unanswered) → IsLess (answered ms u) u
answered_less [] u = (λ q x is. is, λ q is. is)
answered_less (m ∷ ms) u =
    let rest = answered_less ms (returned m u) in
    let one = one_less m u in
    (λ q x is. one.0 q x (rest.0 q x is), λ q is. rest.1 q (one.1 q is))
