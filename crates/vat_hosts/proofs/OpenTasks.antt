-- In a state to which a vat comes: a task has an open outcome of its own, the peer waits for one open outcome by an answer, and the
-- task of one that is cancelled is finished.
use Rattle.std.proofs.Common.{◌≡◌, ℕ, ◌≤◌, Bool, true, false, ◌&&◌, ◌||◌, not, nat_eq, ◌==◌, Option, None, Some, refl, sym, ap, ◌∙◌, arith}
use Rattle.std.specs.FinMap as map
use Rattle.finite_maps.proofs.Tallies.{tally-split, tally-within}
use Rattle.finite_maps.proofs.Tested.{itself, equal, get_left}
use Rattle.rpc_msg.specs.declared.ids.TaskId.{TaskId}
use Rattle.rpc_machine.specs.declared.calls.Caller.{Caller}
use Rattle.rpc_machine.specs.declared.calls.KeptOutcome.{KeptOutcome}
use Rattle.rpc_machine.specs.declared.calls.Value.{Value}
use Rattle.rpc_machine.specs.declared.entries.AnswerEntry.{AnswerEntry}
use Rattle.rpc_machine.specs.Lists.{is_empty}
use Rattle.rpc_machine.specs.Nodes.{is_field}
use Rattle.rpc_machine.specs.Places.{names}
use Rattle.rpc_machine.specs.State.{State}
use Rattle.rpc_uses.specs.Results.{answer_is_over, caller_is_over, cancelled, is_unwanted, stands_for_unwanted}
use Rattle.core_queries.specs.Tasks.{caller_at, caller_in, task_caller}
use Rattle.laws_steps.specs.Callers.{AnswersWith, CallersAreServed, IsOpenFor, peer}
use Rattle.laws_nodes.specs.Ones.{one_if}
use Rattle.laws_nodes.specs.Sources.{HasOneSource, is_key, unknown, waits_for}
use Rattle.laws_tasks.specs.TaskSteps.{IsFinished, IsOpen, IsOwed}

-- ---- One outcome

known_once : (v : Option Value) → unknown v ≤ 1
known_once None = omega arith
known_once (Some v) = omega arith

waits_once : (x : Option KeptOutcome) → waits_for x ≤ 1
waits_once None = omega arith
waits_once (Some x) = known_once x.value

waits_open : (x : Option KeptOutcome) → 1 ≤ waits_for x → IsOpen x
waits_open None l = absurd (omega arith)
waits_open (Some x) l = by x.value l
  where
    by : (v : Option Value) → 1 ≤ unknown v → v ≡ None
    by None l = refl
    by (Some v) l = absurd (omega arith)

pub open_for : (x : Option KeptOutcome) (q : ℕ) → IsOpenFor q x → IsOpen x
open_for None q none = none
open_for (Some x) q is = is.0

-- ---- Tasks

pub task_open : (s : State) → HasOneSource s → (k o : ℕ) → map.get s.tasks k ≡ Some o → IsOpen (map.get s.outcomes o)
task_open s one k o e =
    let a = one.each o in
    let b = tally-within (is_key o) s.tasks k o e in
    let c : is_key o o ≡ 1 = ap one_if (itself o) in
    waits_open (map.get s.outcomes o) (omega arith)

pub one_task : (s : State) → HasOneSource s → (k j o : ℕ) → map.get s.tasks k ≡ Some o → map.get s.tasks j ≡ Some o → j ≡ k
one_task s one k j o e f = by (nat_eq j k) refl
  where
    by : (b : Bool) → nat_eq j k ≡ b → j ≡ k
    by true n = equal j k n
    by false n =
        absurd
        (let a = one.each o in
        let b = tally-split (is_key o) s.tasks k o e in
        let c = tally-within (is_key o) (map.remove s.tasks k) j o (get_left s.tasks k j n ∙ f) in
        let d : is_key o o ≡ 1 = ap one_if (itself o) in
        let g = waits_once (map.get s.outcomes o) in
        omega arith)

-- ---- Answers

with_owed : (o : ℕ) (a : Option AnswerEntry) → AnswersWith o a → IsOwed a
with_owed o None none = none
with_owed o (Some a) is = is.1

pub owed_for : (s : State) → CallersAreServed s → (o q : ℕ) → IsOpenFor q (map.get s.outcomes o) → IsOwed (map.get s.answers q)
owed_for s callers o q is = with_owed o (map.get s.answers q) (callers.outcomes o q is)

with_same : (o p : ℕ) (a : Option AnswerEntry) → AnswersWith o a → AnswersWith p a → o ≡ p
with_same o p None none other = absurd none
with_same o p (Some a) is other = sym is.0 ∙ other.0

pub one_open : (s : State) → CallersAreServed s → (o p q : ℕ) → IsOpenFor q (map.get s.outcomes o) → IsOpenFor q (map.get s.outcomes p) → o ≡ p
one_open s callers o p q is other = with_same o p (map.get s.answers q) (callers.outcomes o q is) (callers.outcomes p q other)

-- ---- Who made the call of a task

pub caller_of : (s : State) (k o q : ℕ) → map.get s.tasks k ≡ Some o → IsOpenFor q (map.get s.outcomes o) → task_caller s (record { 0 = k }) ≡ Some (peer q)
caller_of s k o q e is = ap (caller_at s) e ∙ by (map.get s.outcomes o) is
  where
    by : (x : Option KeptOutcome) → IsOpenFor q x → caller_in x ≡ Some (peer q)
    by None none = absurd none
    by (Some x) both = ap (λ (w : Caller). Some w) both.1

pub called_by : (s : State) → HasOneSource s → (t : TaskId) (q : ℕ) → task_caller s t ≡ Some (peer q) → (o : ℕ) × (map.get s.tasks t.0 ≡ Some o) × IsOpenFor q (map.get s.outcomes o)
called_by s one t q is = by (map.get s.tasks t.0) refl is
  where
    at : (x : Option KeptOutcome) → IsOpen x → caller_in x ≡ Some (peer q) → IsOpenFor q x
    at None none e = none
    at (Some x) known e = (known, let f : Some x.caller ≡ Some (peer q) = e in let g : x.caller ≡ peer q = cc in g)

    by : (k : Option ℕ) → map.get s.tasks t.0 ≡ k → caller_at s k ≡ Some (peer q) → (o : ℕ) × (map.get s.tasks t.0 ≡ Some o) × IsOpenFor q (map.get s.outcomes o)
    by None e f = absurd (let bad : None ≡ Some (peer q) = f in cc)
    by (Some o) e f = (o, e, at (map.get s.outcomes o) (task_open s one t.0 o e) f)

-- ---- Tasks that are cancelled

first_true : (a b : Bool) → (a && b) ≡ true → a ≡ true
first_true true b e = refl
first_true false b e = e

pub cancelled_task : (s : State) (t : TaskId) → cancelled s t ≡ true → (o : ℕ) × (map.get s.tasks t.0 ≡ Some o)
cancelled_task s t is = by (map.get s.tasks t.0) refl is
  where
    by : (k : Option ℕ) → map.get s.tasks t.0 ≡ k → stands_for_unwanted s k ≡ true → (o : ℕ) × (map.get s.tasks t.0 ≡ Some o)
    by None e f = absurd (let bad : false ≡ true = f in cc)
    by (Some o) e f = (o, e)

over_finished : (o : ℕ) (a : Option AnswerEntry) → AnswersWith o a → answer_is_over o a ≡ true → IsFinished a
over_finished o None none is = none
over_finished o (Some a) with is = by a.finished (nat_eq a.outcome o) (ap (λ (k : ℕ). nat_eq k o) with.0 ∙ itself o) is
  where
    by : (b c : Bool) → c ≡ true → (b || not c) ≡ true → b ≡ true
    by true c e f = refl
    by false true e f = f
    by false false e f = absurd (let bad : false ≡ true = e in cc)

pub cancelled_finished : (s : State) → CallersAreServed s → (t : TaskId) (o q : ℕ) → map.get s.tasks t.0 ≡ Some o → IsOpenFor q (map.get s.outcomes o) → cancelled s t ≡ true → IsFinished (map.get s.answers q)
cancelled_finished s callers t o q e is unwanted =
    over_finished o (map.get s.answers q) (callers.outcomes o q is) (by (map.get s.outcomes o) is (sym (ap (stands_for_unwanted s) e) ∙ unwanted))
  where
    by : (x : Option KeptOutcome) → IsOpenFor q x → is_unwanted s o x ≡ true → answer_is_over o (map.get s.answers q) ≡ true
    by None none f = absurd none
    by (Some x) both f = sym (ap (caller_is_over s o) both.1) ∙ first_true (caller_is_over s o x.caller) (is_empty x.waiting) (first_true (caller_is_over s o x.caller && is_empty x.waiting) (names s (is_field o) == 0) f)
