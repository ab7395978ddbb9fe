-- Whether a thing is loose is told.
use Rattle.std.proofs.Common.{◌≡◌, ◌≢◌, ◌⊎◌, inl, inr, ℕ, zero, suc, List, [], ◌∷◌, Option, None, Some, IsSome, true, false, refl, ap, arith}
use Rattle.std.specs.FinMap as map
use Rattle.rpc_machine.specs.declared.node.Node.{Node}
use Rattle.rpc_machine.specs.declared.node.Node.TheVariants as node
use Rattle.rpc_machine.specs.declared.calls.Caller.{Caller}
use Rattle.rpc_machine.specs.declared.calls.Caller.TheVariants as caller
use Rattle.rpc_machine.specs.declared.calls.HeldCall.{HeldCall}
use Rattle.rpc_machine.specs.declared.calls.Promise.{Promise}
use Rattle.rpc_machine.specs.declared.calls.Promise.TheVariants as promise
use Rattle.rpc_machine.specs.declared.calls.KeptOutcome.{KeptOutcome}
use Rattle.rpc_machine.specs.declared.calls.Value.{Value}
use Rattle.rpc_machine.specs.declared.entries.AnswerEntry.{AnswerEntry}
use Rattle.rpc_machine.specs.declared.entries.Import.{Import}
use Rattle.rpc_machine.specs.declared.entries.Question.{Question}
use Rattle.rpc_machine.specs.declared.entries.Returned.{Returned}
use Rattle.rpc_machine.specs.declared.entries.Role.{Role}
use Rattle.rpc_machine.specs.declared.entries.Role.TheVariants as role
use Rattle.rpc_machine.specs.declared.entries.Finishing.{Finishing}
use Rattle.rpc_machine.specs.declared.entries.Finishing.TheVariants as finishing
use Rattle.rpc_machine.specs.State.{State}
use Rattle.rpc_machine.specs.Nodes.{is_promise, is_field, is_import, is_pipe}
use Rattle.rpc_machine.specs.Places.{names}
use Rattle.rpc_machine.specs.Collecting.{IsLoosePromise, IsLooseOutcome, IsLooseValue, IsLooseImport, CallerIsDone, AnswerIsOther}
use Rattle.rpc_machine.specs.Sweeping.{IsToFinish, IsNotSent, IsOver}
use Rattle.core_step_sweeps.specs.Thinking.{IsLoose}

all_three : {A B C : Type 0} → A ⊎ ¬ A → B ⊎ ¬ B → C ⊎ ¬ C → (A × B × C) ⊎ ¬ (A × B × C)
all_three (inl a) (inl b) (inl c) = inl (a, b, c)
all_three (inl a) (inl b) (inr c) = inr (λ h. c h.2)
all_three (inl a) (inr b) c = inr (λ h. b h.1)
all_three (inr a) b c = inr (λ h. a h.0)

none_or_not : {X : Type 0} (o : Option X) → (◌≡◌ {A = Option X} o None) ⊎ ¬ (◌≡◌ {A = Option X} o None)
none_or_not None = inl refl
none_or_not (Some x) = inr (λ h. absurd (let e : Some x ≡ None = h in cc))

empty_or_not : (xs : List HeldCall) → (xs ≡ []) ⊎ ¬ (xs ≡ [])
empty_or_not [] = inl refl
empty_or_not (x ∷ xs) = inr (λ h. absurd (let e : (x ∷ xs) ≡ [] = h in cc))

same_or_not : (m n : ℕ) → (m ≡ n) ⊎ (m ≢ n)
same_or_not zero zero = inl refl
same_or_not zero (suc n) = inr (λ h. absurd (omega (arith, h)))
same_or_not (suc m) zero = inr (λ h. absurd (omega (arith, h)))
same_or_not (suc m) (suc n) = more (same_or_not m n)
  where
    more : (m ≡ n) ⊎ (m ≢ n) → (suc m ≡ suc n) ⊎ (suc m ≢ suc n)
    more (inl e) = inl (ap suc e)
    more (inr e) = inr (λ h. e (omega (arith, h)))

other_or_not : (o : ℕ) (a : Option AnswerEntry) → AnswerIsOther o a ⊎ ¬ (AnswerIsOther o a)
other_or_not o None = inl tt
other_or_not o (Some a) = turned (same_or_not a.outcome o)
  where
    turned : (a.outcome ≡ o) ⊎ (a.outcome ≢ o) → (a.outcome ≢ o) ⊎ ¬ (a.outcome ≢ o)
    turned (inl e) = inr (λ h. h e)
    turned (inr e) = inl e

done_or_not : (s : State) (o : ℕ) (who : Caller) → CallerIsDone s o who ⊎ ¬ (CallerIsDone s o who)
done_or_not s o (caller.Application c) = none_or_not (map.get s.calls c.0)
done_or_not s o (caller.Peer q) = other_or_not o (map.get s.answers q.0)

value_or_not : (s : State) (o : ℕ) (x : KeptOutcome) (v : Option Value) → IsLooseValue s o x v ⊎ ¬ (IsLooseValue s o x v)
value_or_not s o x None = inr (λ h. h)
value_or_not s o x (Some v) = all_three (empty_or_not x.waiting) (done_or_not s o x.caller) (same_or_not (names s (is_field o)) 0)

pub outcome_or_not : (s : State) (o : ℕ) (x : Option KeptOutcome) → IsLooseOutcome s o x ⊎ ¬ (IsLooseOutcome s o x)
outcome_or_not s o None = inr (λ h. h)
outcome_or_not s o (Some x) = value_or_not s o x x.value

both : {A B : Type 0} → A ⊎ ¬ A → B ⊎ ¬ B → (A × B) ⊎ ¬ (A × B)
both (inl a) (inl b) = inl (a, b)
both (inl a) (inr b) = inr (λ h. b h.1)
both (inr a) b = inr (λ h. a h.0)

promise_or_not : (s : State) (p : ℕ) (o : Option Promise) → IsLoosePromise s p o ⊎ ¬ (IsLoosePromise s p o)
promise_or_not s p None = inr (λ h. h)
promise_or_not s p (Some (promise.Open calls)) = inr (λ h. h)
promise_or_not s p (Some (promise.Fixed to)) = same_or_not (names s (is_promise p)) 0

import_or_not : (s : State) (e : ℕ) (o : Option Import) → IsLooseImport s e o ⊎ ¬ (IsLooseImport s e o)
import_or_not s e None = inr (λ h. h)
import_or_not s e (Some x) = same_or_not (names s (is_import e)) 0

came_or_not : (o : Option Returned) → IsSome o ⊎ ¬ (IsSome o)
came_or_not None = inr (λ h. absurd (let e : false ≡ true = h in cc))
came_or_not (Some said) = inl refl

over_or_not : (s : State) (q : ℕ) (x : Question) (r : Role) → IsOver s q x r ⊎ ¬ (IsOver s q x r)
over_or_not s q x (role.Relay o) = came_or_not x.returned
over_or_not s q x (role.Direct c) = both (none_or_not (map.get s.calls c.0)) (same_or_not (names s (is_pipe q)) 0)

unsent_or_not : (f : Finishing) → IsNotSent f ⊎ ¬ (IsNotSent f)
unsent_or_not finishing.Owed = inl tt
unsent_or_not finishing.Sent = inr (λ h. h)
unsent_or_not finishing.Waived = inl tt

finish_or_not : (s : State) (q : ℕ) (o : Option Question) → IsToFinish s q o ⊎ ¬ (IsToFinish s q o)
finish_or_not s q None = inr (λ h. h)
finish_or_not s q (Some x) = both (unsent_or_not x.finish) (over_or_not s q x x.role)

pub loose_or_not : (s : State) (n : Node) → IsLoose s n ⊎ ¬ (IsLoose s n)
loose_or_not s (node.Object o) = inr (λ h. h)
loose_or_not s (node.Promise p) = promise_or_not s p (map.get s.promises p)
loose_or_not s (node.Field o path) = outcome_or_not s o (map.get s.outcomes o)
loose_or_not s (node.Import e) = import_or_not s e.0 (map.get s.imports e.0)
loose_or_not s (node.Pipe q path) = finish_or_not s q.0 (map.get s.questions q.0)
loose_or_not s (node.Broken reason) = inr (λ h. h)
