-- What was asked for or promised just now does not go.
use Rattle.std.proofs.Common.{◌≡◌, ℕ, ◌+◌, [], ◌∷◌, Option, None, Some, Ok, sym, ap, subst, ◌∙◌}
use Rattle.std.specs.FinMap as map
use Rattle.finite_maps.proofs.Gets.{at_each, get-insert_same, get-insert_other}
use Rattle.rpc_machine.specs.declared.node.Node.TheVariants as node
use Rattle.rpc_machine.specs.declared.calls.Caller.{Caller}
use Rattle.rpc_machine.specs.declared.calls.Caller.TheVariants as caller
use Rattle.rpc_machine.specs.declared.calls.OwnCall.{OwnCall}
use Rattle.rpc_machine.specs.declared.calls.OwnCall.TheVariants as own
use Rattle.rpc_machine.specs.declared.calls.Promise.{Promise}
use Rattle.rpc_machine.specs.declared.calls.Promise.TheVariants as promise
use Rattle.rpc_machine.specs.declared.command.Command.TheVariants as command
use Rattle.rpc_machine.specs.declared.command.Granted.{Granted}
use Rattle.rpc_machine.specs.declared.entries.Question.{Question}
use Rattle.rpc_machine.specs.declared.entries.Role.TheVariants as role
use Rattle.rpc_machine.specs.declared.entries.Finishing.TheVariants as finishing
use Rattle.rpc_machine.specs.State.{State}
use Rattle.rpc_machine.specs.Limits.{IsWithin}
use Rattle.rpc_machine.specs.Progress.{Progress, begin, quiet, with_refs}
use Rattle.rpc_machine.specs.Collecting.{IsLoosePromise, CallerIsDone}
use Rattle.rpc_machine.specs.Sweeping.{IsToFinish}
use Rattle.rpc_machine.specs.Refusals.{refused}
use Rattle.rpc_machine.specs.Commands.{AsksBootstrap, MakesPromise}
use Rattle.rpc_machine.specs.Steps.{Obeys}
use Rattle.laws_acts.proofs.Promises.{promise_opens}
use Rattle.laws_acts.proofs.Questions.{question_asked}
use Rattle.core_store.specs.Holding.{IsFresh}
use Rattle.core_steps.specs.Thinking.{IsQuiet}
use Rattle.core_steps.proofs.Quietly.{quiet_behind, done_quietly, calm_with_ref}

-- ---- A promise

-- The promise is open.
abbrev pub with_promise : State → ℕ → State
with_promise s p = record s { promises = map.insert s.promises p (promise.Open []); unsettled = map.insert s.unsettled s.next_promise p; next_promise = s.next_promise + 1 }

calm_open : (s : State) (p : ℕ) → map.get s.promises p ≡ None → IsQuiet s → IsQuiet (with_promise s p)
calm_open s p free calm =
    quiet_behind s (with_promise s p) (node.Promise p ∷ []) (promise_opens s p free)
    (record { promises = was; outcomes = λ o h. h; imports = λ e h. h; questions = λ q h. h; callers = before; calls = λ c h. h })
    calm
  where
    was : (k : ℕ) → IsLoosePromise (with_promise s p) k (map.get (map.insert s.promises p (promise.Open [])) k) → IsLoosePromise (with_promise s p) k (map.get s.promises k)
    was = at_each (λ k. IsLoosePromise (with_promise s p) k (map.get (map.insert s.promises p (promise.Open [])) k) → IsLoosePromise (with_promise s p) k (map.get s.promises k)) p
        (λ h. absurd (subst (λ (o : Option Promise). IsLoosePromise (with_promise s p) p o) (get-insert_same s.promises p (promise.Open [])) h))
        (λ k apart h. subst (λ (o : Option Promise). IsLoosePromise (with_promise s p) k o) (get-insert_other s.promises p (promise.Open []) k apart) h)

    before : (o : ℕ) (who : Caller) → CallerIsDone (with_promise s p) o who → CallerIsDone s o who
    before o (caller.Application c) h = h
    before o (caller.Peer q) h = h

pub promised : (s t : State) (g : Granted) (d new : Progress) → refused s command.Promise ≡ None → d ≡ begin s → MakesPromise d g new → new.state ≡ t → IsFresh s.refs s.next_ref → IsQuiet s → IsWithin t
    → Obeys s command.Promise (Ok g) quiet t
promised s t g d new free began acts is fresh calm within =
    let made : MakesPromise (begin s) g new = subst (λ (x : Progress). MakesPromise x g new) began acts in
    let state : with_refs (with_promise s made.0) (node.Promise made.0 ∷ []) ≡ t = sym (ap (λ (x : Progress). x.state) made.3) ∙ is in
    done_quietly s t command.Promise g d new free began acts (made.3 ∙ ap begin state)
    (subst IsQuiet state (calm_with_ref (with_promise s made.0) (node.Promise made.0) fresh (calm_open s made.0 made.1 calm))) within

-- ---- The bootstrap object

abbrev pub asked_by : ℕ → Question
asked_by c = record { role = role.Direct (record { 0 = c }); given = []; returned = None; finish = finishing.Owed }

abbrev pub with_asked : State → ℕ → State
with_asked s q = record s {
  questions = map.insert s.questions q (asked_by s.next_call);
  calls = map.insert s.calls s.next_call (own.Direct (record { 0 = q }));
  next_call = s.next_call + 1;
}

module _ (s : State) (q : ℕ) (free : map.get s.questions q ≡ None) where
  abbrev t : State
  t = with_asked s q

  abbrev from : OwnCall
  from = own.Direct (record { 0 = q })

  called : (c : ℕ) → map.get (map.insert s.calls s.next_call from) c ≡ None → map.get s.calls c ≡ None
  called = at_each (λ c. map.get (map.insert s.calls s.next_call from) c ≡ None → map.get s.calls c ≡ None) s.next_call
      (λ h. let there = get-insert_same s.calls s.next_call from in cc)
      (λ c apart h. sym (get-insert_other s.calls s.next_call from c apart) ∙ h)

  was : (k : ℕ) → IsToFinish t k (map.get (map.insert s.questions q (asked_by s.next_call)) k) → IsToFinish t k (map.get s.questions k)
  was = at_each (λ k. IsToFinish t k (map.get (map.insert s.questions q (asked_by s.next_call)) k) → IsToFinish t k (map.get s.questions k)) q
      (λ h. let over : IsToFinish t q (Some (asked_by s.next_call)) = subst (λ (o : Option Question). IsToFinish t q o) (get-insert_same s.questions q (asked_by s.next_call)) h in
      let there = get-insert_same s.calls s.next_call from in let none = over.1.0 in cc)
      (λ k apart h. subst (λ (o : Option Question). IsToFinish t k o) (get-insert_other s.questions q (asked_by s.next_call) k apart) h)

  before : (o : ℕ) (who : Caller) → CallerIsDone t o who → CallerIsDone s o who
  before o (caller.Application c) h = called c.0 h
  before o (caller.Peer k) h = h

  calm_asked : IsQuiet s → IsQuiet t
  calm_asked calm =
      quiet_behind s t [] (question_asked s q (role.Direct (record { 0 = s.next_call })) [] finishing.Owed free)
      (record { promises = λ p h. h; outcomes = λ o h. h; imports = λ e h. h; questions = was; callers = before; calls = called })
      calm

-- What follows the question: nothing is loose, and nothing waits to be settled.
pub asked : (s : State) (g : Granted) (d new : Progress) → d ≡ begin s → AsksBootstrap d g new → IsQuiet s → IsQuiet new.state × (new.arisen ≡ [])
asked s g d new began acts calm =
    let made : AsksBootstrap (begin s) g new = subst (λ (x : Progress). AsksBootstrap x g new) began acts in (
      subst (λ (x : Progress). IsQuiet x.state) (sym made.3) (calm_asked s made.0 made.1 calm),
      ap (λ (x : Progress). x.arisen) made.3,
    )
