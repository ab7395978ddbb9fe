-- What is of a call stays so where outcomes become known, and where more is asked and delivered.
use Rattle.std.proofs.Common.{◌≡◌, inl, inr, ℕ, ◌+◌, Option, None, Some, List, [], ◌∷◌, ◌++◌, refl, sym, ap, subst, ◌∙◌}
use Rattle.std.specs.FinMap as map
use Rattle.finite_maps.specs.Tally.{Map}
use Rattle.finite_maps.proofs.Tested.{at_put, at_cut}
use Rattle.rpc_msg.specs.Payloads.{Contents as Payload}
use Rattle.rpc_msg.specs.declared.ids.CallId.{CallId}
use Rattle.rpc_msg.specs.declared.ids.Stamp.{Stamp}
use Rattle.rpc_msg.specs.declared.message.Message.{Message}
use Rattle.rpc_journal.specs.History.{or_rest}
use Rattle.rpc_journal.specs.Sources.{Asking, OfCall}
use Rattle.rpc_machine.specs.declared.node.Node.{Node}
use Rattle.rpc_machine.specs.declared.calls.WaitingCall.{WaitingCall}
use Rattle.rpc_machine.specs.declared.calls.HeldCall.{HeldCall}
use Rattle.rpc_machine.specs.declared.calls.Promise.{Promise}
use Rattle.rpc_machine.specs.declared.calls.Promise.TheVariants as promise
use Rattle.rpc_machine.specs.declared.calls.KeptOutcome.{KeptOutcome}
use Rattle.rpc_machine.specs.declared.calls.Caller.{Caller}
use Rattle.rpc_machine.specs.declared.calls.Caller.TheVariants as caller
use Rattle.rpc_machine.specs.declared.calls.Value.{Value}
use Rattle.rpc_machine.specs.declared.calls.Value.TheVariants as value
use Rattle.rpc_machine.specs.declared.entries.Role.{Role}
use Rattle.rpc_machine.specs.declared.entries.Role.TheVariants as role
use Rattle.rpc_machine.specs.declared.entries.Returned.{Returned}
use Rattle.rpc_machine.specs.declared.entries.Finishing.TheVariants as finishing
use Rattle.rpc_machine.specs.declared.entries.Question.{Question}
use Rattle.rpc_machine.specs.declared.entries.Embargo.{Embargo}
use Rattle.rpc_machine.specs.State.{State}
use Rattle.rpc_machine.specs.Settling.{Fits, PutsIn, Untangles}
use Rattle.rpc_machine.specs.Sweeping.{closed_map}
use Rattle.laws_meanings.specs.Identities.{asked_in, asked_last, IfNone, IsOf, CallsAre, HeldAre, PromiseIs, KeptIs, EmbargoIs, TaskIs, RoleIs, QuestionIs}

-- What is said of the outcome is still said.
abbrev pub Soft : (Caller → Option Asking) → Map KeptOutcome → (Caller → Option Asking) → Map KeptOutcome → Type 0
Soft C os D ns = (o : ℕ) (a : Asking) → IsOf C a (map.get os o) → IsOf D a (map.get ns o)

abbrev pub Apps : (Caller → Option Asking) → (Caller → Option Asking) → Type 0
Apps C D = (c : CallId) (a : Asking) → C (caller.Application c) ≡ Some a → D (caller.Application c) ≡ Some a

module _ (C : Caller → Option Asking) (os : Map KeptOutcome) (D : Caller → Option Asking) (ns : Map KeptOutcome) (f : Soft C os D ns) where
  pub soft_calls : (cs : List WaitingCall) → CallsAre C os cs → CallsAre D ns cs
  soft_calls [] i = tt
  soft_calls (c ∷ cs) i = (f c.outcome (OfCall c.request.stamp) i.0, soft_calls cs i.1)

  pub soft_held : (xs : List HeldCall) → HeldAre C os xs → HeldAre D ns xs
  soft_held [] i = tt
  soft_held (x ∷ xs) i = (f x.call.outcome (OfCall x.call.request.stamp) i.0, soft_held xs i.1)

  pub soft_promise : (o : Option Promise) → PromiseIs C os o → PromiseIs D ns o
  soft_promise None i = tt
  soft_promise (Some (promise.Open calls)) i = soft_calls calls i
  soft_promise (Some (promise.Fixed to)) i = tt

  pub soft_kept : (o : Option KeptOutcome) → KeptIs C os o → KeptIs D ns o
  soft_kept None i = tt
  soft_kept (Some x) i = soft_held x.waiting i

  pub soft_embargo : (o : Option Embargo) → EmbargoIs C os o → EmbargoIs D ns o
  soft_embargo None i = tt
  soft_embargo (Some b) i = soft_calls b.waiting i

  pub soft_task : (T U : ℕ → Stamp → Type 0) → ((k : ℕ) (s : Stamp) → T k s → U k s) → (k : ℕ) (o : Option ℕ) → TaskIs C os T k o → TaskIs D ns U k o
  soft_task T U g k None i = tt
  soft_task T U g k (Some o) i = (i.0, g k i.0 i.1, f o (OfCall i.0) i.2)

  pub soft_role : Apps C D → (p q : Option Asking) → ((a : Asking) → p ≡ Some a → q ≡ Some a) → (r : Role) → RoleIs C os p r → RoleIs D ns q r
  soft_role g p q h (role.Direct c) i = (i.0, g c i.0 i.1, h i.0 i.2)
  soft_role g p q h (role.Relay o) i = (i.0, h (OfCall i.0) i.1, f o (OfCall i.0) i.2)

  pub soft_question : Apps C D → (p q : Option Asking) → ((a : Asking) → p ≡ Some a → q ≡ Some a) → (o : Option Question) → QuestionIs C os p o → QuestionIs D ns q o
  soft_question g p q h None i = tt
  soft_question g p q h (Some x) i = by x.returned i
    where
      by : (r : Option Returned) → IfNone r (RoleIs C os p x.role) → IfNone r (RoleIs D ns q x.role)
      by None j = soft_role g p q h x.role j
      by (Some said) j = tt

module _ (C : Caller → Option Asking) (os : Map KeptOutcome) where
  pub softly : (u : ℕ) (x y : KeptOutcome) → map.get os u ≡ Some x → y.value ≡ x.value → y.caller ≡ x.caller → Soft C os C (map.insert os u y)
  softly u x y e f g o a = at_put (λ j n. IsOf C a (map.get os j) → IsOf C a n) os u y
      (λ i. let k : IfNone x.value (C x.caller ≡ Some a) = subst (IsOf C a) e i in
      let l : IfNone y.value (C x.caller ≡ Some a) = subst (λ (z : Option Value). IfNone z (C x.caller ≡ Some a)) (sym f) k in
      subst (λ (z : Caller). IfNone y.value (C z ≡ Some a)) (sym g) l)
      (λ j n i. i) o

  pub known_soft : (u : ℕ) (y : KeptOutcome) (w : Value) → y.value ≡ Some w → Soft C os C (map.insert os u y)
  known_soft u y w e o a = at_put (λ j n. IsOf C a (map.get os j) → IsOf C a n) os u y
      (λ i. subst (λ (z : Option Value). IfNone z (C y.caller ≡ Some a)) (sym e) tt)
      (λ j n i. i) o

  pub gone_soft : (u : ℕ) → Soft C os C (map.remove os u)
  gone_soft u o a = at_cut (λ j n. IsOf C a (map.get os j) → IsOf C a n) os u (λ i. tt) (λ j n i. i) o

  pub calls-append : (xs ys : List WaitingCall) → CallsAre C os xs → CallsAre C os ys → CallsAre C os (xs ++ ys)
  calls-append [] ys i j = j
  calls-append (x ∷ xs) ys i j = (i.0, calls-append xs ys i.1 j)

  pub held-append : (xs ys : List HeldCall) → HeldAre C os xs → HeldAre C os ys → HeldAre C os (xs ++ ys)
  held-append [] ys i j = j
  held-append (x ∷ xs) ys i j = (i.0, held-append xs ys i.1 j)

  -- The promises of a value that fits hold no calls.
  abbrev pub Promises : Map Promise → Type 0
  Promises m = (p : ℕ) → PromiseIs C os (map.get m p)

  module _ (o : ℕ) (who : Caller) (w : List HeldCall) where
    put_in : (payload : Payload) (t : State) (i : ℕ) (n : Node) (rest out : List Node) (new : State) → PutsIn t o who w payload i n rest out new → Promises t.promises → Promises new.promises
    put_in payload t i n rest out new (inl h) k = rw h.2 k
    put_in payload t i n rest out new (inr h) k = let g = h.1 in rw g.3 (at_put (λ j y. PromiseIs C os y) t.promises g.0 (promise.Open []) tt (λ j y. k j))

    untangled : (payload : Payload) (t : State) (i : ℕ) (ns out : List Node) (new : State) → Untangles t o who w payload i ns out new → Promises t.promises → Promises new.promises
    untangled payload t i [] out new h k = rw h.1 k
    untangled payload t i (n ∷ ns) out new h k = put_in payload h.1 i n h.0 out new h.3 (untangled payload t (i + 1) ns h.0 h.1 h.2 k)

    pub fits_promises : (t : State) (v fit : Value) (new : State) → Fits t o who w v fit new → Promises t.promises → Promises new.promises
    fits_promises t (value.Exception x) fit new h k = rw h.1 k
    fits_promises t (value.Results payload ns) fit new h k = untangled payload t 0 ns h.0 new h.2 k

  -- A question is closed.
  pub closes : (L : ℕ → Option Asking) (m : Map Question) (q : ℕ) (x : Question) (r : Option Returned) → x.returned ≡ r → map.get m q ≡ Some x → ((k : ℕ) → QuestionIs C os (L k) (map.get m k)) → (k : ℕ) → QuestionIs C os (L k) (map.get (closed_map m q x r) k)
  closes L m q x None e f i = at_put (λ k o. QuestionIs C os (L k) o) m q (record x { finish = finishing.Sent }) (subst (λ (o : Option Question). QuestionIs C os (L q) o) f (i q)) (λ k n. i k)
  closes L m q x (Some said) e f i = at_cut (λ k o. QuestionIs C os (L k) o) m q tt (λ k n. i k)

-- ---- What is asked last

pub last-append : (q : ℕ) (ms ns : List Message) → asked_last q (ms ++ ns) ≡ or_rest (asked_last q ns) (asked_last q ms)
last-append q [] ns = by (asked_last q ns)
  where
    by : (o : Option Asking) → o ≡ or_rest o None
    by None = refl
    by (Some a) = refl
last-append q (m ∷ ms) ns = ap (λ (o : Option Asking). or_rest o (asked_in q m)) (last-append q ms ns) ∙ by (asked_last q ns)
  where
    by : (o : Option Asking) → or_rest (or_rest o (asked_last q ms)) (asked_in q m) ≡ or_rest o (or_rest (asked_last q ms) (asked_in q m))
    by None = refl
    by (Some a) = refl
