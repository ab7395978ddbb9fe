-- What is loose: after a change, and once it was looked at.
use Rattle.std.proofs.Common.{◌≡◌, ◌⊎◌, inl, inr, ℕ, zero, suc, ◌<◌, Bool, List, [], ◌∷◌, ◌++◌, Option, None, Some, refl, subst, arith}
use Rattle.std.specs.FinMap as map
use Rattle.std.specs.List.{Contains}
use Rattle.std.proofs.lemmas.List.Elements.{Contains-append_left, Contains-append_right, Contains-push_cases}
use Rattle.rpc_machine.specs.declared.node.Node.{Node}
use Rattle.rpc_machine.specs.declared.calls.Promise.{Promise}
use Rattle.rpc_machine.specs.declared.calls.Promise.TheVariants as promise
use Rattle.rpc_machine.specs.declared.calls.Value.{Value}
use Rattle.rpc_machine.specs.declared.calls.Caller.{Caller}
use Rattle.rpc_machine.specs.declared.calls.KeptOutcome.{KeptOutcome}
use Rattle.rpc_machine.specs.declared.entries.Import.{Import}
use Rattle.rpc_machine.specs.declared.entries.Question.{Question}
use Rattle.rpc_machine.specs.declared.entries.Role.{Role}
use Rattle.rpc_machine.specs.declared.entries.Role.TheVariants as role
use Rattle.rpc_machine.specs.State.{State}
use Rattle.rpc_machine.specs.Lists.{how_many}
use Rattle.rpc_machine.specs.Nodes.{is_promise, is_field, is_import, is_pipe}
use Rattle.rpc_machine.specs.Places.{places, names}
use Rattle.rpc_machine.specs.Collecting.{IsLoosePromise, IsLooseOutcome, IsLooseValue, IsLooseImport, CallerIsDone}
use Rattle.rpc_machine.specs.Sweeping.{IsOver}
use Rattle.laws_acts.specs.Alike.{Alike}
use Rattle.laws_acts.specs.Laws.{LooseByNamesThatWent, AllNoted, TightByNoneNoted}
use Rattle.laws_acts.proofs.Parts.{how_many_append}

-- ---- After a change

module _ (s t : State) (come gone : List Node) (alike : Alike (come ++ places s) (gone ++ places t)) where
  last_name_by : (test : Node → Bool) (n : ℕ) → how_many test gone ≡ n → names t test ≡ 0 → (names s test ≡ 0) ⊎ (0 < how_many test gone)
  last_name_by test zero is none = inl
      (let a = alike test in
      let b = how_many_append test come (places s) in
      let c = how_many_append test gone (places t) in
      omega (arith, a, b, c, is, none))
  last_name_by test (suc n) is none = inr (omega (arith, is))

  -- What no place names was named by none before, or a place that named it went.
  pub last_name : (test : Node → Bool) → names t test ≡ 0 → (names s test ≡ 0) ⊎ (0 < how_many test gone)
  last_name test none = last_name_by test (how_many test gone) refl none

  loose_promise : (p : ℕ) (x : Option Promise) → IsLoosePromise t p x → IsLoosePromise s p x ⊎ (0 < how_many (is_promise p) gone)
  loose_promise p None h = absurd h
  loose_promise p (Some (promise.Open calls)) h = absurd h
  loose_promise p (Some (promise.Fixed to)) h = last_name (is_promise p) h

  loose_value : (o : ℕ) (x : KeptOutcome) (v : Option Value) → ((who : Caller) → CallerIsDone t o who → CallerIsDone s o who) → IsLooseValue t o x v → IsLooseValue s o x v ⊎ (0 < how_many (is_field o) gone)
  loose_value o x None done h = absurd h
  loose_value o x (Some v) done h = by (last_name (is_field o) h.2)
    where
      by : (names s (is_field o) ≡ 0) ⊎ (0 < how_many (is_field o) gone) → IsLooseValue s o x (Some v) ⊎ (0 < how_many (is_field o) gone)
      by (inl none) = inl (h.0, done x.caller h.1, none)
      by (inr went) = inr went

  loose_outcome : (o : ℕ) (x : Option KeptOutcome) → ((who : Caller) → CallerIsDone t o who → CallerIsDone s o who) → IsLooseOutcome t o x → IsLooseOutcome s o x ⊎ (0 < how_many (is_field o) gone)
  loose_outcome o None done h = absurd h
  loose_outcome o (Some x) done h = loose_value o x x.value done h

  loose_import : (e : ℕ) (x : Option Import) → IsLooseImport t e x → IsLooseImport s e x ⊎ (0 < how_many (is_import e) gone)
  loose_import e None h = absurd h
  loose_import e (Some x) h = last_name (is_import e) h

  over_question : (q : ℕ) (x : Question) (r : Role) → ((c : ℕ) → map.get t.calls c ≡ None → map.get s.calls c ≡ None) → IsOver t q x r → IsOver s q x r ⊎ (0 < how_many (is_pipe q) gone)
  over_question q x (role.Relay o) done h = inl h
  over_question q x (role.Direct c) done h = by (last_name (is_pipe q) h.1)
    where
      by : (names s (is_pipe q) ≡ 0) ⊎ (0 < how_many (is_pipe q) gone) → IsOver s q x (role.Direct c) ⊎ (0 < how_many (is_pipe q) gone)
      by (inl none) = inl (done c.0 h.0, none)
      by (inr went) = inr went

pub loose_by_names : LooseByNamesThatWent
loose_by_names = record { promises = loose_promise; outcomes = loose_outcome; imports = loose_import; questions = over_question }

-- ---- What is noted

pub in_none : (k : ℕ) → ¬ (Contains [] k)
in_none k h = absurd (let below = h.1 in omega (arith, below))

pub tight : TightByNoneNoted
tight s h = record {
  promises = λ p loose. in_none p (h.of_promises p loose);
  outcomes = λ o loose. in_none o (h.of_outcomes o loose);
  imports = λ e loose. in_none e (h.of_imports e loose);
}

-- After a change what is loose was loose before, or is noted now.
noted_after : (ks more : List ℕ) (k : ℕ) (A : Type 0) → (A → Contains ks k) → A ⊎ Contains more k → Contains (ks ++ more) k
noted_after ks more k A h (inl a) = Contains-append_left ks more k (h a)
noted_after ks more k A h (inr c) = Contains-append_right ks more k c

pub all_noted_after : (s t : State) (ps os is more_ps more_os more_is : List ℕ)
    → ((p : ℕ) → IsLoosePromise t p (map.get t.promises p) → IsLoosePromise s p (map.get s.promises p) ⊎ Contains more_ps p)
    → ((o : ℕ) → IsLooseOutcome t o (map.get t.outcomes o) → IsLooseOutcome s o (map.get s.outcomes o) ⊎ Contains more_os o)
    → ((e : ℕ) → IsLooseImport t e (map.get t.imports e) → IsLooseImport s e (map.get s.imports e) ⊎ Contains more_is e)
    → AllNoted s ps os is → AllNoted t (ps ++ more_ps) (os ++ more_os) (is ++ more_is)
all_noted_after s t ps os is more_ps more_os more_is a b c h = record {
  of_promises = λ p loose. noted_after ps more_ps p _ (h.of_promises p) (a p loose);
  of_outcomes = λ o loose. noted_after os more_os o _ (h.of_outcomes o) (b o loose);
  of_imports = λ e loose. noted_after is more_is e _ (h.of_imports e) (c e loose);
}

-- One that was noted was looked at, and is not loose.
still_noted : (ks : List ℕ) (k : ℕ) (P : ℕ → Type 0) → ¬ (P k) → ((j : ℕ) → P j → Contains (ks ++ k ∷ []) j) → (j : ℕ) → P j → Contains ks j
still_noted ks k P firm h j p = by (Contains-push_cases ks k j (h j p))
  where
    by : Contains ks j ⊎ (k ≡ j) → Contains ks j
    by (inl c) = c
    by (inr same) = absurd (firm (subst (λ i. P i) (let e : j ≡ k = cc in e) p))

pub promise_looked_at : (s : State) (ps os is : List ℕ) (p : ℕ) → ¬ (IsLoosePromise s p (map.get s.promises p)) → AllNoted s (ps ++ p ∷ []) os is → AllNoted s ps os is
promise_looked_at s ps os is p firm h = record {
  of_promises = still_noted ps p (λ p. IsLoosePromise s p (map.get s.promises p)) firm h.of_promises;
  of_outcomes = h.of_outcomes;
  of_imports = h.of_imports;
}

pub outcome_looked_at : (s : State) (ps os is : List ℕ) (o : ℕ) → ¬ (IsLooseOutcome s o (map.get s.outcomes o)) → AllNoted s ps (os ++ o ∷ []) is → AllNoted s ps os is
outcome_looked_at s ps os is o firm h = record {
  of_promises = h.of_promises;
  of_outcomes = still_noted os o (λ o. IsLooseOutcome s o (map.get s.outcomes o)) firm h.of_outcomes;
  of_imports = h.of_imports;
}

pub import_looked_at : (s : State) (ps os is : List ℕ) (e : ℕ) → ¬ (IsLooseImport s e (map.get s.imports e)) → AllNoted s ps os (is ++ e ∷ []) → AllNoted s ps os is
import_looked_at s ps os is e firm h = record {
  of_promises = h.of_promises;
  of_outcomes = h.of_outcomes;
  of_imports = still_noted is e (λ e. IsLooseImport s e (map.get s.imports e)) firm h.of_imports;
}
