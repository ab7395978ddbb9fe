-- What a body tests says what is loose.
use Rattle.std.proofs.Common.{◌≡◌, ℕ, ◌+◌, ◌==◌, Bool, true, List, [], ◌∷◌, ◌++◌, Option, None, Some, refl, sym, ap, subst, arith}
use Rattle.std.specs.Ordering.{nat_cmp}
use Rattle.std.specs.FinMap as map
use Rattle.rpc_msg.specs.declared.ids.QuestionId.{QuestionId}
use Rattle.finite_maps.specs.Tally.{Map}
use Rattle.rpc_machine.specs.declared.node.Node.{Node}
use Rattle.rpc_machine.specs.declared.node.Node.TheVariants as node
use Rattle.rpc_machine.specs.declared.calls.HeldCall.{HeldCall}
use Rattle.rpc_machine.specs.declared.calls.Promise.{Promise}
use Rattle.rpc_machine.specs.declared.calls.Promise.TheVariants as promise
use Rattle.rpc_machine.specs.declared.calls.OwnCall.{OwnCall}
use Rattle.rpc_machine.specs.declared.calls.Value.{Value}
use Rattle.rpc_machine.specs.declared.calls.KeptOutcome.{KeptOutcome}
use Rattle.rpc_machine.specs.declared.calls.Caller.{Caller}
use Rattle.rpc_machine.specs.declared.calls.Caller.TheVariants as caller
use Rattle.rpc_machine.specs.declared.entries.AnswerEntry.{AnswerEntry}
use Rattle.rpc_machine.specs.declared.entries.Import.{Import}
use Rattle.rpc_machine.specs.declared.entries.Question.{Question}
use Rattle.rpc_machine.specs.declared.entries.Role.{Role}
use Rattle.rpc_machine.specs.declared.entries.Role.TheVariants as role
use Rattle.rpc_machine.specs.State.{State}
use Rattle.rpc_machine.specs.Lists.{how_many}
use Rattle.rpc_machine.specs.Nodes.{is_promise, is_field, is_import, is_pipe}
use Rattle.rpc_machine.specs.Places.{places, names, named_by_held}
use Rattle.rpc_machine.specs.Collecting.{IsLoosePromise, IsLooseOutcome, IsLooseValue, IsLooseImport, CallerIsDone, AnswerIsOther}
use Rattle.rpc_machine.specs.Sweeping.{IsToFinish, IsOver}
use Rattle.laws_acts.specs.Alike.{Alike}
use Rattle.laws_acts.proofs.Parts.{how_many_append}
use Rattle.core_refcounts.specs.Names.{Names, Counts, count_of, times_named, no_names}
use Rattle.core_store.specs.declared.store.Store.{Store}
use Rattle.core_store.specs.Holding.{state_of, all_named, IsFixed, IsTold, IsToldTo, IsThere}
use Rattle.core_step_sweeps.specs.Thinking.{IsLoose, IsLooseIf, IsToFinishIf, IsOverIf, IsLeft, is_of, never}
use Rattle.core_step_sweeps.proofs.Entries.{is_there, is_open}

none_such : (ns : List Node) → how_many never ns ≡ 0
none_such [] = refl
none_such (n ∷ ns) = none_such ns

-- Counts tell how many nodes are of the same thing.
pub counts_of : (c : Names) (ns : List Node) → Counts c ns → (n : Node) → times_named c n ≡ how_many (is_of n) ns
counts_of c ns h (node.Object o) = h.objects o.0
counts_of c ns h (node.Promise p) = h.promises p
counts_of c ns h (node.Field o path) = h.outcomes o
counts_of c ns h (node.Import e) = h.imports e.0
counts_of c ns h (node.Pipe q path) = h.questions q.0
counts_of c ns h (node.Broken reason) = sym (none_such ns)

pub counts_none : Counts no_names []
counts_none = record {
  promises = λ k. none_counted k;
  outcomes = λ k. none_counted k;
  imports = λ k. none_counted k;
  questions = λ k. none_counted k;
  objects = λ k. none_counted k;
}
  where
    none_counted : (k : ℕ) → count_of (let m : Map ℕ = map.empty in map.get m k) ≡ 0
    none_counted k = ap count_of (map.get-empty nat_cmp k)

-- ---- One thing

-- The node's thing stands in t as in s.
abbrev pub Same : State → State → Node → Type 0
Same s t (node.Object o) = Unit {0}
Same s t (node.Promise p) = map.get t.promises p ≡ map.get s.promises p
Same s t (node.Field o path) = map.get t.outcomes o ≡ map.get s.outcomes o
Same s t (node.Import e) = map.get t.imports e.0 ≡ map.get s.imports e.0
Same s t (node.Pipe q path) = map.get t.questions q.0 ≡ map.get s.questions q.0
Same s t (node.Broken reason) = Unit {0}

pub same_self : (s : State) (n : Node) → Same s s n
same_self s (node.Object o) = tt
same_self s (node.Promise p) = refl
same_self s (node.Field o path) = refl
same_self s (node.Import e) = refl
same_self s (node.Pipe q path) = refl
same_self s (node.Broken reason) = tt

pub same_left : (s t : State) (gone went : List Node) (asked : List QuestionId) → IsLeft s t gone went asked → (n : Node) → how_many (is_of n) gone ≡ 0 → Same s t n
same_left s t gone went asked h (node.Object o) fresh = tt
same_left s t gone went asked h (node.Promise p) fresh = is_there (how_many (is_promise p) gone) (map.get s.promises p) (map.get t.promises p) fresh (h.promises p)
same_left s t gone went asked h (node.Field o path) fresh = is_there (how_many (is_field o) gone) (map.get s.outcomes o) (map.get t.outcomes o) fresh (h.outcomes o)
same_left s t gone went asked h (node.Import e) fresh = is_there (how_many (is_import e.0) gone) (map.get s.imports e.0) (map.get t.imports e.0) fresh (h.imports e.0)
same_left s t gone went asked h (node.Pipe q path) fresh = is_open (how_many (is_pipe q.0) gone) (map.get s.questions q.0) (map.get t.questions q.0) fresh (h.questions q.0)
same_left s t gone went asked h (node.Broken reason) fresh = tt

pub done_like : (s t : State) → s.calls ≡ t.calls → s.answers ≡ t.answers → (o : ℕ) (who : Caller) → CallerIsDone s o who → CallerIsDone t o who
done_like s t calls answers o (caller.Application c) h = subst (λ (m : Map OwnCall). map.get m c.0 ≡ None) calls h
done_like s t calls answers o (caller.Peer q) h = subst (λ (m : Map AnswerEntry). AnswerIsOther o (map.get m q.0)) answers h

module _ (s t : State) (calls : t.calls ≡ s.calls) (answers : t.answers ≡ s.answers) (b : Bool) where
  promise_to : (p : ℕ) (o : Option Promise) → names t (is_promise p) ≡ 0 → IsFixed o → IsLoosePromise t p o
  promise_to p None none h = absurd h
  promise_to p (Some (promise.Open calls)) none h = absurd h
  promise_to p (Some (promise.Fixed to)) none h = none

  pub promise_from : (p : ℕ) (o : Option Promise) → IsLoosePromise t p o → IsFixed o × (names t (is_promise p) ≡ 0)
  promise_from p None h = absurd h
  promise_from p (Some (promise.Open calls)) h = absurd h
  promise_from p (Some (promise.Fixed to)) h = (tt, h)

  value_to : (o : ℕ) (x : KeptOutcome) (v : Option Value) → names t (is_field o) ≡ 0 → IsToldTo s o x v → IsLooseValue t o x v
  value_to o x None none h = absurd h
  value_to o x (Some v) none h = (h.0, done_like s t (sym calls) (sym answers) o x.caller h.1, none)

  outcome_to : (o : ℕ) (x : Option KeptOutcome) → names t (is_field o) ≡ 0 → IsTold s o x → IsLooseOutcome t o x
  outcome_to o None none h = absurd h
  outcome_to o (Some x) none h = value_to o x x.value none h

  value_from : (o : ℕ) (x : KeptOutcome) (v : Option Value) → IsLooseValue t o x v → IsToldTo s o x v × (names t (is_field o) ≡ 0)
  value_from o x None h = absurd h
  value_from o x (Some v) h = ((h.0, done_like t s calls answers o x.caller h.1), h.2)

  pub outcome_from : (o : ℕ) (x : Option KeptOutcome) → IsLooseOutcome t o x → IsTold s o x × (names t (is_field o) ≡ 0)
  outcome_from o None h = absurd h
  outcome_from o (Some x) h = value_from o x x.value h

  import_to : (e : ℕ) (o : Option Import) → names t (is_import e) ≡ 0 → IsThere o → IsLooseImport t e o
  import_to e None none h = absurd h
  import_to e (Some x) none h = none

  pub import_from : (e : ℕ) (o : Option Import) → IsLooseImport t e o → IsThere o × (names t (is_import e) ≡ 0)
  import_from e None h = absurd h
  import_from e (Some x) h = (tt, h)

  over_to : (q : ℕ) (x : Question) (r : Role) → (b ≡ true → names t (is_pipe q) ≡ 0) → IsOverIf s b x r → IsOver t q x r
  over_to q x (role.Relay o) none h = h
  over_to q x (role.Direct c) none h = (subst (λ (m : Map OwnCall). map.get m c.0 ≡ None) (sym calls) h.0, none h.1)

  over_from : (q : ℕ) (x : Question) (r : Role) → (names t (is_pipe q) ≡ 0 → b ≡ true) → IsOver t q x r → IsOverIf s b x r
  over_from q x (role.Relay o) says h = h
  over_from q x (role.Direct c) says h = (subst (λ (m : Map OwnCall). map.get m c.0 ≡ None) calls h.0, says h.1)

  finish_to : (q : ℕ) (o : Option Question) → (b ≡ true → names t (is_pipe q) ≡ 0) → IsToFinishIf s b o → IsToFinish t q o
  finish_to q None none h = absurd h
  finish_to q (Some x) none h = (h.0, over_to q x x.role none h.1)

  finish_from : (q : ℕ) (o : Option Question) → (names t (is_pipe q) ≡ 0 → b ≡ true) → IsToFinish t q o → IsToFinishIf s b o
  finish_from q None says h = absurd h
  finish_from q (Some x) says h = (h.0, over_from q x x.role says h.1)

  pub loose_to : (n : Node) → Same s t n → (b ≡ true → names t (is_of n) ≡ 0) → IsLooseIf s b n → IsLoose t n
  loose_to (node.Object o) same none h = absurd h
  loose_to (node.Promise p) same none h = subst (λ (o : Option Promise). IsLoosePromise t p o) (sym same) (promise_to p (map.get s.promises p) (none h.1) h.0)
  loose_to (node.Field o path) same none h = subst (λ (x : Option KeptOutcome). IsLooseOutcome t o x) (sym same) (outcome_to o (map.get s.outcomes o) (none h.1) h.0)
  loose_to (node.Import e) same none h = subst (λ (o : Option Import). IsLooseImport t e.0 o) (sym same) (import_to e.0 (map.get s.imports e.0) (none h.1) h.0)
  loose_to (node.Pipe q path) same none h = subst (λ (o : Option Question). IsToFinish t q.0 o) (sym same) (finish_to q.0 (map.get s.questions q.0) none h)
  loose_to (node.Broken reason) same none h = absurd h

  pub loose_from : (n : Node) → Same s t n → (names t (is_of n) ≡ 0 → b ≡ true) → IsLoose t n → IsLooseIf s b n
  loose_from (node.Object o) same says h = absurd h
  loose_from (node.Promise p) same says h = let k = promise_from p (map.get s.promises p) (subst (λ (o : Option Promise). IsLoosePromise t p o) same h) in (k.0, says k.1)
  loose_from (node.Field o path) same says h = let k = outcome_from o (map.get s.outcomes o) (subst (λ (x : Option KeptOutcome). IsLooseOutcome t o x) same h) in (k.0, says k.1)
  loose_from (node.Import e) same says h = let k = import_from e.0 (map.get s.imports e.0) (subst (λ (o : Option Import). IsLooseImport t e.0 o) same h) in (k.0, says k.1)
  loose_from (node.Pipe q path) same says h = finish_from q.0 (map.get s.questions q.0) says (subst (λ (o : Option Question). IsToFinish t q.0 o) same h)
  loose_from (node.Broken reason) same says h = absurd h

-- ---- By the counts

pub equal_to : (a c m : ℕ) → a ≡ c + m → (a == c) ≡ true → m ≡ 0
equal_to a c m e h = grind (arith, e, h)

pub equal_from : (a c m : ℕ) → a ≡ c + m → m ≡ 0 → (a == c) ≡ true
equal_from a c m e h = grind (arith, e, h)

-- Where none was taken out, the counts are those of the places.
pub counts_places : (x : Store) → Counts x.names (all_named x) → x.waits.taken ≡ [] → Counts x.names (places (state_of x))
counts_places x h none = subst (λ (w : List HeldCall). Counts x.names (named_by_held w ++ places (state_of x))) none h

module _ (x : Store) (counted : Counts x.names (all_named x)) (none : x.waits.taken ≡ []) where
  abbrev s : State
  s = state_of x

  -- In what is left, places that went name no more.
  module _ (t : State) (calls : t.calls ≡ s.calls) (answers : t.answers ≡ s.answers) (went : List Node) (alike : Alike (places s) (went ++ places t)) (less : Names) (fewer : Counts less went) (n : Node) (same : Same s t n) where
    sum : times_named x.names n ≡ times_named less n + names t (is_of n)
    sum =
        let a = counts_of x.names (places s) (counts_places x counted none) n in
        let b = counts_of less went fewer n in
        let c = alike (is_of n) in
        let d = how_many_append (is_of n) went (places t) in
        omega (arith, a, b, c, d)

    pub is_loose_to : IsLooseIf s (times_named x.names n == times_named less n) n → IsLoose t n
    is_loose_to h = loose_to s t calls answers (times_named x.names n == times_named less n) n same (λ e. equal_to (times_named x.names n) (times_named less n) (names t (is_of n)) sum e) h

    pub is_loose_from : IsLoose t n → IsLooseIf s (times_named x.names n == times_named less n) n
    is_loose_from h = loose_from s t calls answers (times_named x.names n == times_named less n) n same (λ e. equal_from (times_named x.names n) (times_named less n) (names t (is_of n)) sum e) h

  -- Nothing went.
  module _ (less : Names) (fewer : less ≡ no_names) (n : Node) where
    pub is_loose_now : IsLooseIf s (times_named x.names n == times_named less n) n → IsLoose s n
    is_loose_now h = is_loose_to s refl refl [] (λ test. refl) less (subst (λ (c : Names). Counts c []) (sym fewer) counts_none) n (same_self s n) h

    pub was_loose : IsLoose s n → IsLooseIf s (times_named x.names n == times_named less n) n
    was_loose h = is_loose_from s refl refl [] (λ test. refl) less (subst (λ (c : Names). Counts c []) (sym fewer) counts_none) n (same_self s n) h
