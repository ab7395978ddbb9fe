-- What is loose stays among what is looked at.
use Rattle.std.proofs.Common.{◌≡◌, ◌≢◌, ◌⊎◌, inl, inr, ℕ, suc, ◌<◌, Bool, true, false, cond, List, [], ◌∷◌, ◌++◌, Option, None, Some, refl, subst, arith}
use Rattle.std.specs.FinMap as map
use Rattle.finite_maps.specs.Tally.{Map}
use Rattle.finite_maps.proofs.Gets.{at_each, get-insert_same, get-insert_other, get-remove_same, get-remove_other}
use Rattle.rpc_msg.specs.declared.ids.ExportId.{ExportId}
use Rattle.rpc_msg.specs.declared.ids.QuestionId.{QuestionId}
use Rattle.rpc_msg.specs.Op.{Op}
use Rattle.rpc_machine.specs.declared.node.Node.{Node}
use Rattle.rpc_machine.specs.declared.node.Node.TheVariants as node
use Rattle.rpc_machine.specs.declared.calls.Promise.{Promise}
use Rattle.rpc_machine.specs.declared.calls.OwnCall.{OwnCall}
use Rattle.rpc_machine.specs.declared.calls.KeptOutcome.{KeptOutcome}
use Rattle.rpc_machine.specs.declared.entries.Import.{Import}
use Rattle.rpc_machine.specs.declared.entries.Question.{Question}
use Rattle.rpc_machine.specs.declared.entries.Returned.{Returned}
use Rattle.rpc_machine.specs.declared.entries.Finishing.TheVariants as finishing
use Rattle.rpc_machine.specs.State.{State}
use Rattle.rpc_machine.specs.Lists.{how_many}
use Rattle.rpc_machine.specs.Nodes.{is_promise, is_field, is_import, is_pipe}
use Rattle.rpc_machine.specs.Places.{places}
use Rattle.rpc_machine.specs.Collecting.{IsLoosePromise, IsLooseOutcome, IsLooseImport}
use Rattle.rpc_machine.specs.Sweeping.{IsToFinish, IsOver, closed_map}
use Rattle.laws_acts.specs.Alike.{Alike}
use Rattle.laws_acts.proofs.Parts.{how_many_append}
use Rattle.laws_acts.proofs.Loose.{loose_by_names}
use Rattle.core_step_sweeps.specs.Thinking.{IsLoose, IsLeft, Covers, without, without_question, is_of, IsFinished}
use Rattle.core_step_sweeps.proofs.Entries.{one_key, is_gone, is_finished}
use Rattle.core_step_sweeps.proofs.Looking.{done_like}
use Rattle.core_refcounts.proofs.Counting.{other_key}

-- ---- One node is looked at

apart : {A : Type 0} → false ≡ true → A
apart e = absurd (let g : false ≡ true = e in cc)

-- Two nodes of one thing are loose alike.
same_thing : (t : State) (m n : Node) → is_of m n ≡ true → IsLoose t m → IsLoose t n
same_thing t (node.Object o) n e h = absurd h
same_thing t (node.Promise k) (node.Object o) e h = apart e
same_thing t (node.Promise k) (node.Promise p) e h = subst (λ j. IsLoosePromise t j (map.get t.promises j)) (one_key p k e) h
same_thing t (node.Promise k) (node.Field o path) e h = apart e
same_thing t (node.Promise k) (node.Import i) e h = apart e
same_thing t (node.Promise k) (node.Pipe q path) e h = apart e
same_thing t (node.Promise k) (node.Broken reason) e h = apart e
same_thing t (node.Field k p) (node.Object o) e h = apart e
same_thing t (node.Field k p) (node.Promise o) e h = apart e
same_thing t (node.Field k p) (node.Field o path) e h = subst (λ j. IsLooseOutcome t j (map.get t.outcomes j)) (one_key o k e) h
same_thing t (node.Field k p) (node.Import i) e h = apart e
same_thing t (node.Field k p) (node.Pipe q path) e h = apart e
same_thing t (node.Field k p) (node.Broken reason) e h = apart e
same_thing t (node.Import k) (node.Object o) e h = apart e
same_thing t (node.Import k) (node.Promise o) e h = apart e
same_thing t (node.Import k) (node.Field o path) e h = apart e
same_thing t (node.Import k) (node.Import i) e h = subst (λ j. IsLooseImport t j (map.get t.imports j)) (one_key i.0 k.0 e) h
same_thing t (node.Import k) (node.Pipe q path) e h = apart e
same_thing t (node.Import k) (node.Broken reason) e h = apart e
same_thing t (node.Pipe k p) (node.Object o) e h = apart e
same_thing t (node.Pipe k p) (node.Promise o) e h = apart e
same_thing t (node.Pipe k p) (node.Field o path) e h = apart e
same_thing t (node.Pipe k p) (node.Import i) e h = apart e
same_thing t (node.Pipe k p) (node.Pipe q path) e h = subst (λ j. IsToFinish t j (map.get t.questions j)) (one_key q.0 k.0 e) h
same_thing t (node.Pipe k p) (node.Broken reason) e h = apart e
same_thing t (node.Broken reason) n e h = absurd h

-- One that is not loose is looked at no more.
pub covers_less : (t : State) (n : Node) (rest : List Node) → ¬ (IsLoose t n) → Covers t (n ∷ rest) → Covers t rest
covers_less t n rest firm h = λ m loose. by m loose (is_of m n) refl (h m loose)
  where
    by : (m : Node) → IsLoose t m → (b : Bool) → is_of m n ≡ b → 0 < cond b (suc (how_many (is_of m) rest)) (how_many (is_of m) rest) → 0 < how_many (is_of m) rest
    by m loose true e g = absurd (firm (same_thing t m n e loose))
    by m loose false e g = g

-- What went is not loose.
pub gone_firm : (s t : State) (gone went : List Node) (asked : List QuestionId) → IsLeft s t gone went asked → (n : Node) → 0 < how_many (is_of n) gone → ¬ (IsLoose t n)
gone_firm s t gone went asked h (node.Object o) some = λ loose. loose
gone_firm s t gone went asked h (node.Promise p) some =
    λ loose. subst (λ (o : Option Promise). IsLoosePromise t p o) (is_gone (how_many (is_promise p) gone) (map.get s.promises p) (map.get t.promises p) some (h.promises p)) loose
gone_firm s t gone went asked h (node.Field o path) some =
    λ loose. subst (λ (x : Option KeptOutcome). IsLooseOutcome t o x) (is_gone (how_many (is_field o) gone) (map.get s.outcomes o) (map.get t.outcomes o) some (h.outcomes o)) loose
gone_firm s t gone went asked h (node.Import e) some =
    λ loose. subst (λ (o : Option Import). IsLooseImport t e.0 o) (is_gone (how_many (is_import e.0) gone) (map.get s.imports e.0) (map.get t.imports e.0) some (h.imports e.0)) loose
gone_firm s t gone went asked h (node.Pipe q path) some = at (map.get t.questions q.0) (is_finished (how_many (is_pipe q.0) gone) (map.get s.questions q.0) (map.get t.questions q.0) some (h.questions q.0))
  where
    at : (o : Option Question) → IsFinished o → ¬ (IsToFinish t q.0 o)
    at None sent = λ loose. loose
    at (Some x) sent = λ loose. sent loose.0
gone_firm s t gone went asked h (node.Broken reason) some = λ loose. loose

-- ---- One thing goes

abbrev Still : State → Node → List Node → Node → Type 0
Still t n said m = ((is_of m n ≡ false) × IsLoose t m) ⊎ (0 < how_many (is_of m) said)

pub covers_more : (t u : State) (n : Node) (said rest : List Node) → ((m : Node) → IsLoose u m → Still t n said m) → Covers t (n ∷ rest) → Covers u (rest ++ said)
covers_more t u n said rest still h = λ m loose. by m (still m loose)
  where
    by : (m : Node) → Still t n said m → 0 < how_many (is_of m) (rest ++ said)
    by m (inl k) =
        let a : 0 < how_many (is_of m) rest = subst (λ b. 0 < cond b (suc (how_many (is_of m) rest)) (how_many (is_of m) rest)) k.0 (h m k.1) in
        let b = how_many_append (is_of m) rest said in
        omega (arith, a, b)
    by m (inr some) = let b = how_many_append (is_of m) rest said in omega (arith, some, b)

beside : (t : State) (n : Node) (said : List Node) (m : Node) → is_of m n ≡ false → IsLoose t m ⊎ (0 < how_many (is_of m) said) → Still t n said m
beside t n said m e (inl loose) = inl (e, loose)
beside t n said m e (inr some) = inr some

-- By the names alone.
module _ (t u : State) (said : List Node) (alike : Alike (places t) (said ++ places u)) (calls : u.calls ≡ t.calls) (answers : u.answers ≡ t.answers) where
  promise_still : (k : ℕ) (o : Option Promise) → IsLoosePromise u k o → IsLoosePromise t k o ⊎ (0 < how_many (is_promise k) said)
  promise_still k o h = loose_by_names.promises t u [] said alike k o h

  outcome_still : (k : ℕ) (o : Option KeptOutcome) → IsLooseOutcome u k o → IsLooseOutcome t k o ⊎ (0 < how_many (is_field k) said)
  outcome_still k o h = loose_by_names.outcomes t u [] said alike k o (done_like u t calls answers k) h

  import_still : (k : ℕ) (o : Option Import) → IsLooseImport u k o → IsLooseImport t k o ⊎ (0 < how_many (is_import k) said)
  import_still k o h = loose_by_names.imports t u [] said alike k o h

  question_still : (k : ℕ) (o : Option Question) → IsToFinish u k o → IsToFinish t k o ⊎ (0 < how_many (is_pipe k) said)
  question_still k None h = absurd h
  question_still k (Some x) h = by (loose_by_names.questions t u [] said alike k x x.role (λ c e. subst (λ (m : Map OwnCall). map.get m c ≡ None) calls e) h.1)
    where
      by : IsOver t k x x.role ⊎ (0 < how_many (is_pipe k) said) → IsToFinish t k (Some x) ⊎ (0 < how_many (is_pipe k) said)
      by (inl over) = inl (h.0, over)
      by (inr some) = inr some

module _ (t : State) (said : List Node) where
  promise_leaves : (p : ℕ) → Alike (places t) (said ++ places (record t { promises = map.remove t.promises p })) → (m : Node) → IsLoose (record t { promises = map.remove t.promises p }) m → Still t (node.Promise p) said m
  promise_leaves p alike (node.Object o) h = absurd h
  promise_leaves p alike (node.Promise k) h =
      let u : State = record t { promises = map.remove t.promises p } in
      at_each (λ k. IsLoosePromise u k (map.get u.promises k) → Still t (node.Promise p) said (node.Promise k)) p
      (λ loose. absurd (subst (λ (o : Option Promise). IsLoosePromise u p o) (get-remove_same t.promises p) loose))
      (λ k far loose. beside t (node.Promise p) said (node.Promise k) (other_key k p far) (promise_still t u said alike refl refl k (map.get t.promises k) (subst (λ (o : Option Promise). IsLoosePromise u k o) (get-remove_other t.promises p k far) loose)))
      k h
  promise_leaves p alike (node.Field o path) h = beside t (node.Promise p) said (node.Field o path) refl (outcome_still t (record t { promises = map.remove t.promises p }) said alike refl refl o (map.get t.outcomes o) h)
  promise_leaves p alike (node.Import e) h = beside t (node.Promise p) said (node.Import e) refl (import_still t (record t { promises = map.remove t.promises p }) said alike refl refl e.0 (map.get t.imports e.0) h)
  promise_leaves p alike (node.Pipe q path) h = beside t (node.Promise p) said (node.Pipe q path) refl (question_still t (record t { promises = map.remove t.promises p }) said alike refl refl q.0 (map.get t.questions q.0) h)
  promise_leaves p alike (node.Broken reason) h = absurd h

  outcome_leaves : (p : ℕ) (at : List Op) → Alike (places t) (said ++ places (record t { outcomes = map.remove t.outcomes p })) → (m : Node) → IsLoose (record t { outcomes = map.remove t.outcomes p }) m → Still t (node.Field p at) said m
  outcome_leaves p at alike (node.Object o) h = absurd h
  outcome_leaves p at alike (node.Promise k) h = beside t (node.Field p at) said (node.Promise k) refl (promise_still t (record t { outcomes = map.remove t.outcomes p }) said alike refl refl k (map.get t.promises k) h)
  outcome_leaves p at alike (node.Field o path) h =
      let u : State = record t { outcomes = map.remove t.outcomes p } in
      at_each (λ k. IsLooseOutcome u k (map.get u.outcomes k) → Still t (node.Field p at) said (node.Field k path)) p
      (λ loose. absurd (subst (λ (x : Option KeptOutcome). IsLooseOutcome u p x) (get-remove_same t.outcomes p) loose))
      (λ k far loose. beside t (node.Field p at) said (node.Field k path) (other_key k p far) (outcome_still t u said alike refl refl k (map.get t.outcomes k) (subst (λ (x : Option KeptOutcome). IsLooseOutcome u k x) (get-remove_other t.outcomes p k far) loose)))
      o h
  outcome_leaves p at alike (node.Import e) h = beside t (node.Field p at) said (node.Import e) refl (import_still t (record t { outcomes = map.remove t.outcomes p }) said alike refl refl e.0 (map.get t.imports e.0) h)
  outcome_leaves p at alike (node.Pipe q path) h = beside t (node.Field p at) said (node.Pipe q path) refl (question_still t (record t { outcomes = map.remove t.outcomes p }) said alike refl refl q.0 (map.get t.questions q.0) h)
  outcome_leaves p at alike (node.Broken reason) h = absurd h

  import_leaves : (i : ExportId) → Alike (places t) (said ++ places (record t { imports = map.remove t.imports i.0 })) → (m : Node) → IsLoose (record t { imports = map.remove t.imports i.0 }) m → Still t (node.Import i) said m
  import_leaves i alike (node.Object o) h = absurd h
  import_leaves i alike (node.Promise k) h = beside t (node.Import i) said (node.Promise k) refl (promise_still t (record t { imports = map.remove t.imports i.0 }) said alike refl refl k (map.get t.promises k) h)
  import_leaves i alike (node.Field o path) h = beside t (node.Import i) said (node.Field o path) refl (outcome_still t (record t { imports = map.remove t.imports i.0 }) said alike refl refl o (map.get t.outcomes o) h)
  import_leaves i alike (node.Import e) h =
      let u : State = record t { imports = map.remove t.imports i.0 } in
      at_each (λ k. IsLooseImport u k (map.get u.imports k) → Still t (node.Import i) said (node.Import (record { 0 = k }))) i.0
      (λ loose. absurd (subst (λ (o : Option Import). IsLooseImport u i.0 o) (get-remove_same t.imports i.0) loose))
      (λ k far loose. beside t (node.Import i) said (node.Import (record { 0 = k })) (other_key k i.0 far) (import_still t u said alike refl refl k (map.get t.imports k) (subst (λ (o : Option Import). IsLooseImport u k o) (get-remove_other t.imports i.0 k far) loose)))
      e.0 h
  import_leaves i alike (node.Pipe q path) h = beside t (node.Import i) said (node.Pipe q path) refl (question_still t (record t { imports = map.remove t.imports i.0 }) said alike refl refl q.0 (map.get t.questions q.0) h)
  import_leaves i alike (node.Broken reason) h = absurd h

  -- The entry of a question that is closed, and those of others.
  closed_here : (u : State) (q : ℕ) (x : Question) (r : Option Returned) → IsToFinish u q (map.get (closed_map t.questions q x r) q) → ⊥
  closed_here u q x None h = (subst (λ (o : Option Question). IsToFinish u q o) (get-insert_same t.questions q (record x { finish = finishing.Sent })) h).0
  closed_here u q x (Some said) h = subst (λ (o : Option Question). IsToFinish u q o) (get-remove_same t.questions q) h

  closed_other : (q : ℕ) (x : Question) (r : Option Returned) (k : ℕ) → k ≢ q → map.get (closed_map t.questions q x r) k ≡ map.get t.questions k
  closed_other q x None k far = get-insert_other t.questions q (record x { finish = finishing.Sent }) k far
  closed_other q x (Some said) k far = get-remove_other t.questions q k far

  question_leaves : (i : QuestionId) (at : List Op) (x : Question) → Alike (places t) (said ++ places (record t { questions = closed_map t.questions i.0 x x.returned })) → (m : Node) → IsLoose (record t { questions = closed_map t.questions i.0 x x.returned }) m
      → Still t (node.Pipe i at) said m
  question_leaves i at x alike (node.Object o) h = absurd h
  question_leaves i at x alike (node.Promise k) h = beside t (node.Pipe i at) said (node.Promise k) refl (promise_still t (record t { questions = closed_map t.questions i.0 x x.returned }) said alike refl refl k (map.get t.promises k) h)
  question_leaves i at x alike (node.Field o path) h = beside t (node.Pipe i at) said (node.Field o path) refl (outcome_still t (record t { questions = closed_map t.questions i.0 x x.returned }) said alike refl refl o (map.get t.outcomes o) h)
  question_leaves i at x alike (node.Import e) h = beside t (node.Pipe i at) said (node.Import e) refl (import_still t (record t { questions = closed_map t.questions i.0 x x.returned }) said alike refl refl e.0 (map.get t.imports e.0) h)
  question_leaves i at x alike (node.Pipe q path) h =
      let u : State = record t { questions = closed_map t.questions i.0 x x.returned } in
      at_each (λ k. IsToFinish u k (map.get u.questions k) → Still t (node.Pipe i at) said (node.Pipe (record { 0 = k }) path)) i.0
      (λ loose. absurd (closed_here u i.0 x x.returned loose))
      (λ k far loose. beside t (node.Pipe i at) said (node.Pipe (record { 0 = k }) path) (other_key k i.0 far) (question_still t u said alike refl refl k (map.get t.questions k) (subst (λ (o : Option Question). IsToFinish u k o) (closed_other i.0 x x.returned k far) loose)))
      q.0 h
  question_leaves i at x alike (node.Broken reason) h = absurd h

  question_by : (i : QuestionId) (at : List Op) (o : Option Question) → IsToFinish t i.0 o → Alike (places t) (said ++ places (without_question t i.0 o)) → (m : Node) → IsLoose (without_question t i.0 o) m → Still t (node.Pipe i at) said m
  question_by i at None loose = absurd loose
  question_by i at (Some x) loose = question_leaves i at x

  pub thing_leaves : (n : Node) → IsLoose t n → Alike (places t) (said ++ places (without t n)) → (m : Node) → IsLoose (without t n) m → Still t n said m
  thing_leaves (node.Object o) loose = absurd loose
  thing_leaves (node.Promise p) loose = promise_leaves p
  thing_leaves (node.Field o path) loose = outcome_leaves o path
  thing_leaves (node.Import i) loose = import_leaves i
  thing_leaves (node.Pipe q path) loose = question_by q path (map.get t.questions q.0) loose
  thing_leaves (node.Broken reason) loose = absurd loose
