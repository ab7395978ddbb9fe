-- What is left of a state from which things went: each place was one before. What went from the one is not in the other
-- where nothing is left that would go.
use Rattle.std.proofs.Common.{◌≡◌, ◌⊎◌, inl, inr, ℕ, ◌-◌, Bool, true, false, cond, nat_eq, nat_le, List, [], ◌∷◌, Option, None, Some, refl, sym, ap, subst, ◌∙◌}
use Rattle.std.specs.FinMap as map
use Rattle.finite_maps.specs.Tally.{Map}
use Rattle.laws_acts.specs.rpc_machine.specs.declared.node.Node.{Node}
use Rattle.laws_acts.specs.rpc_machine.specs.declared.calls.Promise.{Promise}
use Rattle.laws_acts.specs.rpc_machine.specs.declared.calls.Promise.TheVariants as promise
use Rattle.laws_acts.specs.rpc_machine.specs.declared.calls.Value.{Value}
use Rattle.laws_acts.specs.rpc_machine.specs.declared.calls.KeptOutcome.{KeptOutcome}
use Rattle.laws_acts.specs.rpc_machine.specs.declared.calls.Caller.{Caller}
use Rattle.laws_acts.specs.rpc_machine.specs.declared.calls.Caller.TheVariants as caller
use Rattle.laws_acts.specs.rpc_machine.specs.declared.calls.OwnCall.{OwnCall}
use Rattle.laws_acts.specs.rpc_machine.specs.declared.entries.Finishing.TheVariants as finishing
use Rattle.laws_acts.specs.rpc_machine.specs.declared.entries.Returned.{Returned}
use Rattle.laws_acts.specs.rpc_machine.specs.declared.entries.AnswerEntry.{AnswerEntry}
use Rattle.laws_acts.specs.rpc_machine.specs.declared.entries.Question.{Question}
use Rattle.laws_acts.specs.rpc_machine.specs.declared.entries.Import.{Import}
use Rattle.laws_acts.specs.rpc_machine.specs.declared.entries.Resolution.{Resolution}
use Rattle.laws_acts.specs.rpc_machine.specs.State.{State}
use Rattle.laws_acts.specs.rpc_machine.specs.Lists.{of_map}
use Rattle.laws_acts.specs.rpc_machine.specs.Places.{named_by_reference, named_by_embargo, named_by_promise, named_by_outcome, named_by_returned, named_by_question, named_by_resolution, named_by_import, named_by_export, named_by_answer, places, names}
use Rattle.laws_acts.specs.rpc_machine.specs.Progress.{Progress}
use Rattle.laws_acts.specs.rpc_machine.specs.Advancing.{resolution_of}
use Rattle.laws_acts.specs.rpc_machine.specs.Collecting.{IsLoosePromise, AnswerIsOther, CallerIsDone, IsLooseValue, IsLooseOutcome, IsLooseImport, Goes, PromiseGoes, OutcomeGoes, ImportGoes, IsTight, Collects, Tight, Loose}
use Rattle.laws_acts.specs.rpc_machine.specs.Flags.{give_one, give_each, give_if}
use Rattle.laws_acts.specs.rpc_machine.specs.Sweeping.{closed_map, closed}
use Rattle.laws_steps.specs.Settled.{IsAmong}
use Rattle.finite_maps.proofs.Tested.{equal, get_left}
use Rattle.laws_steps.proofs.Among.{none_among, none_counted, named, by_entry, where_named, in_refs, in_embargoes, in_promises, in_outcomes, in_questions, in_imports, in_exports, in_answers}
use Rattle.laws_steps.proofs.NamedNodes.{at_put, at_cut}
use Rattle.laws_acts.proofs.Pieces.{tight_then}

-- Each entry was there before.
abbrev pub Left : {X : Type 0} → Map X → Map X → Type 0
Left {X} m n = (k : ℕ) (x : X) → map.get n k ≡ Some x → map.get m k ≡ Some x

abbrev ImportOf : Option Import → Import → Type 0
ImportOf o x = (y : Import) × (o ≡ Some y) × (y.resolution ≡ x.resolution)

-- The count may be another one.
abbrev pub LeftImports : Map Import → Map Import → Type 0
LeftImports m n = (k : ℕ) (x : Import) → map.get n k ≡ Some x → ImportOf (map.get m k) x

-- It was removed, or waits for its Return alone.
abbrev pub IsClosed : Option Question → Type 0
IsClosed None = Unit {0}
IsClosed (Some x) = (x.returned ≡ None) × (x.finish ≡ finishing.Sent)

abbrev pub LeftQuestions : Map Question → Map Question → Type 0
LeftQuestions m n = (k : ℕ) → (map.get n k ≡ map.get m k) ⊎ IsClosed (map.get n k)

pub record Below (s t : State) : Type 0 where
  pub refs : t.refs ≡ s.refs
  pub embargoes : t.embargoes ≡ s.embargoes
  pub exports : t.exports ≡ s.exports
  pub answers : t.answers ≡ s.answers
  pub calls : t.calls ≡ s.calls
  pub promises : Left s.promises t.promises
  pub outcomes : Left s.outcomes t.outcomes
  pub imports : LeftImports s.imports t.imports
  pub questions : LeftQuestions s.questions t.questions

-- ---- Each place was one before

module _ (s t : State) (b : Below s t) (n : Node) where
  same_part : {X : Type 0} (f : ℕ → X → List Node) (m o : Map X) → o ≡ m → IsAmong n (of_map f o) → IsAmong n (of_map f m)
  same_part {X} f m o e i = subst (λ (x : Map X). IsAmong n (of_map f x)) e i

  left_part : {X : Type 0} (f : ℕ → X → List Node) (m o : Map X) → Left m o → IsAmong n (of_map f o) → IsAmong n (of_map f m)
  left_part f m o l i =
      let r = by_entry f n o i in
      let k = r.0 in
      let x = r.1 in
      let e = r.2 in
      named f k x n m (l k x e) r.3

  import_part : IsAmong n (of_map named_by_import t.imports) → IsAmong n (of_map named_by_import s.imports)
  import_part i =
      let r = by_entry named_by_import n t.imports i in
      let k = r.0 in
      let x : Import = r.1 in
      let e = r.2 in
      let g = b.imports k x e in
      named named_by_import k g.0 n s.imports g.1 (subst (λ (o : Option Resolution). IsAmong n (named_by_resolution o)) (sym g.2) r.3)

  question_part : IsAmong n (of_map named_by_question t.questions) → IsAmong n (of_map named_by_question s.questions)
  question_part i =
      let r = by_entry named_by_question n t.questions i in
      by r.0 r.1 r.2 r.3 (b.questions r.0)
    where
      by : (k : ℕ) (x : Question) → map.get t.questions k ≡ Some x → IsAmong n (named_by_question k x) → (map.get t.questions k ≡ map.get s.questions k) ⊎ IsClosed (map.get t.questions k) → IsAmong n (of_map named_by_question s.questions)
      by k x e j (inl g) = named named_by_question k x n s.questions (sym g ∙ e) j
      by k x e j (inr c) =
          let d : IsClosed (Some x) = subst IsClosed e c in
          absurd (subst (λ (o : Option Returned). IsAmong n (named_by_returned o)) d.0 j)

  pub places_below : IsAmong n (places t) → IsAmong n (places s)
  places_below i =
      where_named t n
      (λ j. in_refs s n (same_part named_by_reference s.refs t.refs b.refs j))
      (λ j. in_embargoes s n (same_part named_by_embargo s.embargoes t.embargoes b.embargoes j))
      (λ j. in_promises s n (left_part named_by_promise s.promises t.promises b.promises j))
      (λ j. in_outcomes s n (left_part named_by_outcome s.outcomes t.outcomes b.outcomes j))
      (λ j. in_questions s n (question_part j))
      (λ j. in_imports s n (import_part j))
      (λ j. in_exports s n (same_part named_by_export s.exports t.exports b.exports j))
      (λ j. in_answers s n (same_part named_by_answer s.answers t.answers b.answers j))
      i

pub none_below : (s t : State) → Below s t → (test : Node → Bool) → names s test ≡ 0 → names t test ≡ 0
none_below s t b test z = none_counted test (places t) (λ n i. none_among test (places s) z n (places_below s t b n i))

-- ---- Steps down

left_same : {X : Type 0} (m : Map X) → Left m m
left_same m k x e = e

imports_same : (m : Map Import) → LeftImports m m
imports_same m k x e = (x, e, refl)

pub below_same : (s : State) → Below s s
below_same s = record { refs = refl; embargoes = refl; exports = refl; answers = refl; calls = refl; promises = left_same s.promises; outcomes = left_same s.outcomes; imports = imports_same s.imports; questions = λ k. inl refl }

imports_then : (m n o : Map Import) → LeftImports m n → LeftImports n o → LeftImports m o
imports_then m n o h g k x e =
    let a = g k x e in
    let c = h k a.0 a.1 in
    (c.0, c.1, c.2 ∙ a.2)

questions_then : (m n o : Map Question) → LeftQuestions m n → LeftQuestions n o → LeftQuestions m o
questions_then m n o h g k = by (g k) (h k)
  where
    by : (map.get o k ≡ map.get n k) ⊎ IsClosed (map.get o k) → (map.get n k ≡ map.get m k) ⊎ IsClosed (map.get n k) → (map.get o k ≡ map.get m k) ⊎ IsClosed (map.get o k)
    by (inr c) x = inr c
    by (inl e) (inl f) = inl (e ∙ f)
    by (inl e) (inr c) = inr (subst IsClosed (sym e) c)

pub below_then : (s t u : State) → Below s t → Below t u → Below s u
below_then s t u a b = record {
  refs = b.refs ∙ a.refs;
  embargoes = b.embargoes ∙ a.embargoes;
  exports = b.exports ∙ a.exports;
  answers = b.answers ∙ a.answers;
  calls = b.calls ∙ a.calls;
  promises = λ k x e. a.promises k x (b.promises k x e);
  outcomes = λ k x e. a.outcomes k x (b.outcomes k x e);
  imports = imports_then s.imports t.imports u.imports a.imports b.imports;
  questions = questions_then s.questions t.questions u.questions a.questions b.questions;
}

nothing_there : {X : Type 0} (x : X) → ◌≡◌ {A = Option X} None (Some x) → ⊥
nothing_there x e = cc

left_cut : {X : Type 0} (m : Map X) (k : ℕ) → Left m (map.remove m k)
left_cut {X} m k = at_cut (λ j o. (x : X) → o ≡ Some x → map.get m j ≡ Some x) m k (λ x e. absurd (nothing_there x e)) (λ j x e. e)

imports_cut : (m : Map Import) (k : ℕ) → LeftImports m (map.remove m k)
imports_cut m k = at_cut (λ j o. (x : Import) → o ≡ Some x → ImportOf (map.get m j) x) m k (λ x e. absurd (nothing_there x e)) (λ j x e. (x, e, refl))

pub goes_below : (d new : Progress) → Goes d new → Below d.state new.state
goes_below d new (PromiseGoes p h e) = rw e (let s = d.state in record { refs = refl; embargoes = refl; exports = refl; answers = refl; calls = refl; promises = left_cut s.promises p; outcomes = left_same s.outcomes; imports = imports_same s.imports; questions = λ k. inl refl })
goes_below d new (OutcomeGoes o h e) = rw e (let s = d.state in record { refs = refl; embargoes = refl; exports = refl; answers = refl; calls = refl; promises = left_same s.promises; outcomes = left_cut s.outcomes o; imports = imports_same s.imports; questions = λ k. inl refl })
goes_below d new (ImportGoes i h e) = rw e (let s = d.state in record { refs = refl; embargoes = refl; exports = refl; answers = refl; calls = refl; promises = left_same s.promises; outcomes = left_same s.outcomes; imports = imports_cut s.imports i; questions = λ k. inl refl })

pub goes_questions : (d new : Progress) → Goes d new → new.state.questions ≡ d.state.questions
goes_questions d new (PromiseGoes p h e) = rw e refl
goes_questions d new (OutcomeGoes o h e) = rw e refl
goes_questions d new (ImportGoes i h e) = rw e refl

pub collects_below : (new d : Progress) → Collects new d → Below d.state new.state
collects_below new d (Tight h) = below_same d.state
collects_below new d (Loose {mid = mid} g rest) = below_then d.state mid.state new.state (goes_below d mid g) (collects_below new mid rest)

pub collects_questions : (new d : Progress) → Collects new d → new.state.questions ≡ d.state.questions
collects_questions new d (Tight h) = refl
collects_questions new d (Loose {mid = mid} g rest) = collects_questions new mid rest ∙ goes_questions d mid g

give_one_left : (m : Map Import) (e : ℕ) (o : Option Import) → map.get m e ≡ o → LeftImports m (give_one m e o)
give_one_left m e None f = imports_same m
give_one_left m e (Some x) f = by (nat_le x.count 1)
  where
    by : (b : Bool) → LeftImports m (cond b (map.remove m e) (map.insert m e (record x { count = x.count - 1 })))
    by true = imports_cut m e
    by false = at_put (λ j o. (y : Import) → o ≡ Some y → ImportOf (map.get m j) y) m e (record x { count = x.count - 1 }) (λ y g. (x, f, ap resolution_of g)) (λ j y g. (y, g, refl))

give_each_left : (m : Map Import) (es : List ℕ) → LeftImports m (give_each m es)
give_each_left m [] = imports_same m
give_each_left m (e ∷ es) = let n = give_one m e (map.get m e) in imports_then m n (give_each n es) (give_one_left m e (map.get m e) refl) (give_each_left n es)

pub gives_below : (s : State) (b : Bool) (ids : List ℕ) → Below s (give_if s b ids)
gives_below s false ids = below_same s
gives_below s true ids = record { refs = refl; embargoes = refl; exports = refl; answers = refl; calls = refl; promises = left_same s.promises; outcomes = left_same s.outcomes; imports = give_each_left s.imports ids; questions = λ k. inl refl }

pub closes_below : (s : State) (q : ℕ) (x : Question) → Below s (closed s q x)
closes_below s q x = record { refs = refl; embargoes = refl; exports = refl; answers = refl; calls = refl; promises = left_same s.promises; outcomes = left_same s.outcomes; imports = imports_same s.imports; questions = by x.returned refl }
  where
    by : (o : Option Returned) → x.returned ≡ o → LeftQuestions s.questions (closed_map s.questions q x o)
    by None e = at_put (λ j o. (o ≡ map.get s.questions j) ⊎ IsClosed o) s.questions q (record x { finish = finishing.Sent }) (inr (e, refl)) (λ j. inl refl)
    by (Some said) e = at_cut (λ j o. (o ≡ map.get s.questions j) ⊎ IsClosed o) s.questions q (inr tt) (λ j. inl refl)

-- ---- What goes is not below, where nothing is left that would

module _ (s t : State) (b : Below s t) (tight : IsTight t) where
  loose_promise : (p : ℕ) (o : Option Promise) → IsLoosePromise s p o → IsLoosePromise t p o
  loose_promise p None h = h
  loose_promise p (Some (promise.Open calls)) h = h
  loose_promise p (Some (promise.Fixed to)) h = none_below s t b _ h

  done_too : (o : ℕ) (who : Caller) → CallerIsDone s o who → CallerIsDone t o who
  done_too o (caller.Application c) h = ap (λ (m : Map OwnCall). map.get m c.0) b.calls ∙ h
  done_too o (caller.Peer q) h = subst (λ (m : Map AnswerEntry). AnswerIsOther o (map.get m q.0)) (sym b.answers) h

  loose_value : (o : ℕ) (x : KeptOutcome) (v : Option Value) → IsLooseValue s o x v → IsLooseValue t o x v
  loose_value o x None h = h
  loose_value o x (Some v) h = (h.0, done_too o x.caller h.1, none_below s t b _ h.2)

  still_left : {X : Type 0} (m n : Map X) (p : ℕ) → Left m n → ((x : X) → map.get n p ≡ Some x → ⊥) → Left (map.remove m p) n
  still_left m n p l never k x e = by (nat_eq k p) refl
    where
      by : (c : Bool) → nat_eq k p ≡ c → map.get (map.remove m p) k ≡ Some x
      by false g = get_left m p k g ∙ l k x e
      by true g = absurd (never x (ap (map.get n) (sym (equal k p g)) ∙ e))

  still_imports : (m n : Map Import) (p : ℕ) → LeftImports m n → ((x : Import) → map.get n p ≡ Some x → ⊥) → LeftImports (map.remove m p) n
  still_imports m n p l never k x e = by (nat_eq k p) refl
    where
      by : (c : Bool) → nat_eq k p ≡ c → ImportOf (map.get (map.remove m p) k) x
      by false g = subst (λ (o : Option Import). ImportOf o x) (sym (get_left m p k g)) (l k x e)
      by true g = absurd (never x (ap (map.get n) (sym (equal k p g)) ∙ e))

  no_promise : (p : ℕ) → IsLoosePromise s p (map.get s.promises p) → (x : Promise) → map.get t.promises p ≡ Some x → ⊥
  no_promise p h x e =
      let a : IsLoosePromise s p (Some x) = subst (IsLoosePromise s p) (b.promises p x e) h in
      tight.promises p (subst (IsLoosePromise t p) (sym e) (loose_promise p (Some x) a))

  no_outcome : (o : ℕ) → IsLooseOutcome s o (map.get s.outcomes o) → (x : KeptOutcome) → map.get t.outcomes o ≡ Some x → ⊥
  no_outcome o h x e =
      let a : IsLooseOutcome s o (Some x) = subst (IsLooseOutcome s o) (b.outcomes o x e) h in
      tight.outcomes o (subst (IsLooseOutcome t o) (sym e) (loose_value o x x.value a))

  no_import : (i : ℕ) → IsLooseImport s i (map.get s.imports i) → (x : Import) → map.get t.imports i ≡ Some x → ⊥
  no_import i h x e =
      let g = b.imports i x e in
      let a : IsLooseImport s i (Some g.0) = subst (IsLooseImport s i) g.1 h in
      tight.imports i (subst (IsLooseImport t i) (sym e) (none_below s t b _ a))

pub still_below : (d mid : Progress) (t : State) → Below d.state t → IsTight t → Goes d mid → Below mid.state t
still_below d mid t b tight (PromiseGoes p h e) = rw e (let s = d.state in record { refs = b.refs; embargoes = b.embargoes; exports = b.exports; answers = b.answers; calls = b.calls; promises = still_left s t b tight s.promises t.promises p b.promises (no_promise s t b tight p h); outcomes = b.outcomes; imports = b.imports; questions = b.questions })
still_below d mid t b tight (OutcomeGoes o h e) = rw e (let s = d.state in record { refs = b.refs; embargoes = b.embargoes; exports = b.exports; answers = b.answers; calls = b.calls; promises = b.promises; outcomes = still_left s t b tight s.outcomes t.outcomes o b.outcomes (no_outcome s t b tight o h); imports = b.imports; questions = b.questions })
still_below d mid t b tight (ImportGoes i h e) = rw e (let s = d.state in record { refs = b.refs; embargoes = b.embargoes; exports = b.exports; answers = b.answers; calls = b.calls; promises = b.promises; outcomes = b.outcomes; imports = still_imports s t b tight s.imports t.imports i b.imports (no_import s t b tight i h); questions = b.questions })
