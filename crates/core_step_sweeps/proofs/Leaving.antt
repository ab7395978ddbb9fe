-- What is left, once one thing more goes.
use Rattle.std.proofs.Common.{◌≡◌, ℕ, suc, ◌≤◌, cond, nat_eq, List, [], ◌∷◌, ◌++◌, Option, None, Some, refl, sym, ap, subst, ◌∙◌, arith}
use Rattle.std.specs.FinMap as map
use Rattle.rpc_msg.specs.declared.ids.ExportId.{ExportId}
use Rattle.rpc_msg.specs.declared.ids.QuestionId.{QuestionId}
use Rattle.rpc_msg.specs.Op.{Op}
use Rattle.rpc_machine.specs.declared.node.Node.{Node}
use Rattle.rpc_machine.specs.declared.node.Node.TheVariants as node
use Rattle.rpc_machine.specs.declared.calls.HeldCall.{HeldCall}
use Rattle.rpc_machine.specs.declared.calls.Promise.{Promise}
use Rattle.rpc_machine.specs.declared.calls.Promise.TheVariants as promise
use Rattle.rpc_machine.specs.declared.calls.Value.{Value}
use Rattle.rpc_machine.specs.declared.calls.KeptOutcome.{KeptOutcome}
use Rattle.rpc_machine.specs.declared.entries.Import.{Import}
use Rattle.rpc_machine.specs.declared.entries.Question.{Question}
use Rattle.rpc_machine.specs.declared.entries.Returned.{Returned}
use Rattle.rpc_machine.specs.declared.entries.Finishing.TheVariants as finishing
use Rattle.rpc_machine.specs.State.{State}
use Rattle.rpc_machine.specs.Lists.{how_many}
use Rattle.rpc_machine.specs.Nodes.{is_promise, is_field, is_import, is_pipe, promise_link, value_of}
use Rattle.rpc_machine.specs.Places.{places, names, named_by_value, named_by_held, named_by_outcome, named_by_import, named_by_returned, named_by_question}
use Rattle.rpc_machine.specs.Progress.{with_state}
use Rattle.rpc_machine.specs.Collecting.{IsLoosePromise, IsLooseOutcome, IsLooseValue, IsLooseImport, PromiseGoes, OutcomeGoes, ImportGoes, without_promise, without_outcome, without_import}
use Rattle.rpc_machine.specs.Sweeping.{IsToFinish, closed, closed_map, Thing, Asked}
use Rattle.laws_acts.specs.Alike.{Alike}
use Rattle.laws_acts.proofs.Parts.{how_many_append}
use Rattle.laws_acts.proofs.Likeness.{alike_without}
use Rattle.laws_acts.proofs.Tables.{tables}
use Rattle.core_step_sweeps.specs.Thinking.{IsLoose, IsLeft, without, without_question, named_by_thing, linked, said_by, returned_by, asked_by, is_of, is_id}
use Rattle.core_step_sweeps.proofs.Entries.{with_one_more, kept_without, kept_closed, picked_more, is_there, is_open}

-- ---- What goes from the places

none_waiting : (s : State) (o : ℕ) (x : KeptOutcome) (v : Option Value) → IsLooseValue s o x v → x.waiting ≡ []
none_waiting s o x None h = absurd h
none_waiting s o x (Some v) h = h.0

-- An outcome for which nothing waits names what its value does.
outcome_names : (o : ℕ) (x : KeptOutcome) → x.waiting ≡ [] → Alike (named_by_outcome o x) (named_by_value x.value)
outcome_names o x none = λ test.
    let a = how_many_append test (named_by_value x.value) (named_by_held x.waiting) in
    let b : how_many test (named_by_held x.waiting) ≡ 0 = ap (λ (w : List HeldCall). how_many test (named_by_held w)) none in
    omega (arith, a, b)

closes : (t : State) (q : ℕ) (x : Question) (r : Option Returned) → x.returned ≡ r → map.get t.questions q ≡ Some x → Alike (places t) (named_by_returned r ++ places (record t { questions = closed_map t.questions q x r }))
closes t q x None is there =
    let y : Question = record x { finish = finishing.Sent } in
    alike_without (named_by_question q y) (places t) (places (record t { questions = map.insert t.questions q y })) (tables.questions.changes t q x y there)
closes t q x (Some said) is there =
    subst (λ (r : Option Returned). Alike (places t) (named_by_returned r ++ places (record t { questions = map.remove t.questions q }))) is (tables.questions.goes t q x there)

-- ---- One thing goes

module _ (s t : State) (gone went : List Node) (asked : List QuestionId) (h : IsLeft s t gone went asked) where
  alike_more : (u : State) (named said : List Node) → Alike (places t) (named ++ places u) → Alike named said → Alike (places s) ((said ++ went) ++ places u)
  alike_more u named said goes same = λ test.
      let a = h.alike test in
      let a1 = how_many_append test went (places t) in
      let b = goes test in
      let b1 = how_many_append test named (places u) in
      let c = same test in
      let d = how_many_append test said went in
      let d1 = how_many_append test (said ++ went) (places u) in
      omega (arith, a, a1, b, b1, c, d, d1)

  promise_goes : (p : ℕ) (to : Node) → map.get t.promises p ≡ Some (promise.Fixed to) → names t (is_promise p) ≡ 0
      → IsLeft s (record t { promises = map.remove t.promises p }) (node.Promise p ∷ gone) ((to ∷ []) ++ went) asked
  promise_goes p to there none = record {
    beside = ap (λ (y : State). record y { promises = map.remove t.promises p }) h.beside;
    promises = kept_without s.promises t.promises p (λ k. how_many (is_promise k) gone) h.promises;
    outcomes = h.outcomes;
    imports = h.imports;
    questions = h.questions;
    alike = alike_more (record t { promises = map.remove t.promises p }) (to ∷ []) (to ∷ []) (tables.promises.goes t p (promise.Fixed to) there) (λ test. refl);
    ids = h.ids;
    once = h.once;
    withers = λ d rest is next. h.withers d rest is (λ e at.
        let here : IsLoosePromise t p (map.get t.promises p) = subst (λ (o : Option Promise). IsLoosePromise t p o) (sym there) none in
        let loose : IsLoosePromise e.state p (map.get e.state.promises p) = subst (λ (y : State). IsLoosePromise y p (map.get y.promises p)) (sym at) here in
        Thing (PromiseGoes p loose refl) (next (without_promise e p) (ap (λ (y : State). record y { promises = map.remove y.promises p }) at)));
  }

  outcome_goes : (o : ℕ) (path : List Op) (x : KeptOutcome) → map.get t.outcomes o ≡ Some x → IsLooseValue t o x x.value
      → IsLeft s (record t { outcomes = map.remove t.outcomes o }) (node.Field o path ∷ gone) (named_by_value x.value ++ went) asked
  outcome_goes o path x there free = record {
    beside = ap (λ (y : State). record y { outcomes = map.remove t.outcomes o }) h.beside;
    promises = h.promises;
    outcomes = kept_without s.outcomes t.outcomes o (λ k. how_many (is_field k) gone) h.outcomes;
    imports = h.imports;
    questions = h.questions;
    alike = alike_more (record t { outcomes = map.remove t.outcomes o }) (named_by_outcome o x) (named_by_value x.value) (tables.outcomes.goes t o x there) (outcome_names o x (none_waiting t o x x.value free));
    ids = h.ids;
    once = h.once;
    withers = λ d rest is next. h.withers d rest is (λ e at.
        let here : IsLooseOutcome t o (map.get t.outcomes o) = subst (λ (p : Option KeptOutcome). IsLooseOutcome t o p) (sym there) free in
        let loose : IsLooseOutcome e.state o (map.get e.state.outcomes o) = subst (λ (y : State). IsLooseOutcome y o (map.get y.outcomes o)) (sym at) here in
        Thing (OutcomeGoes o loose refl) (next (without_outcome e o) (ap (λ (y : State). record y { outcomes = map.remove y.outcomes o }) at)));
  }

  import_goes : (i : ExportId) (x : Import) → map.get t.imports i.0 ≡ Some x → names t (is_import i.0) ≡ 0
      → IsLeft s (record t { imports = map.remove t.imports i.0 }) (node.Import i ∷ gone) (named_by_import i.0 x ++ went) asked
  import_goes i x there none = record {
    beside = ap (λ (y : State). record y { imports = map.remove t.imports i.0 }) h.beside;
    promises = h.promises;
    outcomes = h.outcomes;
    imports = kept_without s.imports t.imports i.0 (λ k. how_many (is_import k) gone) h.imports;
    questions = h.questions;
    alike = alike_more (record t { imports = map.remove t.imports i.0 }) (named_by_import i.0 x) (named_by_import i.0 x) (tables.imports.goes t i.0 x there) (λ test. refl);
    ids = h.ids;
    once = h.once;
    withers = λ d rest is next. h.withers d rest is (λ e at.
        let here : IsLooseImport t i.0 (map.get t.imports i.0) = subst (λ (o : Option Import). IsLooseImport t i.0 o) (sym there) none in
        let loose : IsLooseImport e.state i.0 (map.get e.state.imports i.0) = subst (λ (y : State). IsLooseImport y i.0 (map.get y.imports i.0)) (sym at) here in
        Thing (ImportGoes i.0 loose refl) (next (without_import e i.0) (ap (λ (y : State). record y { imports = map.remove y.imports i.0 }) at)));
  }

  question_goes : (q : QuestionId) (path : List Op) (x : Question) → map.get t.questions q.0 ≡ Some x → IsToFinish t q.0 (Some x) → how_many (is_pipe q.0) gone ≡ 0
      → IsLeft s (closed t q.0 x) (node.Pipe q path ∷ gone) (named_by_returned x.returned ++ went) (q ∷ asked)
  question_goes q path x there over fresh = record {
    beside = ap (λ (y : State). record y { questions = closed_map t.questions q.0 x x.returned }) h.beside;
    promises = h.promises;
    outcomes = h.outcomes;
    imports = h.imports;
    questions = kept_closed s.questions t.questions q.0 x x.returned (λ k. how_many (is_pipe k) gone) h.questions;
    alike = alike_more (closed t q.0 x) (named_by_returned x.returned) (named_by_returned x.returned) (closes t q.0 x x.returned refl there) (λ test. refl);
    ids = λ k. ap (λ n. cond (nat_eq q.0 k) (suc n) n) (h.ids k);
    once = with_one_more (λ k n. n ≤ 1) q.0 (λ k. how_many (is_pipe k) gone) (omega (arith, fresh)) (λ k apart. h.once k);
    withers = λ d rest is next.
        let w = h.withers d (map.insert rest q.0 x) is (λ e at.
        let here : map.get e.state.questions q.0 ≡ Some x = ap (λ (y : State). map.get y.questions q.0) at ∙ there in
        let now : IsToFinish e.state q.0 (Some x) = subst (λ (y : State). IsToFinish y q.0 (Some x)) (sym at) over in
        Asked q.0 x here now (next (with_state e (closed e.state q.0 x)) (ap (λ (y : State). closed y q.0 x) at))) in
        let before : map.get s.questions q.0 ≡ Some x = sym (is_open (how_many (is_pipe q.0) gone) (map.get s.questions q.0) (map.get t.questions q.0) fresh (h.questions q.0)) ∙ there in
        let f : ℕ → ℕ = λ k. how_many (is_id k) asked in record {
          over = w.over;
          withers = w.withers;
          are = picked_more s.questions w.over rest q.0 x f before w.are;
        };
  }

  -- ---- Whatever the node is of

  thing_promise : (p : ℕ) (o : Option Promise) → map.get s.promises p ≡ o → map.get t.promises p ≡ o → IsLoosePromise t p o → IsLeft s (without t (node.Promise p)) (node.Promise p ∷ gone) (linked (promise_link (map.get s.promises p)) ++ went) asked
  thing_promise p None a b loose = absurd loose
  thing_promise p (Some (promise.Open calls)) a b loose = absurd loose
  thing_promise p (Some (promise.Fixed to)) a b loose =
      subst (λ (o : Option Promise). IsLeft s (without t (node.Promise p)) (node.Promise p ∷ gone) (linked (promise_link o) ++ went) asked) (sym a) (promise_goes p to b loose)

  thing_outcome : (o : ℕ) (path : List Op) (v : Option KeptOutcome) → map.get s.outcomes o ≡ v → map.get t.outcomes o ≡ v → IsLooseOutcome t o v
      → IsLeft s (without t (node.Field o path)) (node.Field o path ∷ gone) (named_by_value (value_of (map.get s.outcomes o)) ++ went) asked
  thing_outcome o path None a b loose = absurd loose
  thing_outcome o path (Some x) a b loose =
      subst (λ (v : Option KeptOutcome). IsLeft s (without t (node.Field o path)) (node.Field o path ∷ gone) (named_by_value (value_of v) ++ went) asked) (sym a) (outcome_goes o path x b loose)

  thing_import : (i : ExportId) (o : Option Import) → map.get s.imports i.0 ≡ o → map.get t.imports i.0 ≡ o → IsLooseImport t i.0 o → IsLeft s (without t (node.Import i)) (node.Import i ∷ gone) (said_by (map.get s.imports i.0) ++ went) asked
  thing_import i None a b loose = absurd loose
  thing_import i (Some x) a b loose =
      subst (λ (o : Option Import). IsLeft s (without t (node.Import i)) (node.Import i ∷ gone) (said_by o ++ went) asked) (sym a) (import_goes i x b loose)

  thing_question : (q : QuestionId) (path : List Op) (o : Option Question) → map.get s.questions q.0 ≡ o → map.get t.questions q.0 ≡ o → IsToFinish t q.0 o → how_many (is_pipe q.0) gone ≡ 0
      → IsLeft s (without t (node.Pipe q path)) (node.Pipe q path ∷ gone) (returned_by (map.get s.questions q.0) ++ went) (q ∷ asked)
  thing_question q path None a b over fresh = absurd over
  thing_question q path (Some x) a b over fresh =
      subst (λ (o : Option Question). IsLeft s (without_question t q.0 o) (node.Pipe q path ∷ gone) (returned_by (map.get s.questions q.0) ++ went) (q ∷ asked)) (sym b)
      (subst (λ (o : Option Question). IsLeft s (closed t q.0 x) (node.Pipe q path ∷ gone) (returned_by o ++ went) (q ∷ asked)) (sym a) (question_goes q path x b over fresh))

  pub thing_goes : (n : Node) → IsLoose t n → how_many (is_of n) gone ≡ 0 → IsLeft s (without t n) (n ∷ gone) (named_by_thing s n ++ went) (asked_by n ++ asked)
  thing_goes (node.Object o) loose fresh = absurd loose
  thing_goes (node.Promise p) loose fresh =
      let same = is_there (how_many (is_promise p) gone) (map.get s.promises p) (map.get t.promises p) fresh (h.promises p) in
      thing_promise p (map.get s.promises p) refl same (subst (λ (o : Option Promise). IsLoosePromise t p o) same loose)
  thing_goes (node.Field o path) loose fresh =
      let same = is_there (how_many (is_field o) gone) (map.get s.outcomes o) (map.get t.outcomes o) fresh (h.outcomes o) in
      thing_outcome o path (map.get s.outcomes o) refl same (subst (λ (v : Option KeptOutcome). IsLooseOutcome t o v) same loose)
  thing_goes (node.Import i) loose fresh =
      let same = is_there (how_many (is_import i.0) gone) (map.get s.imports i.0) (map.get t.imports i.0) fresh (h.imports i.0) in
      thing_import i (map.get s.imports i.0) refl same (subst (λ (o : Option Import). IsLooseImport t i.0 o) same loose)
  thing_goes (node.Pipe q path) loose fresh =
      let same = is_open (how_many (is_pipe q.0) gone) (map.get s.questions q.0) (map.get t.questions q.0) fresh (h.questions q.0) in
      thing_question q path (map.get s.questions q.0) refl same (subst (λ (o : Option Question). IsToFinish t q.0 o) same loose) fresh
  thing_goes (node.Broken reason) loose fresh = absurd loose
