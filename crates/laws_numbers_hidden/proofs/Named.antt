-- Places name the same nodes with other numbers.
use Rattle.std.proofs.Common.{◌≡◌, ℕ, suc, Bool, cond, List, [], ◌∷◌, ◌++◌, map, Option, None, Some, refl, sym, ap, ◌∙◌}
use Rattle.finite_maps.proofs.Values.{entries-map_values}
use Rattle.std.specs.FinMap as finite
use Rattle.finite_maps.specs.Tally.{Map, map_values, option_changed, changed_each}
use Rattle.rpc_msg.specs.declared.ids.ObjectId.{ObjectId}
use Rattle.rpc_msg.specs.declared.ids.ExportId.{ExportId}
use Rattle.rpc_msg.specs.declared.parts.Descriptor.{Descriptor}
use Rattle.rpc_machine.specs.declared.node.Node.{Node}
use Rattle.rpc_machine.specs.declared.node.Node.TheVariants as node
use Rattle.rpc_machine.specs.declared.calls.WaitingCall.{WaitingCall}
use Rattle.rpc_machine.specs.declared.calls.HeldCall.{HeldCall}
use Rattle.rpc_machine.specs.declared.calls.Value.{Value}
use Rattle.rpc_machine.specs.declared.calls.Value.TheVariants as value
use Rattle.rpc_machine.specs.declared.calls.KeptOutcome.{KeptOutcome}
use Rattle.rpc_machine.specs.declared.calls.Promise.{Promise}
use Rattle.rpc_machine.specs.declared.calls.Promise.TheVariants as promise
use Rattle.rpc_machine.specs.declared.entries.Returned.{Returned}
use Rattle.rpc_machine.specs.declared.entries.Returned.TheVariants as back
use Rattle.rpc_machine.specs.declared.entries.Question.{Question}
use Rattle.rpc_machine.specs.declared.entries.AnswerEntry.{AnswerEntry}
use Rattle.rpc_machine.specs.declared.entries.Embargo.{Embargo}
use Rattle.rpc_machine.specs.declared.entries.Resolution.{Resolution}
use Rattle.rpc_machine.specs.declared.entries.Resolution.TheVariants as resolution
use Rattle.rpc_machine.specs.declared.entries.Import.{Import}
use Rattle.rpc_machine.specs.declared.entries.Export.{Export}
use Rattle.rpc_machine.specs.declared.entries.Reference.{Reference}
use Rattle.rpc_machine.specs.State.{State}
use Rattle.laws_numbers_hidden.specs.Renamed.{node_by, waiting_by, held_by, value_by, kept_by, promise_by, embargo_by, beside_by, returned_by, question_by, reference_by, resolution_by, import_by, export_by, state_by}
use Rattle.rpc_machine.specs.Lists.{from_each, of_map, how_many}
use Rattle.rpc_machine.specs.Places.{named_by_calls, named_by_held, named_by_reference, named_by_embargo, named_by_promise, named_by_value, named_by_outcome, nodes, named_by_returned, named_by_question, named_by_resolution, named_by_import, named_by_export, imports_of, named_by_taken, named_by_answer, places, names}
use Rattle.laws_numbers_hidden.proofs.Settles.{map-append, blind}

module _ (f : ObjectId → ObjectId) where
  abbrev N : Node → Node
  N = node_by f

  both : (ms ns xs ys : List Node) → ms ≡ map N ns → xs ≡ map N ys → ms ++ xs ≡ map N (ns ++ ys)
  both ms ns xs ys a b = (λ i. a i ++ b i) ∙ sym (map-append N ns ys)

  by_calls : (cs : List WaitingCall) → named_by_calls (map (waiting_by f) cs) ≡ map N (named_by_calls cs)
  by_calls [] = refl
  by_calls (c ∷ cs) = both (map N c.request.caps) c.request.caps (named_by_calls (map (waiting_by f) cs)) (named_by_calls cs) refl (by_calls cs)

  by_held : (hs : List HeldCall) → named_by_held (map (held_by f) hs) ≡ map N (named_by_held hs)
  by_held [] = refl
  by_held (h ∷ hs) = both (map N h.call.request.caps) h.call.request.caps (named_by_held (map (held_by f) hs)) (named_by_held hs) refl (by_held hs)

  by_reference : (k : ℕ) (x : Reference) → named_by_reference k (reference_by f x) ≡ map N (named_by_reference k x)
  by_reference k x = refl

  by_embargo : (k : ℕ) (x : Embargo) → named_by_embargo k (embargo_by f x) ≡ map N (named_by_embargo k x)
  by_embargo k x = ap (λ (ns : List Node). N x.node ∷ ns) (by_calls x.waiting)

  by_promise : (k : ℕ) (x : Promise) → named_by_promise k (promise_by f x) ≡ map N (named_by_promise k x)
  by_promise k (promise.Open calls) = ap (λ (ns : List Node). node.Promise k ∷ ns) (by_calls calls)
  by_promise k (promise.Fixed to) = refl

  by_value : (w : Option Value) → named_by_value (option_changed (value_by f) w) ≡ map N (named_by_value w)
  by_value None = refl
  by_value (Some (value.Results payload caps)) = refl
  by_value (Some (value.Exception e)) = refl

  by_outcome : (k : ℕ) (x : KeptOutcome) → named_by_outcome k (kept_by f x) ≡ map N (named_by_outcome k x)
  by_outcome k x = both (named_by_value (option_changed (value_by f) x.value)) (named_by_value x.value) (named_by_held (map (held_by f) x.waiting)) (named_by_held x.waiting) (by_value x.value) (by_held x.waiting)

  pub by_nodes : (cs : List (Descriptor × Node)) → nodes (map (beside_by f) cs) ≡ map (node_by f) (nodes cs)
  by_nodes [] = refl
  by_nodes (c ∷ cs) = ap (λ (ns : List Node). N c.1 ∷ ns) (by_nodes cs)

  by_returned : (o : Option Returned) → named_by_returned (option_changed (returned_by f) o) ≡ map N (named_by_returned o)
  by_returned None = refl
  by_returned (Some (back.Results payload caps)) = by_nodes caps
  by_returned (Some (back.Exception e)) = refl

  by_question : (k : ℕ) (x : Question) → named_by_question k (question_by f x) ≡ map N (named_by_question k x)
  by_question k x = by_returned x.returned

  by_resolution : (o : Option Resolution) → named_by_resolution (option_changed (resolution_by f) o) ≡ map N (named_by_resolution o)
  by_resolution None = refl
  by_resolution (Some (resolution.To d n)) = refl
  by_resolution (Some (resolution.Exception e)) = refl

  by_import : (k : ℕ) (x : Import) → named_by_import k (import_by f x) ≡ map N (named_by_import k x)
  by_import k x = by_resolution x.resolution

  by_export : (k : ℕ) (x : Export) → named_by_export k (export_by f x) ≡ map N (named_by_export k x)
  by_export k x = refl

  by_imports : (es : List ExportId) → imports_of es ≡ map N (imports_of es)
  by_imports [] = refl
  by_imports (e ∷ es) = ap (λ (ns : List Node). node.Import e ∷ ns) (by_imports es)

  by_taken : (ids : List ExportId) (o : Option (List ExportId)) → named_by_taken ids o ≡ map N (named_by_taken ids o)
  by_taken ids None = by_imports ids
  by_taken ids (Some given) = refl

  by_answer : (k : ℕ) (x : AnswerEntry) → named_by_answer k x ≡ map N (named_by_answer k x)
  by_answer k x = by_taken x.taken x.returned

  module _ {X : Type 0} (h : X → X) (g : ℕ → X → List Node) (same : (k : ℕ) (x : X) → g k (h x) ≡ map N (g k x)) where
    each_same : (es : List (ℕ × X)) → from_each g (changed_each h es) ≡ map N (from_each g es)
    each_same [] = refl
    each_same (e ∷ es) = both (g e.0 (h e.1)) (g e.0 e.1) (from_each g (changed_each h es)) (from_each g es) (same e.0 e.1) (each_same es)

    map_same : (m : Map X) → of_map g (map_values h m) ≡ map N (of_map g m)
    map_same m = ap (from_each g) (entries-map_values h m) ∙ each_same (finite.entries m)

  answers_same : (es : List (ℕ × AnswerEntry)) → from_each named_by_answer es ≡ map N (from_each named_by_answer es)
  answers_same [] = refl
  answers_same (e ∷ es) = both (named_by_answer e.0 e.1) (named_by_answer e.0 e.1) (from_each named_by_answer es) (from_each named_by_answer es) (by_answer e.0 e.1) (answers_same es)

  places_so : (s : State) → places (state_by f s) ≡ map N (places s)
  places_so s =
      let t = state_by f s in
      let s1 = of_map named_by_reference s.refs in
      let t1 = of_map named_by_reference t.refs in
      let s2 = s1 ++ of_map named_by_embargo s.embargoes in
      let t2 = t1 ++ of_map named_by_embargo t.embargoes in
      let s3 = s2 ++ of_map named_by_promise s.promises in
      let t3 = t2 ++ of_map named_by_promise t.promises in
      let s4 = s3 ++ of_map named_by_outcome s.outcomes in
      let t4 = t3 ++ of_map named_by_outcome t.outcomes in
      let s5 = s4 ++ of_map named_by_question s.questions in
      let t5 = t4 ++ of_map named_by_question t.questions in
      let s6 = s5 ++ of_map named_by_import s.imports in
      let t6 = t5 ++ of_map named_by_import t.imports in
      let s7 = s6 ++ of_map named_by_export s.exports in
      let t7 = t6 ++ of_map named_by_export t.exports in
      let b2 = both t1 s1 (of_map named_by_embargo t.embargoes) (of_map named_by_embargo s.embargoes) (map_same (reference_by f) named_by_reference by_reference s.refs) (map_same (embargo_by f) named_by_embargo by_embargo s.embargoes) in
      let b3 = both t2 s2 (of_map named_by_promise t.promises) (of_map named_by_promise s.promises) b2 (map_same (promise_by f) named_by_promise by_promise s.promises) in
      let b4 = both t3 s3 (of_map named_by_outcome t.outcomes) (of_map named_by_outcome s.outcomes) b3 (map_same (kept_by f) named_by_outcome by_outcome s.outcomes) in
      let b5 = both t4 s4 (of_map named_by_question t.questions) (of_map named_by_question s.questions) b4 (map_same (question_by f) named_by_question by_question s.questions) in
      let b6 = both t5 s5 (of_map named_by_import t.imports) (of_map named_by_import s.imports) b5 (map_same (import_by f) named_by_import by_import s.imports) in
      let b7 = both t6 s6 (of_map named_by_export t.exports) (of_map named_by_export s.exports) b6 (map_same (export_by f) named_by_export by_export s.exports) in
      both t7 s7 (of_map named_by_answer s.answers) (of_map named_by_answer s.answers) b7 (answers_same (finite.entries s.answers))

  counted : (test : Node → Bool) → ((o x : ObjectId) → test (node.Object o) ≡ test (node.Object x)) → (ns : List Node) → how_many test (map N ns) ≡ how_many test ns
  counted test h [] = refl
  counted test h (n ∷ ns) =
      let a = blind f test h n in
      let b = counted test h ns in
      λ i. cond (a i) (suc (b i)) (b i)

  pub same_names : (test : Node → Bool) → ((o x : ObjectId) → test (node.Object o) ≡ test (node.Object x)) → (s : State) → names (state_by f s) test ≡ names s test
  same_names test h s = ap (how_many test) (places_so s) ∙ counted test h (places s)
