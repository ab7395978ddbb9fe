-- As many places name a node of some kind in both, if no broken node is of that kind.
use Rattle.std.proofs.Common.{◌≡◌, ℕ, suc, ◌+◌, Bool, true, false, cond, List, [], ◌∷◌, ◌++◌, map, Option, None, Some, refl, sym, ap, ◌∙◌}
use Rattle.std.specs.FinMap as finite
use Rattle.finite_maps.specs.Tally.{Map, map_values, option_changed, changed_each}
use Rattle.finite_maps.proofs.Values.{entries-map_values}
use Rattle.rpc_machine.specs.declared.node.Node.{Node}
use Rattle.rpc_machine.specs.declared.node.Node.TheVariants as node
use Rattle.rpc_machine.specs.declared.node.Reason.{Reason}
use Rattle.rpc_machine.specs.Lists.{from_each, of_map, how_many}
use Rattle.rpc_machine.specs.Places.{named_by_calls, named_by_held, named_by_reference, named_by_embargo, named_by_promise, named_by_value, named_by_outcome, named_by_returned, named_by_question, named_by_resolution, named_by_import, named_by_export, named_by_answer, names}
use Rattle.rpc_machine.proofs.ExportCounts.{how_many-append}
use Rattle.laws_wired.specs.Pairs.{TwoNodes, OneNode, BothBroken, TwoWaiting, TwoHeld, TwoValues, Results, Failure, TwoKept, TwoPromises, Open, Fixed, TwoEmbargoes, TwoReturned, Gave, Failed, TwoQuestions, TwoReferences, TwoResolutions, LedTo, Broke, TwoImports, TwoStates, node_at, waiting_at, held_at, value_at, kept_at, promise_at, embargo_at, returned_at, question_at, reference_at, resolution_at, import_at, state_at}

module _ (test : Node → Bool) (blind : (reason : Reason) → test (node.Broken reason) ≡ false) where
  abbrev pub count : List Node → ℕ
  count ns = how_many test ns

  appended : (ms ns xs ys : List Node) → count ms ≡ count ns → count xs ≡ count ys → count (ms ++ xs) ≡ count (ns ++ ys)
  appended ms ns xs ys a x = how_many-append test ms xs ∙ (λ i. a i + x i) ∙ sym (how_many-append test ns ys)

  by_node : (n : TwoNodes) → test (node_at true n) ≡ test (node_at false n)
  by_node (OneNode n) = refl
  by_node (BothBroken why) = blind (why true) ∙ sym (blind (why false))

  one_more : (m n : Node) (ms ns : List Node) → test m ≡ test n → count ms ≡ count ns → count (m ∷ ms) ≡ count (n ∷ ns)
  one_more m n ms ns a b = λ i. cond (a i) (suc (b i)) (b i)

  by_nodes : (ns : List TwoNodes) → count (map (node_at true) ns) ≡ count (map (node_at false) ns)
  by_nodes [] = refl
  by_nodes (n ∷ ns) = one_more (node_at true n) (node_at false n) (map (node_at true) ns) (map (node_at false) ns) (by_node n) (by_nodes ns)

  by_calls : (cs : List TwoWaiting) → count (named_by_calls (map (waiting_at true) cs)) ≡ count (named_by_calls (map (waiting_at false) cs))
  by_calls [] = refl
  by_calls (c ∷ cs) =
      let ns = c.request.caps in
      appended (map (node_at true) ns) (map (node_at false) ns) (named_by_calls (map (waiting_at true) cs)) (named_by_calls (map (waiting_at false) cs)) (by_nodes ns) (by_calls cs)

  by_held : (hs : List TwoHeld) → count (named_by_held (map (held_at true) hs)) ≡ count (named_by_held (map (held_at false) hs))
  by_held [] = refl
  by_held (h ∷ hs) =
      let ns = h.call.request.caps in
      appended (map (node_at true) ns) (map (node_at false) ns) (named_by_held (map (held_at true) hs)) (named_by_held (map (held_at false) hs)) (by_nodes ns) (by_held hs)

  by_reference : (k : ℕ) (x : TwoReferences) → count (named_by_reference k (reference_at true x)) ≡ count (named_by_reference k (reference_at false x))
  by_reference k x = one_more (node_at true x.head) (node_at false x.head) [] [] (by_node x.head) refl

  by_embargo : (k : ℕ) (x : TwoEmbargoes) → count (named_by_embargo k (embargo_at true x)) ≡ count (named_by_embargo k (embargo_at false x))
  by_embargo k x = one_more x.node x.node (named_by_calls (map (waiting_at true) x.waiting)) (named_by_calls (map (waiting_at false) x.waiting)) refl (by_calls x.waiting)

  by_promise : (k : ℕ) (x : TwoPromises) → count (named_by_promise k (promise_at true x)) ≡ count (named_by_promise k (promise_at false x))
  by_promise k (Open calls) = one_more (node.Promise k) (node.Promise k) (named_by_calls (map (waiting_at true) calls)) (named_by_calls (map (waiting_at false) calls)) refl (by_calls calls)
  by_promise k (Fixed to) = one_more (node_at true to) (node_at false to) [] [] (by_node to) refl

  by_value : (w : Option TwoValues) → count (named_by_value (option_changed (value_at true) w)) ≡ count (named_by_value (option_changed (value_at false) w))
  by_value None = refl
  by_value (Some (Results x caps gone)) = by_nodes caps
  by_value (Some (Failure e)) = refl

  by_outcome : (k : ℕ) (x : TwoKept) → count (named_by_outcome k (kept_at true x)) ≡ count (named_by_outcome k (kept_at false x))
  by_outcome k x =
      appended
      (named_by_value (option_changed (value_at true) x.value))
      (named_by_value (option_changed (value_at false) x.value))
      (named_by_held (map (held_at true) x.waiting))
      (named_by_held (map (held_at false) x.waiting))
      (by_value x.value)
      (by_held x.waiting)

  by_returned : (o : Option TwoReturned) → count (named_by_returned (option_changed (returned_at true) o)) ≡ count (named_by_returned (option_changed (returned_at false) o))
  by_returned None = refl
  by_returned (Some (Gave x caps gone)) = refl
  by_returned (Some (Failed e)) = refl

  by_question : (k : ℕ) (x : TwoQuestions) → count (named_by_question k (question_at true x)) ≡ count (named_by_question k (question_at false x))
  by_question k x = by_returned x.returned

  by_resolution : (o : Option TwoResolutions) → count (named_by_resolution (option_changed (resolution_at true) o)) ≡ count (named_by_resolution (option_changed (resolution_at false) o))
  by_resolution None = refl
  by_resolution (Some (LedTo d n)) = refl
  by_resolution (Some (Broke e)) = refl

  by_import : (k : ℕ) (x : TwoImports) → count (named_by_import k (import_at true x)) ≡ count (named_by_import k (import_at false x))
  by_import k x = by_resolution x.resolution

  module _ {X Y : Type 0} (f h : X → Y) (g : ℕ → Y → List Node) (same : (k : ℕ) (x : X) → count (g k (f x)) ≡ count (g k (h x))) where
    each_same : (es : List (ℕ × X)) → count (from_each g (changed_each f es)) ≡ count (from_each g (changed_each h es))
    each_same [] = refl
    each_same (e ∷ es) = appended (g e.0 (f e.1)) (g e.0 (h e.1)) (from_each g (changed_each f es)) (from_each g (changed_each h es)) (same e.0 e.1) (each_same es)

    map_same : (m : Map X) → count (of_map g (map_values f m)) ≡ count (of_map g (map_values h m))
    map_same m =
        ap (λ (es : List (ℕ × Y)). count (from_each g es)) (entries-map_values f m)
        ∙ each_same (finite.entries m)
        ∙ sym (ap (λ (es : List (ℕ × Y)). count (from_each g es)) (entries-map_values h m))

  pub same_names : (z : TwoStates) → names (state_at true z) test ≡ names (state_at false z) test
  same_names z =
      let s = state_at true z in
      let t = state_at false z in
      let r = map_same (reference_at true) (reference_at false) named_by_reference by_reference z.refs in
      let e = map_same (embargo_at true) (embargo_at false) named_by_embargo by_embargo z.embargoes in
      let p = map_same (promise_at true) (promise_at false) named_by_promise by_promise z.promises in
      let o = map_same (kept_at true) (kept_at false) named_by_outcome by_outcome z.outcomes in
      let q = map_same (question_at true) (question_at false) named_by_question by_question z.questions in
      let i = map_same (import_at true) (import_at false) named_by_import by_import z.imports in
      let s1 = of_map named_by_reference s.refs in
      let t1 = of_map named_by_reference t.refs in
      let s2 = s1 ++ of_map named_by_embargo s.embargoes in
      let t2 = t1 ++ of_map named_by_embargo t.embargoes in
      let s3 = s2 ++ of_map named_by_promise s.promises in
      let t3 = t2 ++ of_map named_by_promise t.promises in
      let s4 = s3 ++ of_map named_by_outcome s.outcomes in
      let t4 = t3 ++ of_map named_by_outcome t.outcomes in
      let s5 = s4 ++ of_map named_by_question s.questions in
      let t5 = t4 ++ of_map named_by_question t.questions in
      let s6 = s5 ++ of_map named_by_import s.imports in
      let t6 = t5 ++ of_map named_by_import t.imports in
      let es = of_map named_by_export z.rest.exports in
      let as2 = appended s1 t1 (of_map named_by_embargo s.embargoes) (of_map named_by_embargo t.embargoes) r e in
      let as3 = appended s2 t2 (of_map named_by_promise s.promises) (of_map named_by_promise t.promises) as2 p in
      let as4 = appended s3 t3 (of_map named_by_outcome s.outcomes) (of_map named_by_outcome t.outcomes) as3 o in
      let as5 = appended s4 t4 (of_map named_by_question s.questions) (of_map named_by_question t.questions) as4 q in
      let as6 = appended s5 t5 (of_map named_by_import s.imports) (of_map named_by_import t.imports) as5 i in
      let as7 = appended s6 t6 es es as6 refl in
      appended (s6 ++ es) (t6 ++ es) (of_map named_by_answer z.rest.answers) (of_map named_by_answer z.rest.answers) as7 refl
