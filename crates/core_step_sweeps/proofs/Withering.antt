-- Where no place names a Pipe of any question, those that are over are those that are to be finished at once: what else goes
-- leaves them as they are.
use Rattle.std.proofs.Common.{◌≡◌, ◌≢◌, ◌⊎◌, inl, inr, ℕ, zero, suc, ◌+◌, ◌≤◌, ◌<◌, cond, List, [], ◌∷◌, ◌++◌, length, length-append, get_or, Option, None, Some, refl, sym, ap, subst, ◌∙◌, arith}
use Rattle.std.specs.Ordering.{nat_cmp}
use Rattle.std.specs.List.{Contains}
use Rattle.std.specs.FinMap as map
use Rattle.finite_maps.specs.Tally.{Map}
use Rattle.finite_maps.proofs.Gets.{at_each}
use Rattle.finite_maps.proofs.Tested.{itself}
use Rattle.rpc_msg.specs.declared.ids.QuestionId.{QuestionId}
use Rattle.rpc_machine.specs.declared.node.Node.{Node}
use Rattle.rpc_machine.specs.declared.node.Node.TheVariants as node
use Rattle.rpc_machine.specs.declared.calls.OwnCall.{OwnCall}
use Rattle.rpc_machine.specs.declared.entries.Question.{Question}
use Rattle.rpc_machine.specs.declared.entries.Role.{Role}
use Rattle.rpc_machine.specs.declared.entries.Role.TheVariants as role
use Rattle.rpc_machine.specs.State.{State}
use Rattle.rpc_machine.specs.Lists.{how_many}
use Rattle.rpc_machine.specs.Nodes.{is_pipe}
use Rattle.rpc_machine.specs.Places.{places, names}
use Rattle.rpc_machine.specs.Sweeping.{IsToFinish, IsOver}
use Rattle.laws_acts.specs.Alike.{Alike}
use Rattle.laws_acts.proofs.Parts.{how_many_append}
use Rattle.core_refcounts.specs.Names.{count_of}
use Rattle.core_refcounts.proofs.Counting.{other_key}
use Rattle.core_store.specs.declared.store.Store.{Store}
use Rattle.core_store.specs.Holding.{state_of, IsSound}
use Rattle.core_step_sweeps.specs.Over.{AreOver, IsOnlyOver}
use Rattle.core_step_sweeps.specs.Thinking.{IsLoose, IsLeft, Covers, without, named_by_thing, asked_by, is_of, is_id, any, nodes_of, promise_node, field_node, import_node, pipe_node}
use Rattle.core_step_sweeps.proofs.Deciding.{loose_or_not}
use Rattle.core_step_sweeps.proofs.Entries.{with_one_more, is_open}
use Rattle.core_step_sweeps.proofs.Covering.{covers_less, covers_more, gone_firm, thing_leaves}
use Rattle.core_step_sweeps.proofs.Leaving.{thing_goes}
use Rattle.core_step_sweeps.proofs.Looking.{counts_places, same_left}
use Rattle.core_step_sweeps.proofs.Ending.{begins, quiet, over_by, covers_noted, noted_question}

all_any : (ns : List Node) → how_many any ns ≡ length ns
all_any [] = refl
all_any (m ∷ ns) = ap suc (all_any ns)

module _ (s : State) (unnamed : (q : ℕ) → names s (is_pipe q) ≡ 0) where
  abbrev ToFinish : ℕ → Type 0
  ToFinish q = IsToFinish s q (map.get s.questions q)

  -- Each question that went was to be finished at the start.
  abbrev Were : List Node → Type 0
  Were gone = (q : ℕ) → 0 < how_many (is_pipe q) gone → ToFinish q

  -- All went that would.
  abbrev AllWent : Type 0
  AllWent = (t : State) × (gone : List Node) × (went : List Node) × (asked : List QuestionId) × IsLeft s t gone went asked × Were gone × Covers t []

  abbrev Ends : ℕ → Type 0
  Ends fuel = (t : State) (gone went : List Node) (asked : List QuestionId) → IsLeft s t gone went asked → Were gone → (pending : List Node) → Covers t pending → length pending + how_many any (places t) ≤ fuel → AllWent

  module _ (t : State) (gone went : List Node) (asked : List QuestionId) (h : IsLeft s t gone went asked) (were : Were gone) where
    calls : t.calls ≡ s.calls
    calls = ap (λ (y : State). y.calls) h.beside

    over_then : (q : ℕ) (x : Question) (r : Role) → IsOver t q x r → IsOver s q x r
    over_then q x (role.Relay o) over = over
    over_then q x (role.Direct c) over = (subst (λ (m : Map OwnCall). map.get m c.0 ≡ None) calls over.0, unnamed q)

    was_to_finish : (q : ℕ) (o : Option Question) → IsToFinish t q o → IsToFinish s q o
    was_to_finish q None loose = absurd loose
    was_to_finish q (Some x) loose = (loose.0, over_then q x x.role loose.1)

    unnamed_then : (q : ℕ) → names t (is_pipe q) ≡ 0
    unnamed_then q =
        let a = h.alike (is_pipe q) in
        let b = unnamed q in
        let c = how_many_append (is_pipe q) went (places t) in
        omega (arith, a, b, c)

    over_still : (q : ℕ) (x : Question) (r : Role) → IsOver s q x r → IsOver t q x r
    over_still q x (role.Relay o) over = over
    over_still q x (role.Direct c) over = (subst (λ (m : Map OwnCall). map.get m c.0 ≡ None) (sym calls) over.0, unnamed_then q)

    is_to_finish : (q : ℕ) (o : Option Question) → IsToFinish s q o → IsToFinish t q o
    is_to_finish q None loose = absurd loose
    is_to_finish q (Some x) loose = (loose.0, over_still q x x.role loose.1)

    -- One that is to be finished went by the end.
    went_once : Covers t [] → (q : ℕ) → ToFinish q → how_many (is_id q) asked ≡ 1
    went_once rests q loose = by (how_many (is_pipe q) gone) refl
      where
        by : (k : ℕ) → how_many (is_pipe q) gone ≡ k → how_many (is_id q) asked ≡ 1
        by zero e =
            let same : map.get t.questions q ≡ map.get s.questions q = is_open (how_many (is_pipe q) gone) (map.get s.questions q) (map.get t.questions q) e (h.questions q) in
            absurd (quiet t rests (pipe_node q) (subst (λ (o : Option Question). IsToFinish t q o) (sym same) (is_to_finish q (map.get s.questions q) loose)))
        by (suc k) e = let a = h.ids q in let b = h.once q in omega (arith, a, b, e)

    went_none : (q : ℕ) → ¬ (ToFinish q) → how_many (is_id q) asked ≡ 0
    went_none q firm = by (how_many (is_pipe q) gone) refl
      where
        by : (k : ℕ) → how_many (is_pipe q) gone ≡ k → how_many (is_id q) asked ≡ 0
        by zero e = h.ids q ∙ e
        by (suc k) e = absurd (firm (were q (omega (arith, e))))

    -- The next thing goes.
    module _ (n : Node) (loose : IsLoose t n) where
      abbrev said : List Node
      said = named_by_thing s n

      fresh : how_many (is_of n) gone ≡ 0
      fresh = by (how_many (is_of n) gone) refl
        where
          by : (k : ℕ) → how_many (is_of n) gone ≡ k → how_many (is_of n) gone ≡ 0
          by zero e = e
          by (suc k) e = absurd (gone_firm s t gone went asked h n (omega (arith, e)) loose)

      goes : IsLeft s (without t n) (n ∷ gone) (said ++ went) (asked_by n ++ asked)
      goes = thing_goes s t gone went asked h n loose fresh

      leaves : Alike (places t) (said ++ places (without t n))
      leaves = λ test.
          let a = h.alike test in
          let b = goes.alike test in
          let c = how_many_append test went (places t) in
          let d = how_many_append test (said ++ went) (places (without t n)) in
          let e = how_many_append test said went in
          let f = how_many_append test said (places (without t n)) in
          omega (arith, a, b, c, d, e, f)

      covers_then : (rest : List Node) → Covers t (n ∷ rest) → Covers (without t n) (rest ++ said)
      covers_then rest covers = covers_more t (without t n) n said rest (thing_leaves t said n loose leaves) covers

      less_then : (rest : List Node) (fuel : ℕ) → length (n ∷ rest) + how_many any (places t) ≤ suc fuel → length (rest ++ said) + how_many any (places (without t n)) ≤ fuel
      less_then rest fuel within =
          let b = leaves any in
          let c = how_many_append any said (places (without t n)) in
          let d = all_any said in
          let f = length-append rest said in
          omega (arith, within, b, c, d, f)

    were_then : (n : Node) → IsLoose t n → Were (n ∷ gone)
    were_then (node.Object o) loose = absurd loose
    were_then (node.Promise p) loose = were
    were_then (node.Field o path) loose = were
    were_then (node.Import e) loose = were
    were_then (node.Pipe q path) loose =
        let same : map.get t.questions q.0 ≡ map.get s.questions q.0 = same_left s t gone went asked h (node.Pipe q path) (fresh (node.Pipe q path) loose) in
        with_one_more (λ k n. 0 < n → ToFinish k) q.0 (λ k. how_many (is_pipe k) gone)
        (λ some. was_to_finish q.0 (map.get s.questions q.0) (subst (λ (o : Option Question). IsToFinish t q.0 o) same loose))
        (λ k apart. were k)
    were_then (node.Broken reason) loose = absurd loose

    turns : (fuel : ℕ) → Ends fuel → (n : Node) (rest : List Node) → Covers t (n ∷ rest) → length (n ∷ rest) + how_many any (places t) ≤ suc fuel → IsLoose t n ⊎ ¬ (IsLoose t n) → AllWent
    turns fuel again n rest covers within (inl loose) =
        again (without t n) (n ∷ gone) (named_by_thing s n ++ went) (asked_by n ++ asked) (goes n loose) (were_then n loose)
        (rest ++ named_by_thing s n) (covers_then n loose rest covers) (less_then n loose rest fuel within)
    turns fuel again n rest covers within (inr firm) = again t gone went asked h were rest (covers_less t n rest firm covers) (omega (arith, within))

  ends : (fuel : ℕ) → Ends fuel
  ends fuel t gone went asked h were [] covers within = (t, gone, went, asked, h, were, covers)
  ends zero t gone went asked h were (n ∷ rest) covers within = absurd (omega (arith, within))
  ends (suc fuel) t gone went asked h were (n ∷ rest) covers within = turns t gone went asked h were fuel (ends fuel) n rest covers within (loose_or_not t n)

  -- What is loose is among these.
  module _ (pending : List Node) (covers : Covers s pending) where
    abbrev all : AllWent
    all = ends (length pending + how_many any (places s)) s [] [] [] (begins s) (λ q some. absurd (omega (arith, some))) pending covers (omega arith)

    -- None is to be finished.
    pub none_over_then : ((q : ℕ) → ¬ (ToFinish q)) → AreOver s []
    none_over_then none = by all
      where
        by : AllWent → AreOver s []
        by (t, gone, went, asked, h, were, rests) = over_by s t gone went asked [] h rests (λ k. sym (went_none t gone went asked h were k (none k))) (λ k d low below. absurd (omega (arith, below)))

    -- This one alone is.
    pub one_over_then : (q : QuestionId) → ToFinish q.0 → ((k : ℕ) → k ≢ q.0 → ¬ (ToFinish k)) → AreOver s (q ∷ [])
    one_over_then q loose others = by all
      where
        by : AllWent → AreOver s (q ∷ [])
        by (t, gone, went, asked, h, were, rests) =
            over_by s t gone went asked (q ∷ []) h rests
            (at_each (λ k. how_many (is_id k) (q ∷ []) ≡ how_many (is_id k) asked) q.0
            (ap (λ b. cond b 1 0) (itself q.0) ∙ sym (went_once t gone went asked h were rests q.0 loose))
            (λ k apart. ap (λ b. cond b 1 0) (other_key k q.0 apart) ∙ sym (went_none t gone went asked h were k (others k apart))))
            (λ k d low below. absurd (omega (arith, below)))

-- ---- By what is noted

none_there : (es : List (ℕ × ℕ)) (k : ℕ) → length es ≡ 0 → ◌≡◌ {A = Option ℕ} (map.find nat_cmp k es) None
none_there [] k none = refl
none_there (e ∷ es) k none = absurd (omega (arith, none))

none_counted : (m : Map ℕ) → map.len m ≡ 0 → (k : ℕ) → count_of (map.get m k) ≡ 0
none_counted m none k = ap count_of (map.get-entries m k ∙ none_there (map.entries m) k (sym (map.len-entries m) ∙ none))

only_key : (keys : List ℕ) (k : ℕ) → length keys ≤ 1 → Contains keys k → k ≡ get_or keys 0 0
only_key [] k few there = let below = there.1 in absurd (omega (arith, below))
only_key (j ∷ []) k few there = at there.0 there.1 there.2
  where
    at : (i : ℕ) → i < 1 → get_or (j ∷ []) i k ≡ k → k ≡ j
    at zero below same = sym same
    at (suc i) below same = absurd (omega (arith, below))
only_key (j ∷ i ∷ ks) k few there = absurd (omega (arith, few))

module _ (x : Store) (sound : IsSound x) (none_taken : x.waits.taken ≡ []) (unnamed : map.len x.names.questions.counts ≡ 0) where
  abbrev s : State
  s = state_of x

  unnamed_all : (q : ℕ) → names s (is_pipe q) ≡ 0
  unnamed_all q = sym ((counts_places x sound.counted none_taken).questions q) ∙ none_counted x.names.questions.counts unnamed q

  abbrev noted : List Node
  noted = nodes_of promise_node x.names.promises.noted ++ ((nodes_of field_node x.names.outcomes.noted ++ (nodes_of import_node x.names.imports.noted ++ nodes_of pipe_node x.names.questions.noted)) ++ [])

  covers : Covers s noted
  covers = covers_noted x sound.counted none_taken sound.covered []

  is_noted : (q : ℕ) → IsToFinish s q (map.get s.questions q) → Contains x.names.questions.noted q
  is_noted q loose = noted_question x sound.counted none_taken sound.covered q (map.get s.questions q) loose (sound.covered.questions q)

  -- No question is noted.
  pub unnoted_over : x.names.questions.noted ≡ [] → AreOver s []
  unnoted_over empty = none_over_then s unnamed_all noted covers (λ q loose. let there = subst (λ (ks : List ℕ). Contains ks q) empty (is_noted q loose) in let below = there.1 in absurd (omega (arith, below)))

  pub noted_only : length x.names.questions.noted ≤ 1 → (q : QuestionId) → q.0 ≡ get_or x.names.questions.noted 0 0 → IsOnlyOver s q
  noted_only few q is =
      let others : (k : ℕ) → k ≢ q.0 → ¬ (IsToFinish s k (map.get s.questions k)) = λ k apart loose. apart (only_key x.names.questions.noted k few (is_noted k loose) ∙ sym is) in record {
        over = λ loose. one_over_then s unnamed_all noted covers q loose others;
        none = λ firm. none_over_then s unnamed_all noted covers (at_each (λ k. ¬ (IsToFinish s k (map.get s.questions k))) q.0 firm others);
      }
