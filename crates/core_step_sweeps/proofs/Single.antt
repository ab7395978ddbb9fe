-- Where one thing alone may go, and it names nothing.
use Rattle.std.proofs.Common.{◌≡◌, ◌⊎◌, inl, inr, ℕ, List, [], ◌∷◌, ◌++◌, refl, subst, arith}
use Rattle.std.specs.Ordering.{nat_cmp, is_lt}
use Rattle.std.specs.List.Sorted.{IsSortedBy}
use Rattle.std.specs.FinMap as map
use Rattle.rpc_msg.specs.declared.ids.QuestionId.{QuestionId}
use Rattle.rpc_machine.specs.declared.node.Node.{Node}
use Rattle.rpc_machine.specs.State.{State}
use Rattle.rpc_machine.specs.Lists.{how_many}
use Rattle.rpc_machine.specs.Places.{places}
use Rattle.rpc_machine.specs.Collecting.{IsLooseOutcome}
use Rattle.laws_acts.specs.Alike.{Alike}
use Rattle.laws_acts.proofs.Parts.{how_many_append}
use Rattle.core_store.specs.declared.store.Store.{Store}
use Rattle.core_store.specs.Holding.{state_of, IsSound}
use Rattle.core_store.specs.Noted.{Notes, noted_of, nothing_noted}
use Rattle.core_step_sweeps.specs.Over.{AreOver, IsOnlyOver}
use Rattle.core_step_sweeps.specs.Thinking.{IsLoose, IsLeft, Covers, GoesAlone, without, named_by_thing, asked_by, is_id, nodes_of, promise_node, field_node, import_node, pipe_node}
use Rattle.core_step_sweeps.proofs.Deciding.{outcome_or_not}
use Rattle.core_step_sweeps.proofs.Covering.{covers_less, covers_more, thing_leaves}
use Rattle.core_step_sweeps.proofs.Leaving.{thing_goes}
use Rattle.core_step_sweeps.proofs.Ending.{begins, quiet, none_over, over_by, covers_noted}

-- ---- It goes, or not

module _ (s : State) (n : Node) (alone : GoesAlone s n) where
  abbrev said : List Node
  said = named_by_thing s n

  -- It is not loose.
  pub none_alone : ¬ (IsLoose s n) → AreOver s []
  none_alone firm = none_over s (quiet s (covers_less s n [] firm alone.covers)) [] refl

  module _ (loose : IsLoose s n) where
    goes : IsLeft s (without s n) (n ∷ []) (said ++ []) (asked_by n ++ [])
    goes = thing_goes s s [] [] [] (begins s) n loose refl

    leaves : Alike (places s) (said ++ places (without s n))
    leaves = λ test.
        let a = goes.alike test in
        let b = how_many_append test (said ++ []) (places (without s n)) in
        let c = how_many_append test said [] in
        let d = how_many_append test said (places (without s n)) in
        omega (arith, a, b, c, d)

    rests : Covers (without s n) []
    rests = subst (λ (ns : List Node). Covers (without s n) ns) alone.silent (covers_more s (without s n) n said [] (thing_leaves s said n loose leaves) alone.covers)

    pub over_alone : (qs : List QuestionId) → ((k : ℕ) → how_many (is_id k) qs ≡ how_many (is_id k) (asked_by n ++ [])) → IsSortedBy (λ (a b : QuestionId). is_lt (nat_cmp a.0 b.0)) qs → AreOver s qs
    over_alone qs same sorted = over_by s (without s n) (n ∷ []) (said ++ []) (asked_by n ++ []) qs goes rests same sorted

-- Of an outcome no question is over, whether it goes or not.
pub outcome_alone : (s : State) (o : ℕ) → GoesAlone s (field_node o) → AreOver s []
outcome_alone s o alone = by (outcome_or_not s o (map.get s.outcomes o))
  where
    by : IsLooseOutcome s o (map.get s.outcomes o) ⊎ ¬ (IsLooseOutcome s o (map.get s.outcomes o)) → AreOver s []
    by (inl loose) = over_alone s (field_node o) alone loose [] (λ k. refl) (λ k d low below. absurd (omega (arith, below)))
    by (inr firm) = none_alone s (field_node o) alone firm

-- A question is over, if it is to be finished.
pub question_alone : (s : State) (q : QuestionId) → GoesAlone s (pipe_node q.0) → IsOnlyOver s q
question_alone s q alone = record {
  over = λ loose. over_alone s (pipe_node q.0) alone loose (q ∷ []) (λ k. refl) (λ k d low below. absurd (omega (arith, below)));
  none = λ firm. none_alone s (pipe_node q.0) alone firm;
}

-- ---- By what is noted

module _ (x : Store) (h : IsSound x) (none : x.waits.taken ≡ []) where
  abbrev nodes_noted : Notes → List Node
  nodes_noted m = nodes_of promise_node m.promises ++ ((nodes_of field_node m.outcomes ++ (nodes_of import_node m.imports ++ nodes_of pipe_node m.questions)) ++ [])

  covers_all : (m : Notes) → noted_of x.names ≡ m → Covers (state_of x) (nodes_noted m)
  covers_all m is = subst (λ (m : Notes). Covers (state_of x) (nodes_noted m)) is (covers_noted x h.counted none h.covered [])

  pub outcome_noted : (o : ℕ) → noted_of x.names ≡ record nothing_noted { outcomes = o ∷ [] } → named_by_thing (state_of x) (field_node o) ≡ [] → AreOver (state_of x) []
  outcome_noted o is silent = outcome_alone (state_of x) o (record { covers = covers_all (record nothing_noted { outcomes = o ∷ [] }) is; silent = silent })

  pub question_noted : (q : ℕ) → noted_of x.names ≡ record nothing_noted { questions = q ∷ [] } → named_by_thing (state_of x) (pipe_node q) ≡ [] → GoesAlone (state_of x) (pipe_node q)
  question_noted q is silent = record { covers = covers_all (record nothing_noted { questions = q ∷ [] }) is; silent = silent }
