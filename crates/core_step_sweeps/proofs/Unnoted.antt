-- What is noted no more: where nothing is noted nothing is loose, and a question that is not to be finished needs no note.
use Rattle.std.proofs.Common.{◌≡◌, ℕ, ◌+◌, ◌≤◌, List, [], ◌∷◌, ◌++◌, Option, None, Some, IsSome, refl, sym, ap, subst, ◌∙◌, arith, Bool}
use Rattle.std.specs.FinMap as map
use Rattle.rpc_machine.specs.declared.node.Node.{Node}
use Rattle.rpc_machine.specs.declared.node.Node.TheVariants as node
use Rattle.rpc_machine.specs.declared.entries.Question.{Question}
use Rattle.rpc_machine.specs.declared.entries.Returned.{Returned}
use Rattle.rpc_machine.specs.declared.entries.Role.{Role}
use Rattle.rpc_machine.specs.declared.entries.Role.TheVariants as role
use Rattle.rpc_machine.specs.State.{State}
use Rattle.rpc_machine.specs.Lists.{how_many}
use Rattle.rpc_machine.specs.Places.{places}
use Rattle.rpc_machine.specs.Sweeping.{IsToFinish, IsOver}
use Rattle.core_refcounts.specs.Names.{Counted, Names, Counts, Takes, times_named, noting}
use Rattle.core_store.specs.declared.store.Store.{Store}
use Rattle.core_store.specs.Holding.{state_of, IsNotedFor, IsNotedAs, HasReturned, IsSound}
use Rattle.core_store.specs.Noted.{Notes, noted_of, nothing_noted}
use Rattle.core_step_collects.proofs.Searching.{with_notes, noted_again, others}
use Rattle.core_step_sweeps.specs.Thinking.{IsQuiet, is_of, nodes_of, promise_node, field_node, import_node, pipe_node}
use Rattle.core_step_sweeps.proofs.Looking.{counts_places}
use Rattle.core_step_sweeps.proofs.Ending.{how_many_noted, covers_noted}

-- ---- Nothing is noted

none_of : (node_of : ℕ → Node) (test : Node → Bool) (keys : List ℕ) → keys ≡ [] → how_many test (nodes_of node_of keys) ≡ 0
none_of node_of test keys none = ap (λ (ks : List ℕ). how_many test (nodes_of node_of ks)) none

pub quiet_unnoted : (x : Store) → IsSound x → x.waits.taken ≡ [] → noted_of x.names ≡ nothing_noted → IsQuiet (state_of x)
quiet_unnoted x h none rested n loose =
    let among = covers_noted x h.counted none h.covered [] n loose in
    let all = how_many_noted x h.counted none h.covered [] (is_of n) in
    let a = none_of promise_node (is_of n) x.names.promises.noted (ap (λ (m : Notes). m.promises) rested) in
    let b = none_of field_node (is_of n) x.names.outcomes.noted (ap (λ (m : Notes). m.outcomes) rested) in
    let c = none_of import_node (is_of n) x.names.imports.noted (ap (λ (m : Notes). m.imports) rested) in
    let d = none_of pipe_node (is_of n) x.names.questions.noted (ap (λ (m : Notes). m.questions) rested) in
    omega (arith, among, all, a, b, c, d)

-- ---- A question is noted no more

module _ (x : Store) (none : x.waits.taken ≡ []) (h : IsSound x) where
  abbrev s : State
  s = state_of x

  here : Counts x.names (places s)
  here = counts_places x h.counted none

  abbrev ToFinish : ℕ → Type 0
  ToFinish q = IsToFinish s q (map.get s.questions q)

  abbrev renoted : List ℕ → ℕ → Names
  renoted xs n = record (x.names) { questions = with_notes x.names.questions xs n }

  bounded : (xs : List ℕ) (m : ℕ) (n : Node) → times_named (renoted xs m) n ≤ x.added
  bounded xs m (node.Object o) = h.bounded.names (node.Object o)
  bounded xs m (node.Promise p) = h.bounded.names (node.Promise p)
  bounded xs m (node.Field o path) = h.bounded.names (node.Field o path)
  bounded xs m (node.Import e) = h.bounded.names (node.Import e)
  bounded xs m (node.Pipe q path) = h.bounded.names (node.Pipe q path)
  bounded xs m (node.Broken reason) = h.bounded.names (node.Broken reason)

  module _ (xs : List ℕ) (k : ℕ) (e : x.names.questions.noted ≡ xs ++ k ∷ []) (open_still : ¬ (ToFinish k)) where
    returned : (o : Option Returned) → HasReturned o → IsSome o
    returned None g = absurd g
    returned (Some said) g = refl

    abbrev fewer : Counted
    fewer = with_notes x.names.questions xs (x.names.questions.spare + 1)

    -- By its role.
    for_role : (q : ℕ) (y : Question) (r : Role) → (IsOver s q y r → ToFinish q) → IsNotedFor s x.names.questions q y r → IsNotedFor s fewer q y r
    for_role q y (role.Relay o) over g = λ said. others x.names.questions.noted xs k q ToFinish e open_still (over (returned y.returned said)) (g said)
    for_role q y (role.Direct c) over g = λ done zero. others x.names.questions.noted xs k q ToFinish e open_still (over (done, sym (here.questions q) ∙ zero)) (g done zero)

    for_entry : (q : ℕ) (o : Option Question) → (IsToFinish s q o → ToFinish q) → IsNotedAs s x.names.questions q o → IsNotedAs s fewer q o
    for_entry q None is g = tt
    for_entry q (Some y) is g = λ sent. for_role q y y.role (λ over. is (sent, over)) (g sent)

    dropped : IsSound (record x { names = renoted xs (x.names.questions.spare + 1) })
    dropped = record {
      counted = record { promises = h.counted.promises; outcomes = h.counted.outcomes; imports = h.counted.imports; questions = h.counted.questions; objects = h.counted.objects };
      covered = record {
        promises = h.covered.promises;
        outcomes = h.covered.outcomes;
        imports = h.covered.imports;
        questions = λ q. for_entry q (map.get s.questions q) (λ g. g) (h.covered.questions q);
      };
      within = h.within;
      numbered = h.numbered;
      holds = record { counted = h.holds.counted; within = h.holds.within };
      far = h.far;
      bounded = record { names = bounded xs (x.names.questions.spare + 1); links = h.bounded.links; added = h.bounded.added };
      room = record {
        questions = h.room.questions;
        answers = h.room.answers;
        imports = h.room.imports;
        exports = h.room.exports;
        refs = h.room.refs;
        calls = h.room.calls;
        tasks = h.room.tasks;
        unsettled = h.room.unsettled;
        waits = h.room.waits;
        names = record { promises = h.room.names.promises; outcomes = h.room.names.outcomes; imports = h.room.names.imports; questions = h.room.names.questions; objects = h.room.names.objects };
        notes = record {
          promises = h.room.notes.promises;
          outcomes = h.room.notes.outcomes;
          imports = h.room.notes.imports;
          questions = let n = h.room.notes.questions in omega (arith, n);
        };
      };
    }

  pub question_passed : (t : Names) (k : ℕ) → Takes x.names.questions (Some k) t.questions (t ≡ record (x.names) { questions = t.questions }) → ¬ (ToFinish k) → IsSound (record x { names = t })
  question_passed t k took tight =
      subst (λ (n : Names). IsSound (record x { names = n })) (sym (took.2 ∙ ap (λ (c : Counted). record (x.names) { questions = c }) took.1)) (dropped t.questions.noted k took.0 tight)

  pub question_again : (t u : Names) (k : ℕ) → Takes x.names.questions (Some k) t.questions (t ≡ record (x.names) { questions = t.questions }) → u ≡ record t { questions = noting t.questions k } → IsSound (record x { names = u })
  question_again t u k took e =
      let back : u ≡ x.names =
      e ∙ ap (λ (n : Names). record n { questions = noting t.questions k }) took.2 ∙ ap (λ (c : Counted). record (x.names) { questions = c }) (noted_again x.names.questions t.questions k took.0 took.1) in
      subst (λ (n : Names). IsSound (record x { names = n })) (sym back) h
