use Rattle.std.proofs.Common.{◌≡◌, true, false, ap, subst, ◌∙◌}
use Rattle.std.specs.FinMap as map
use Rattle.rpc_machine.specs.State.{State}
use Rattle.rpc_machine.specs.Collecting.{IsLooseOutcome, IsLooseImport}
use Rattle.rpc_machine.specs.Sweeping.{IsToFinish}
use Rattle.core_store.specs.declared.store.Store.{Store}
use Rattle.core_store.specs.Holding.{state_of}
use Rattle.core_step_sweeps.specs.Thinking.{promise_node, field_node, import_node, pipe_node}
use Rattle.core_step_sweeps.proofs.notes.rest.Goals as goal

pub returns-in_default-clause-never : goal.returns-in_default-clause-never
returns-in_default-clause-never c = λ quiet. absurd (quiet (promise_node c.in_default.field-0) c.in_default.ensures.some)

pub returns-in_default-next_loose_outcome-clause-never :
    goal.returns-in_default-next_loose_outcome-clause-never
returns-in_default-next_loose_outcome-clause-never c =
    let o = c.in_default-next_loose_outcome.field-0 in
    let same = ap (λ (x : Store). state_of x) c.in-None.ensures.same in
    λ quiet. absurd (quiet (field_node o) (subst (λ (s : State). IsLooseOutcome s o (map.get s.outcomes o)) same c.in_default-next_loose_outcome.ensures.some))

pub returns-in_default-next_loose_import-clause-never :
    goal.returns-in_default-next_loose_import-clause-never
returns-in_default-next_loose_import-clause-never c =
    let e = c.in_default-next_loose_import.field-0.0 in
    let same = ap (λ (x : Store). state_of x) c.in-None-next_loose_outcome.ensures.same ∙ ap (λ (x : Store). state_of x) c.in-None.ensures.same in
    λ quiet. absurd (quiet (import_node e) (subst (λ (s : State). IsLooseImport s e (map.get s.imports e)) same c.in_default-next_loose_import.ensures.some))

pub returns-in_err-rest_questions-clause-never : goal.returns-in_err-rest_questions-clause-never
returns-in_err-rest_questions-clause-never c =
    let same = ap (λ (x : Store). state_of x) c.in-None-next_loose_import.ensures.same ∙ ap (λ (x : Store). state_of x) c.in-None-next_loose_outcome.ensures.same
    ∙ ap (λ (x : Store). state_of x) c.in-None.ensures.same in
    λ quiet. absurd (let no : false ≡ true = c.in_err-rest_questions.ensures.never (λ q over. quiet (pipe_node q) (subst (λ (s : State). IsToFinish s q (map.get s.questions q)) same over)) in cc)
