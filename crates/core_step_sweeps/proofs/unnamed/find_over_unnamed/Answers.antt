use Rattle.std.proofs.Common.{rules, ◌≡◌, ◌==◌, true, ℕ, List, length, get_or, sym, ap, subst, ◌∙◌}
use Rattle.rpc_msg.specs.declared.ids.QuestionId.{QuestionId}
use Rattle.core_store.specs.Holding.{state_of}
use Rattle.core_step_sweeps.specs.Over.{AreOver}
use Rattle.core_step_sweeps.proofs.ListedKeys.{none_listed}
use Rattle.core_step_sweeps.proofs.Withering.{unnoted_over, noted_only}
use Rattle.core_step_sweeps.proofs.unnamed.find_over_unnamed.Goals as goal

pub returns-then-is_empty-clause-over : goal.returns-then-is_empty-clause-over
returns-then-is_empty-clause-over c =
    let keys : List ℕ = c.noted_questions-keys.result.now in
    let empty : (length keys == 0) ≡ true = search rules in
    subst (λ (ids : List QuestionId). AreOver (state_of c.args.store.now) ids) (sym c.requires.none_yet)
    (unnoted_over c.args.store.now c.requires.sound c.requires.none_taken c.requires.unnamed (sym c.noted_questions-keys.ensures.value ∙ none_listed keys empty))

pub find_over_alone-requires-clause-only : goal.find_over_alone-requires-clause-only
find_over_alone-requires-clause-only c =
    let keys : List ℕ = c.noted_questions-keys.result.now in
    let q : QuestionId = record { 0 = get_or keys 0 0 } in
    noted_only c.args.store.now c.requires.sound c.requires.none_taken c.requires.unnamed c.requires.few q (ap (λ (ks : List ℕ). get_or ks 0 0) c.noted_questions-keys.ensures.value)
