use Rattle.std.proofs.Common.{◌∷◌, [], ◌++◌, List, sym, ap, subst, ◌∙◌}
use Rattle.rpc_msg.specs.declared.ids.QuestionId.{QuestionId}
use Rattle.core_store.specs.Holding.{state_of}
use Rattle.core_step_sweeps.specs.Over.{AreOver}
use Rattle.core_step_sweeps.proofs.alone.find_over_alone.Goals as goal

pub returns-then-not-is_to_be_finished-clause-over :
    goal.returns-then-not-is_to_be_finished-clause-over
returns-then-not-is_to_be_finished-clause-over c =
    subst (λ (ids : List QuestionId). AreOver (state_of c.args.store.now) ids) (sym c.requires.none_yet) (c.requires.only.none c.if-not-is_to_be_finished.ensures)

pub returns-clause-over : goal.returns-clause-over
returns-clause-over c =
    subst (λ (ids : List QuestionId). AreOver (state_of c.args.store.now) ids) (sym (c.in_ok-push.ensures.items ∙ ap (λ (ids : List QuestionId). ids ++ c.args.id ∷ []) c.requires.none_yet))
    (c.requires.only.over c.if-not-is_to_be_finished.ensures)
