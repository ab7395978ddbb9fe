use Rattle.std.proofs.Common.{List, refl, sym, subst}
use Rattle.rpc_msg.specs.declared.ids.QuestionId.{QuestionId}
use Rattle.core_store.specs.Holding.{state_of}
use Rattle.core_step_sweeps.specs.Over.{AreOver}
use Rattle.core_step_sweeps.proofs.Ending.{none_over}
use Rattle.core_step_sweeps.proofs.Single.{question_alone}
use Rattle.core_step_sweeps.proofs.Unnoted.{quiet_unnoted}
use Rattle.core_step_sweeps.proofs.over.find_over_named.Goals as goal

pub returns-then-nothing_is_noted-clause-over : goal.returns-then-nothing_is_noted-clause-over
returns-then-nothing_is_noted-clause-over c =
    none_over (state_of c.args.store.now) (quiet_unnoted c.args.store.now c.requires.sound c.requires.none_taken (c.if-nothing_is_noted.ensures refl)) _ c.requires.none_yet

pub returns-then-leaves_none_over-clause-over : goal.returns-then-leaves_none_over-clause-over
returns-then-leaves_none_over-clause-over c = subst (λ (ids : List QuestionId). AreOver (state_of c.args.store.now) ids) (sym c.requires.none_yet) (c.if-leaves_none_over.ensures refl)

pub find_over_alone-requires-clause-only : goal.find_over_alone-requires-clause-only
find_over_alone-requires-clause-only c = question_alone (state_of c.args.store.now) c.in-Some.id c.in-Some.ensures
