use Rattle.std.proofs.Common.{rules, ◌≡◌, ◌==◌, true, List, [], ◌∷◌, length, refl, arith}
use Rattle.rpc_msg.specs.declared.ids.QuestionId.{QuestionId}
use Rattle.rpc_machine.specs.State.{State}
use Rattle.rpc_machine.specs.Progress.{Progress}
use Rattle.rpc_machine.specs.Sweeping.{FinishesEach}
use Rattle.core_store.specs.Holding.{state_of}
use Rattle.core_step_sweeps.specs.Ending.{finishing_of}
use Rattle.core_step_sweeps.specs.Over.{standing}
use Rattle.core_step_sweeps.proofs.sweeps.finish_any.Goals as goal

none_finished : (d : Progress) (s : State) (qs : List QuestionId) → (length qs == 0) ≡ true → FinishesEach d (standing s qs) d
none_finished d s [] e = refl
none_finished d s (q ∷ qs) e = absurd (grind (arith, e))

pub returns-then-is_empty-clause-each : goal.returns-then-is_empty-clause-each
returns-then-is_empty-clause-each c =
    let empty : (length c.args.over.now == 0) ≡ true = search rules in
    none_finished (finishing_of c.args.step.now) (state_of c.args.step.now.store) c.args.over.now empty
