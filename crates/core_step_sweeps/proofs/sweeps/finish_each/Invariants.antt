use Rattle.std.proofs.Common.{◌≡◌, [], drop}
use Rattle.rpc_machine.specs.Progress.{Progress}
use Rattle.rpc_machine.specs.Sweeping.{FinishesEach}
use Rattle.core_store.specs.Holding.{state_of}
use Rattle.core_step.specs.InProgress.{IsEnding}
use Rattle.core_step_sweeps.specs.Ending.{finishing_of, AreLeft}
use Rattle.core_step_sweeps.specs.Over.{standing}
use Rattle.core_step_sweeps.proofs.sweeps.finish_each.Given as goal

-- What is finished from now on is finished from the beginning.
abbrev pub invariant-loop-q : goal.invariant-loop-q
invariant-loop-q l = record {
  rest : (new : Progress) → FinishesEach (finishing_of l.step) (standing (state_of l.fn.step.store) (drop l.q-index l.over)) new
      → FinishesEach (finishing_of l.fn.step) (standing (state_of l.fn.step.store) l.over) new;
  left : AreLeft (state_of l.fn.step.store) l.step (drop l.q-index l.over);
  arisen : l.step.arisen ≡ l.fn.step.arisen;
  taken : l.step.store.waits.taken ≡ [];
  ending : IsEnding l.step;
}
