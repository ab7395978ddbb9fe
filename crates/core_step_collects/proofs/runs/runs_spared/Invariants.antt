use Rattle.core_store.specs.Holding.{state_of}
use Rattle.core_step_collects.proofs.Walking.{Walked, may_go}
use Rattle.core_step_collects.proofs.runs.runs_spared.Given as goal

abbrev pub invariant-loop-at : goal.invariant-loop-at
invariant-loop-at l = Walked (may_go (state_of l.store)) l.ids l.start l.at
