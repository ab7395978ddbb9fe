-- A core between its steps.
use Rattle.laws_steps.specs.NodesThere.{IsReached}
use Rattle.core_store.specs.Holding.{state_of}
use Rattle.core_steps.specs.declared.machine.Machine.{Machine}
use Rattle.core_steps.specs.Whole.{IsResting}

-- No step is in progress, and its state is one to which a vat comes.
pub record IsStanding (x : Machine) : Type 0 where
  pub resting : IsResting x
  pub reached : IsReached (state_of x.step.store)
