-- A step in progress as the machine has it, and what holds of its parts together.
use Rattle.std.specs.Prelude.{◌≡◌, ℕ, ◌+◌, ◌≤◌, true, []}
use Rattle.std.specs.FinMap as map
use Rattle.rpc_machine.specs.Progress.{Progress, quiet}
use Rattle.core_store.specs.declared.store.Store.{Store}
use Rattle.core_store.specs.Holding.{state_of, IsSound}
use Rattle.core_step.specs.declared.step.Step.{Step}

-- The step so far.
abbrev pub progress_of : Step → Progress
progress_of x = record { state = state_of x.store; effects = x.outbox.said; arisen = x.arisen.0; released = x.outbox.releases }

-- What is held is sound; what is said and what arises has as much room as the vat's slack; each question has room for its
-- Finish, and each import for its Release; no Finish is made yet; and the memory of an Abort is there.
pub record IsReady (x : Step) : Type 0 where
  pub sound : IsSound x.store
  pub outbox : x.store.slack ≤ x.outbox.room
  pub arisen : x.store.slack ≤ x.arisen.1
  pub finishes : map.len x.store.questions.entries + x.store.slack ≤ x.outbox.finish_room
  pub releases : map.len x.store.imports.entries + x.store.slack ≤ x.outbox.release_room
  pub unfinished : x.outbox.finishes ≡ map.empty
  pub can_abort : x.outbox.can_abort ≡ true

-- As far as what goes at the end of a step asks for it, when Finishes may be made already.
pub record IsEnding (x : Step) : Type 0 where
  pub sound : IsSound x.store
  pub outbox : x.store.slack ≤ x.outbox.room
  pub arisen : x.store.slack ≤ x.arisen.1
  pub releases : map.len x.store.imports.entries + x.store.slack ≤ x.outbox.release_room
  pub can_abort : x.outbox.can_abort ≡ true

-- No step is in progress: nothing is said, and nothing waits to be settled.
pub record IsIdle (x : Step) : Type 0 where
  pub sound : IsSound x.store
  pub said : x.outbox.said ≡ quiet
  pub arisen : x.arisen.0 ≡ []
  pub finishes : x.outbox.finishes ≡ map.empty
  pub releases : x.outbox.releases ≡ map.empty
  pub can_abort : x.outbox.can_abort ≡ true

-- The store with another slack.
abbrev pub with_slack : Store → ℕ → Store
with_slack x n = record x { slack = n }
