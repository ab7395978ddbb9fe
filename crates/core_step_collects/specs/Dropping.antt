-- One thing after the other goes of a vat.
use Rattle.std.specs.Prelude.{◌≡◌, ℕ, ◌+◌, ◌<◌}
use Rattle.std.specs.FinMap as map
use Rattle.rpc_machine.specs.State.{State}
use Rattle.rpc_machine.specs.Collecting.{Goes}
use Rattle.core_store.specs.Holding.{state_of}
use Rattle.core_step.specs.declared.step.Step.{Step}
use Rattle.core_step.specs.InProgress.{progress_of}

-- How many things there are that may have to go.
abbrev pub things : State → ℕ
things s = map.len s.promises + map.len s.outcomes + map.len s.imports

-- One thing went.
pub record Drops (old new : Step) : Type 0 where
  pub goes : Goes (progress_of old) (progress_of new)
  pub fewer : things (state_of new.store) < things (state_of old.store)

-- Of what the step says only Releases came; what arose, the questions and the slack are as they were.
pub record OnlyReleases (old new : Step) : Type 0 where
  pub outbox : new.outbox ≡ record (old.outbox) { releases = new.outbox.releases; release_room = new.outbox.release_room }
  pub arisen : new.arisen ≡ old.arisen
  pub questions : new.store.questions.entries ≡ old.store.questions.entries
  pub left : new.store.slack ≡ old.store.slack

-- Nothing went, and this holds.
pub record Rests (old new : Step) (P : Type 0) : Type 0 where
  pub same : progress_of new ≡ progress_of old
  pub rest : P
