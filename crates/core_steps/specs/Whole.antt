-- Whole steps: a vat between them, and what a command answers.
use Rattle.std.specs.Prelude.{◌≡◌, ℕ, Bool, true, ◌||◌, nat_le, None, Some, Result, Ok, Err, []}
use Rattle.rpc_machine.specs.declared.command.Command.{Command}
use Rattle.rpc_machine.specs.declared.command.Granted.{Granted}
use Rattle.rpc_machine.specs.declared.command.Refusal.{Refusal}
use Rattle.rpc_machine.specs.declared.command.Refusal.TheVariants as refusal
use Rattle.rpc_msg.specs.declared.message.Message.{Message}
use Rattle.rpc_machine.specs.declared.command.Effects.{Effects}
use Rattle.rpc_machine.specs.State.{State, start}
use Rattle.rpc_machine.specs.Progress.{Progress, begin, quiet}
use Rattle.rpc_machine.specs.Commands.{Acts}
use Rattle.rpc_machine.specs.Messages.{Takes}
use Rattle.rpc_machine.specs.Settling.{Drains}
use Rattle.rpc_machine.specs.Steps.{Obeys}
use Rattle.rpc_machine.specs.Limits.{held_limit}
use Rattle.rpc_machine.specs.Fullness.{has_no_room}
use Rattle.core_store.specs.declared.store.Store.{Store}
use Rattle.core_store.specs.Holding.{state_of, IsSound}
use Rattle.core_step.specs.InProgress.{IsIdle}
use Rattle.core_steps.specs.declared.machine.Machine.{Machine}
use Rattle.core_steps.specs.declared.machine.Named.{Named}

-- A vat that is up: no step is in progress, and the memory of an Abort is there.
pub record IsUp (x : Machine) : Type 0 where
  pub idle : IsIdle x.step
  pub can_abort : x.spare.can_abort ≡ true

-- A vat between its steps. No call is taken out to be routed, whether it is up or not.
pub record IsResting (x : Machine) : Type 0 where
  pub sound : IsSound x.step.store
  pub none_taken : x.step.store.waits.taken ≡ []
  pub up : x.step.store.down ≡ None → IsUp x

-- Nothing is left but its names, and the number with which it went down.
abbrev pub fallen_as : Named → ℕ → State
fallen_as x n = record (start x.vat x.level x.bootstrap) { down = Some n }

-- A table is full, or as many calls wait as may.
abbrev pub meets_limit : Store → Bool
meets_limit x =
    has_no_room x.questions.entries || has_no_room x.answers.entries || has_no_room x.imports.entries || has_no_room x.exports.entries
    || has_no_room x.waits.embargoes || nat_le held_limit x.waits.held

-- What a command answers, where it isn't refused: what it gives, or that it is refused for want of memory.
abbrev pub given : {A E : Type 0} → (A → Granted) → Result A E → Result Granted Refusal
given granted_by (Ok x) = Ok (granted_by x)
given granted_by (Err e) = Err refusal.Memory

-- What it says: nothing where it is refused.
abbrev pub said : {A E : Type 0} → (A → Effects) → Result A E → Effects
said effects_by (Ok x) = effects_by x
said effects_by (Err e) = quiet

-- A command that is not refused is done, or is refused for want of memory, and does nothing then.
abbrev pub Tries : {A E : Type 0} → Machine → Command → (A → Granted) → (A → Effects) → Result A E → Machine → Type 0
Tries old c granted_by effects_by result new = Obeys (state_of old.step.store) c (given granted_by result) (said effects_by result) (state_of new.step.store)

-- The first act of a command is done, and what arose is settled.
abbrev pub WasDone : State → Command → Granted → Progress → Type 0
WasDone s c g now = (acted : Progress) × Acts (begin s) c g acted × Drains now acted

-- A message is taken, and what arose is settled.
abbrev pub WasTaken : State → Message → Progress → Type 0
WasTaken s m now = (taken : Progress) × Takes (begin s) m taken × Drains now taken
