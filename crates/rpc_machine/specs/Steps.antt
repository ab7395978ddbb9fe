-- The step of a core: what a command answers, sends and leaves, and what a received message does (docs/protocol.md,
-- "What a step is").
use Rattle.std.specs.Prelude.{◌≡◌, ℕ, None, Some, IsSome, Result, Ok, Err}
use Rattle.rpc_journal.specs.rpc_msg.specs.declared.message.PlainMessage.{PlainMessage}
use Rattle.rpc_journal.specs.rpc_msg.specs.declared.message.PlainMessage.TheVariants as plain
use Rattle.rpc_journal.specs.rpc_msg.specs.declared.message.Message.{Message}
use Rattle.rpc_journal.specs.rpc_msg.specs.declared.message.Message.TheVariants as message
use Rattle.rpc_machine.specs.declared.command.Command.{Command}
use Rattle.rpc_machine.specs.declared.command.Command.TheVariants as command
use Rattle.rpc_machine.specs.declared.command.Granted.{Granted}
use Rattle.rpc_machine.specs.declared.command.Granted.TheVariants as granted
use Rattle.rpc_machine.specs.declared.command.Refusal.{Refusal}
use Rattle.rpc_machine.specs.declared.command.Refusal.TheVariants as refusal
use Rattle.rpc_machine.specs.declared.command.Effects.{Effects}
use Rattle.rpc_machine.specs.Numbers.{want_of_room}
use Rattle.rpc_machine.specs.State.{State}
use Rattle.rpc_machine.specs.Progress.{Progress, begin}
use Rattle.rpc_machine.specs.Settling.{Drains}
use Rattle.rpc_machine.specs.Sweeping.{Sweeps}
use Rattle.rpc_machine.specs.Limits.{IsWithin}
use Rattle.rpc_machine.specs.Down.{IsUnchanged, Falls, ShutsFrom, fallen, falling_by}
use Rattle.rpc_machine.specs.Refusals.{refused}
use Rattle.rpc_machine.specs.Faults.{fault_of}
use Rattle.rpc_machine.specs.Commands.{Acts}
use Rattle.rpc_machine.specs.Messages.{Takes}

-- A step that comes to its end does not take the vat down.
abbrev pub staying_up : Effects → Effects
staying_up effects = record effects { down = None }

-- The end of a step whose first act led to `acted`: the outcomes that arose are settled, and then what no place names
-- goes.
pub record Ends (acted : Progress) (effects : Effects) (new : State) : Type 0 where
  pub drained : Progress
  pub swept : Progress
  pub drains : Drains drained acted
  pub sweeps : Sweeps drained swept
  pub effects_are : effects ≡ staying_up swept.effects
  pub new_is : new ≡ swept.state

-- ---- Commands

-- The command is done, and passes no limit.
pub record Does (s : State) (c : Command) (answer : Granted) (effects : Effects) (new : State) : Type 0 where
  pub acted : Progress
  pub acts : Acts (begin s) c answer acted
  pub ends : Ends acted effects new

-- Want of room, or of memory, takes the vat down in these; they are never refused for it.
abbrev pub MayFall : Command → Type 0
MayFall (command.Resolve p r) = Unit {0}
MayFall (command.Reject p exception) = Unit {0}
MayFall (command.Answer t payload refs) = Unit {0}
MayFall (command.Fail t exception) = Unit {0}
MayFall c = ⊥

-- These are refused for want of memory. A shut needs none.
abbrev pub MayLackMemory : Command → Type 0
MayLackMemory (command.Resolve p r) = ⊥
MayLackMemory (command.Reject p exception) = ⊥
MayLackMemory (command.Answer t payload refs) = ⊥
MayLackMemory (command.Fail t exception) = ⊥
MayLackMemory (command.Shut n) = ⊥
MayLackMemory c = Unit {0}

-- What a command may answer, do and leave.
pub data Obeys (s : State) (c : Command) (answer : Result Granted Refusal) (effects : Effects) (new : State) : Type 0 where
  Refuses : (r : Refusal) → refused s c ≡ Some r → answer ≡ Err r → IsUnchanged s effects new → Obeys s c answer effects new
  LacksMemory : refused s c ≡ None → MayLackMemory c → answer ≡ Err refusal.Memory → IsUnchanged s effects new → Obeys s c answer effects new
  GoesDown : refused s c ≡ None → MayFall c → answer ≡ Ok granted.Done → Falls s want_of_room effects new → Obeys s c answer effects new
  Shuts : (n : ℕ) → c ≡ command.Shut n → answer ≡ Ok granted.Done → ShutsFrom s n s.down effects new → Obeys s c answer effects new
  IsDone : (given : Granted) → refused s c ≡ None → answer ≡ Ok given → Does s c given effects new → IsWithin new → Obeys s c answer effects new

-- ---- Received messages

-- The message is taken.
pub record Handles (s : State) (m : Message) (effects : Effects) (new : State) : Type 0 where
  pub taken : Progress
  pub takes : Takes (begin s) m taken
  pub ends : Ends taken effects new

-- Want of room, or of memory, takes the vat down in these. A received Abort takes it down by itself, and needs none.
abbrev pub NeedsRoom : PlainMessage → Type 0
NeedsRoom (plain.Abort exception) = ⊥
NeedsRoom m = Unit {0}

abbrev pub MayLackRoom : Message → Type 0
MayLackRoom (message.Plain m) = NeedsRoom m
MayLackRoom (message.Unimplemented m) = Unit {0}

-- What a received message may do and leave. At a vat that is down it does nothing. Want of room, or of memory, is fault
-- 33, and may come for any message but an Abort at a vat that is up; where there is memory, the first check that fails is
-- the fault.
pub data Receives (s : State) (m : Message) (effects : Effects) (new : State) : Type 0 where
  WasDown : IsSome s.down → IsUnchanged s effects new → Receives s m effects new
  FaultsBy : (n : ℕ) → s.down ≡ None → fault_of s m ≡ Some n → effects ≡ falling_by m n → new ≡ fallen s n → Receives s m effects new
  LacksRoom : s.down ≡ None → MayLackRoom m → Falls s want_of_room effects new → Receives s m effects new
  IsHandled : s.down ≡ None → fault_of s m ≡ None → Handles s m effects new → IsWithin new → Receives s m effects new
