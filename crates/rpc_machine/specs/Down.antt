-- A vat goes down (docs/protocol.md, "Down"; rpc.capnp, Abort).
use Rattle.std.specs.Prelude.{◌≡◌, ℕ, Option, None, Some, [], ◌∷◌, ◌++◌, codes, decimal}
use Rattle.rpc_journal.specs.rpc_msg.specs.declared.message.PlainMessage.TheVariants as plain
use Rattle.rpc_journal.specs.rpc_msg.specs.declared.message.Message.{Message}
use Rattle.rpc_journal.specs.rpc_msg.specs.declared.message.Message.TheVariants as message
use Rattle.rpc_machine.specs.declared.command.Effects.{Effects}
use Rattle.rpc_machine.specs.State.{State, start}
use Rattle.rpc_machine.specs.Progress.{quiet}
use Rattle.rpc_machine.specs.Routing.{failed}

-- Nothing is left but its vat, level, bootstrap object and the number with which it went down.
abbrev pub fallen : State → ℕ → State
fallen s n = record (start s.vat s.level s.bootstrap) { down = Some n }

-- Nothing is sent.
abbrev pub silent : ℕ → Effects
silent n = record { sends = []; deliveries = []; answers = []; down = Some n }

-- One Abort alone.
abbrev pub falling : ℕ → Effects
falling n = record (silent n) { sends = message.Plain (plain.Abort (failed (codes "fault " ++ decimal n))) ∷ [] }

-- A received Abort isn't answered.
abbrev pub falling_by : Message → ℕ → Effects
falling_by (message.Plain (plain.Abort exception)) n = silent n
falling_by m n = falling n

pub record Falls (s : State) (n : ℕ) (effects : Effects) (new : State) : Type 0 where
  pub effects_are : effects ≡ falling n
  pub new_is : new ≡ fallen s n

pub record IsUnchanged (s : State) (effects : Effects) (new : State) : Type 0 where
  pub effects_are : effects ≡ quiet
  pub new_is : new ≡ s

-- A shut takes down a vat that is up, with its number. It does nothing to one that is down.
abbrev pub ShutsFrom : State → ℕ → Option ℕ → Effects → State → Type 0
ShutsFrom s n None effects new = Falls s n effects new
ShutsFrom s n (Some before) effects new = IsUnchanged s effects new
