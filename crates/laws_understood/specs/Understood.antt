-- Messages that a vat of level 1 understands (docs/protocol.md, "Received messages of the whole
-- machine"; rpc.capnp, Message.unimplemented).
use Rattle.std.specs.Prelude.{◌≡◌, Result, List, All}
use Rattle.rpc_msg.specs.declared.ids.Vat.{Vat}
use Rattle.rpc_msg.specs.declared.message.PlainMessage.TheVariants as plain
use Rattle.rpc_msg.specs.declared.message.Message.{Message}
use Rattle.rpc_msg.specs.declared.message.Message.TheVariants as message
use Rattle.rpc_journal.specs.declared.entry.JournalEntry.{JournalEntry}
use Rattle.rpc_journal.specs.declared.entry.JournalEntry.TheVariants as entry
use Rattle.rpc_machine.specs.declared.command.Command.{Command}
use Rattle.rpc_machine.specs.declared.command.Granted.{Granted}
use Rattle.rpc_machine.specs.declared.command.Refusal.{Refusal}
use Rattle.rpc_machine.specs.declared.command.Effects.{Effects}
use Rattle.rpc_machine.specs.declared.command.Level.TheVariants.{One}
use Rattle.rpc_machine.specs.State.{State}
use Rattle.rpc_machine.specs.Steps.{Obeys, Receives}
use Rattle.rpc_machine.specs.World.{World, inbox}
use Rattle.rpc_machine.specs.Claims.{EveryRun}
use Rattle.rpc_journal.specs.Meaning.{History}

-- It is neither an Unimplemented nor an `Other`.
abbrev pub IsUnderstood : Message → Type 0
IsUnderstood (message.Plain (plain.Other n)) = ⊥
IsUnderstood (message.Plain m) = Unit {0}
IsUnderstood (message.Unimplemented m) = ⊥

abbrev pub AllUnderstood : List Message → Type 0
AllUnderstood ms = All IsUnderstood ms

-- From any state. The level matters for received messages alone: a vat of level 0 sends a Resolve, a Release and a
-- Disembargo back as Unimplemented.
pub record StepsSendUnderstood : Type 0 where
  pub commands : (s : State) (c : Command) (answer : Result Granted Refusal) (x : Effects) (t : State) → Obeys s c answer x t → AllUnderstood x.sends
  pub messages : (s : State) (m : Message) (x : Effects) (t : State) → s.level ≡ One → IsUnderstood m → Receives s m x t → AllUnderstood x.sends

-- Where the entry says that a message was sent, that message is understood.
abbrev pub IfSends : JournalEntry → Type 0
IfSends (entry.Sent v m) = IsUnderstood m
IfSends e = Unit {0}

-- All that was sent is understood, and all that is on its way to either vat.
pub record IsAllUnderstood (h : History) (w : World) : Type 0 where
  pub sent : All IfSends h.journal
  pub on_way : (v : Vat) → AllUnderstood (inbox w v)

abbrev pub EveryRunIsUnderstood : Type 0
EveryRunIsUnderstood = EveryRun (λ h xs w. IsAllUnderstood h w)
