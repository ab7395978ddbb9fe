-- A command for which an end has no room is a shut (docs/threads.md).
use Rattle.std.specs.Prelude.{◌≡◌, ℕ, true, None, Result, Ok}
use Rattle.rpc_machine.specs.declared.command.Command.{Command}
use Rattle.rpc_machine.specs.declared.command.Command.TheVariants as command
use Rattle.rpc_machine.specs.declared.command.Granted.{Granted}
use Rattle.rpc_machine.specs.declared.command.Granted.TheVariants as granted
use Rattle.rpc_machine.specs.declared.command.Refusal.{Refusal}
use Rattle.rpc_machine.specs.declared.command.Effects.{Effects}
use Rattle.rpc_machine.specs.State.{State}
use Rattle.rpc_machine.specs.Down.{Falls}
use Rattle.rpc_machine.specs.Steps.{Obeys}
use Rattle.rpc_machine.specs.World.{CommandTold}

-- s: before the command; mid: after it; new: after the vat fell with that number.
abbrev pub OverflowIsShut : Type 0
OverflowIsShut =
    (s mid new : State) (c : Command) (answer : Result Granted Refusal) (done effects : Effects) (n : ℕ)
    → s.down ≡ None → Obeys s c answer done mid → Falls mid n effects new
    → CommandTold s (command.Shut n) (Ok granted.Done) effects true new
