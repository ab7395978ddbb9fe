-- Steps read neither stamps nor how contents are laid out, and why a node is broken is told and decides nothing. So a step over
-- a wire is a step in one world.
use Rattle.std.specs.Prelude.{◌≡◌, true, false, Result}
use Rattle.rpc_machine.specs.declared.command.Command.{Command}
use Rattle.rpc_machine.specs.declared.command.Granted.{Granted}
use Rattle.rpc_machine.specs.declared.command.Refusal.{Refusal}
use Rattle.rpc_machine.specs.declared.command.Effects.{Effects}
use Rattle.rpc_machine.specs.State.{State}
use Rattle.rpc_machine.specs.Steps.{Obeys, Receives}
use Rattle.laws_wired.specs.Pairs.{TwoStates, TwoMessages, TwoEffects, state_at, message_at, effects_at}

-- A step over a wire that says this and leaves this is, in one world, a step that says and leaves alike.
abbrev pub ComesAlike : Effects → State → (Effects → State → Type 0) → Type 0
ComesAlike said new IsStep = (e : TwoEffects) × (y : TwoStates) × (said ≡ effects_at false e) × (new ≡ state_at false y) × IsStep (effects_at true e) (state_at true y)

-- A command is answered the same in both, and each message that is heard is taken in both.
pub record StepsAreAlike : Type 0 where
  pub commands : (z : TwoStates) (c : Command) (answer : Result Granted Refusal) (said : Effects) (new : State)
      → Obeys (state_at false z) c answer said new → ComesAlike said new (Obeys (state_at true z) c answer)
  pub messages : (z : TwoStates) (m : TwoMessages) (said : Effects) (new : State)
      → Receives (state_at false z) (message_at false m) said new → ComesAlike said new (Receives (state_at true z) (message_at true m))
