-- What a command of any kind answers and does.
use Rattle.std.specs.Prelude.{◌≡◌, Result, Ok, Err}
use Rattle.rpc_machine.specs.declared.command.Command.{Command}
use Rattle.rpc_machine.specs.declared.command.Granted.{Granted}
use Rattle.rpc_machine.specs.declared.command.Refusal.{Refusal}
use Rattle.rpc_machine.specs.declared.command.Effects.{Effects}
use Rattle.rpc_machine.specs.State.{State}
use Rattle.rpc_machine.specs.Progress.{quiet}
use Rattle.rpc_machine.specs.Steps.{Obeys}
use Rattle.vat_core.specs.declared.commands.Answer.{Answer}
use Rattle.vat_core.specs.declared.commands.Answer.TheVariants.{Done, Refused}

abbrev pub answer_in : Answer → Result Granted Refusal
answer_in (Done given effects) = Ok given
answer_in (Refused r c) = Err r

abbrev pub effects_in : Answer → Effects
effects_in (Done given effects) = effects
effects_in (Refused r c) = quiet

-- A command that is refused is handed back whole.
abbrev pub HandsBack : Command → Answer → Type 0
HandsBack c (Done given effects) = Unit {0}
HandsBack c (Refused r back) = back ≡ c

-- And it changes nothing.
abbrev pub ChangesNothing : State → Answer → State → Type 0
ChangesNothing old (Done given effects) new = Unit {0}
ChangesNothing old (Refused r back) new = new ≡ old

-- It answers what the machine answers to the command.
pub record AnswersTo (old : State) (c : Command) (answer : Answer) (new : State) : Type 0 where
  pub handed_back : HandsBack c answer
  pub unchanged : ChangesNothing old answer new
  pub obeys : Obeys old c (answer_in answer) (effects_in answer) new
