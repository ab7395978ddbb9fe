-- What a step of a core leaves of the runs that lead to it: each goes on, and in it the peer was given each object to which a call of
-- the peer is delivered (docs/laws/authority.md).
use Rattle.std.specs.Prelude.{List, ◌∷◌}
use Rattle.rpc_msg.specs.declared.message.Message.{Message}
use Rattle.rpc_journal.specs.declared.report.Delivery.{Delivery}
use Rattle.rpc_machine.specs.declared.command.Command.{Command}
use Rattle.rpc_machine.specs.declared.command.Effects.{Effects}
use Rattle.rpc_machine.specs.State.{State}
use Rattle.laws_authority.specs.Authority.{IsOfPeer}
use Rattle.laws_authority.specs.Reach.{IsIn}
use Rattle.laws_authority.specs.Runs.{Event, DidCommand, GotMessage, RunsTo, WasGiven, logged}
use Rattle.vat_core.specs.declared.commands.Answer.{Answer}
use Rattle.vat_core.specs.Answers.{answer_in, effects_in}

-- Each call of the peer that is delivered comes to an object that the peer was given, as the log says.
abbrev pub DeliversGiven : List Event → State → Effects → Type 0
DeliversGiven log t x = (y : Delivery) → IsIn y x.deliveries → IsOfPeer t y → WasGiven log y.object

-- Of a command: what the command itself gives counts.
abbrev pub ObeysGiven : State → Command → Answer → State → Type 0
ObeysGiven old c answer new =
    (log : List Event) → RunsTo old log
    → RunsTo new (logged old c (answer_in answer) (effects_in answer) log) × DeliversGiven (DidCommand old c (effects_in answer) ∷ log) new (effects_in answer)

-- Of a message: what was given before.
abbrev pub HearsGiven : State → Message → Effects → State → Type 0
HearsGiven old m x new = (log : List Event) → RunsTo old log → RunsTo new (GotMessage old m x ∷ log) × DeliversGiven log new x
