use Rattle.std.proofs.Common.{◌≡◌, inr, Result, subst}
use Rattle.rpc_machine.specs.declared.command.Command.{Command}
use Rattle.rpc_machine.specs.declared.command.Granted.{Granted}
use Rattle.vat_core.specs.declared.refused.Refused.{Refused}
use Rattle.vat_connection.specs.Calling.{answered}
use Rattle.vat_connection.specs.Connecting.{answered_by}
use Rattle.vat_joined.proofs.Acting.{refused_for_memory}
use Rattle.vat_joined.proofs.acts.command_noted.Goals as goal

pub returns-in_default-clause-acts : goal.returns-in_default-clause-acts
returns-in_default-clause-acts c = refused_for_memory c.args.connection.now c.args.command c.requires

pub returns-in-Err-clause-acts : goal.returns-in-Err-clause-acts
returns-in-Err-clause-acts c = inr (
  c.in-Err.ensures.refused,
  subst
      (λ (r : Result Granted (Refused Command)). c.command.new.self ≡ answered_by c.args.connection.now c.args.command (answered r (λ granted. granted) (λ e. e.refusal)) c.command.new.self.speaker.host)
      c.in-Err.is c.command.ensures.rest,
)
