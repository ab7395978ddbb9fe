use Rattle.std.proofs.Common.{List, subst}
use Rattle.rpc_msg.specs.Op.{Op}
use Rattle.rpc_machine.specs.declared.command.Command.TheVariants as command
use Rattle.rpc_machine.specs.declared.command.Granted.TheVariants as granted
use Rattle.rpc_machine.specs.Progress.{quiet}
use Rattle.link_sides.specs.Answer.TheVariants as answer
use Rattle.link_ends.specs.Ends.{Takes}
use Rattle.link_ends.proofs.ends.VatEnd.result_of.Goals as goal

pub returns-in-Ok-clause-done : goal.returns-in-Ok-clause-done
returns-in-Ok-clause-done g c =
    subst (λ (path : List Op). Takes c.args.self.now.end (command.Field c.args.id path) (answer.Done (granted.Reference c.in-Ok.made) quiet) c.field.new.self.end)
    c.new.ensures c.in-Ok.ensures.done

pub returns-in-Err-clause-refused : goal.returns-in-Err-clause-refused
returns-in-Err-clause-refused g c =
    subst (λ (path : List Op). Takes c.args.self.now.end (command.Field c.args.id path) (answer.Refused c.in-Err.refused.refusal (command.Field c.args.id path)) c.field.new.self.end)
    c.new.ensures c.in-Err.ensures.refused
