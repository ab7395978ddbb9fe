use Rattle.std.proofs.Common.{Ok, List, subst}
use Rattle.rpc_msg.specs.Op.{Op}
use Rattle.rpc_machine.specs.declared.command.Command.TheVariants as command
use Rattle.rpc_machine.specs.declared.command.Granted.TheVariants as granted
use Rattle.rpc_machine.specs.Progress.{quiet}
use Rattle.rpc_machine.specs.Steps.{Obeys}
use Rattle.vat_core.proofs.vat.Core.result_of.Goals as goal

pub returns-clause-done : goal.returns-clause-done
returns-clause-done c =
    subst (λ (path : List Op). Obeys c.args.self.now (command.Field c.args.id path) (Ok (granted.Reference c.in_ok-made.made)) quiet c.field-2.new.self)
    c.new.ensures c.in_ok-made.ensures.done
