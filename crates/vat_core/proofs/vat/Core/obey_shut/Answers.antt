use Rattle.rpc_machine.specs.declared.command.Command.TheVariants as command
use Rattle.rpc_machine.specs.declared.command.Granted.TheVariants as granted
use Rattle.vat_core.proofs.Answering.{answers_done, shuts}
use Rattle.vat_core.proofs.vat.Core.obey_shut.Goals as goal

pub returns : goal.returns
returns c =
    answers_done _ _ (command.Shut c.args.number) granted.Done c.shut-effects.result
    (shuts c.args.self.now c.shut-effects.new.self c.args.number c.shut-effects.result c.shut-effects.ensures)
