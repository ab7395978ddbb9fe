use Rattle.rpc_machine.specs.declared.command.Command.TheVariants as command
use Rattle.rpc_machine.specs.declared.command.Granted.TheVariants as granted
use Rattle.vat_core.proofs.Answering.{answers_quietly}
use Rattle.vat_core.proofs.vat.Core.obey_promise.Goals as goal

pub returns-in-Ok : goal.returns-in-Ok
returns-in-Ok c = answers_quietly _ _ command.Promise (granted.Promise c.in-Ok.promise c.in-Ok.made) c.nothing.result c.nothing.ensures c.in-Ok.ensures.done
