use Rattle.rpc_machine.specs.declared.command.Command.TheVariants as command
use Rattle.rpc_machine.specs.declared.command.Granted.TheVariants as granted
use Rattle.core_telling.proofs.Answering.{answers_quietly}
use Rattle.link_sides.proofs.promises.ask_promise.Goals as goal

pub returns-in-Ok-clause-answers : goal.returns-in-Ok-clause-answers
returns-in-Ok-clause-answers c = answers_quietly _ _ command.Promise (granted.Promise c.in-Ok.promise c.in-Ok.made) c.no_effects.result c.no_effects.ensures c.in-Ok.ensures.done
