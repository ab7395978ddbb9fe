use Rattle.rpc_machine.specs.declared.command.Command.TheVariants as command
use Rattle.rpc_machine.specs.declared.command.Granted.TheVariants as granted
use Rattle.core_store.specs.Holding.{state_of}
use Rattle.core_steps.proofs.Answered.{done}
use Rattle.core_steps.proofs.refs.drop_ref.Goals as goal

pub returns-clause-obeys : goal.returns-clause-obeys
returns-clause-obeys c =
    done (state_of c.args.machine.now.step.store) (command.DropRef c.args.id) granted.Done c.in_ok-effects.effects (state_of c.drop_whole.new.step.store) c.requires.allowed c.in_ok-effects.ensures.does c.drop_whole.ensures.idle.sound.within
