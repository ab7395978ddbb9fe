use Rattle.rpc_machine.specs.declared.command.Command.TheVariants as command
use Rattle.rpc_machine.specs.declared.command.Granted.TheVariants as granted
use Rattle.core_store.specs.Holding.{state_of}
use Rattle.core_steps.proofs.Answered.{done}
use Rattle.core_steps.proofs.refs.advance.Goals as goal

pub returns-clause-obeys : goal.returns-clause-obeys
returns-clause-obeys c =
    done (state_of c.args.machine.now.step.store) (command.Advance c.args.id) (granted.Advanced c.in_ok-advanced.advanced) c.in_ok-advanced.effects (state_of c.advance_whole.new.step.store) c.requires.allowed c.in_ok-advanced.ensures.does c.advance_whole.ensures.idle.sound.within
