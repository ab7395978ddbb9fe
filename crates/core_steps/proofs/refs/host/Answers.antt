use Rattle.std.proofs.Common.{refl}
use Rattle.rpc_machine.specs.declared.node.Node.TheVariants as node
use Rattle.rpc_machine.specs.declared.command.Command.TheVariants as command
use Rattle.rpc_machine.specs.declared.command.Granted.TheVariants as granted
use Rattle.core_store.specs.Holding.{state_of}
use Rattle.core_steps.proofs.Made.{hosted}
use Rattle.core_steps.proofs.Quietly.{named_quietly}
use Rattle.core_steps.proofs.refs.host.Goals as goal

pub returns-clause-obeys : goal.returns-clause-obeys
returns-clause-obeys c =
    let s = state_of c.args.machine.now.step.store in
    rw c.end_silently.ensures.store (named_quietly s _ (command.Host c.args.object) (granted.Reference c.host-made.result) _ _ c.requires.allowed c.in_ok-begin_quietly.ensures.begun c.host-made.ensures.acts
    (hosted s (node.Object c.args.object) (granted.Reference c.host-made.result) _ _ c.in_ok-begin_quietly.ensures.begun c.host-made.ensures.acts)
    refl c.requires.resting.sound.numbered.refs c.in_ok-begin_quietly.ensures.calm c.host-made.ensures.ready.sound.within)
