use Rattle.std.proofs.Common.{refl}
use Rattle.rpc_machine.specs.declared.command.Granted.TheVariants as granted
use Rattle.core_store.specs.Holding.{state_of}
use Rattle.core_steps.proofs.Opened.{promised}
use Rattle.core_steps.proofs.promises.promise.Goals as goal

pub returns-clause-obeys : goal.returns-clause-obeys
returns-clause-obeys c =
    rw c.end_silently.ensures.store (promised (state_of c.args.machine.now.step.store) _ (granted.Promise c.promise-made.result.0 c.promise-made.result.1) _ _ c.requires.allowed c.in_ok-begin_quietly.ensures.begun c.promise-made.ensures.acts
    refl c.requires.resting.sound.numbered.refs c.in_ok-begin_quietly.ensures.calm c.promise-made.ensures.ready.sound.within)
