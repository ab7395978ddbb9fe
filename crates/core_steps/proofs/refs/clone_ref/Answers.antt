use Rattle.std.proofs.Common.{refl}
use Rattle.std.specs.FinMap as map
use Rattle.rpc_machine.specs.declared.command.Command.TheVariants as command
use Rattle.rpc_machine.specs.declared.command.Granted.TheVariants as granted
use Rattle.core_store.specs.Holding.{state_of}
use Rattle.core_steps.proofs.Made.{cloned}
use Rattle.core_steps.proofs.Quietly.{named_quietly}
use Rattle.core_steps.proofs.refs.clone_ref.Goals as goal

pub returns-clause-obeys : goal.returns-clause-obeys
returns-clause-obeys c =
    let s = state_of c.args.machine.now.step.store in
    rw c.end_silently.ensures.store (named_quietly s _ (command.CloneRef c.args.id) (granted.Reference c.clone_ref-made.result) _ _ c.requires.allowed c.in_ok-begin_quietly.ensures.begun c.clone_ref-made.ensures.acts
    (cloned s (map.get (state_of c.begin_quietly.new.step.store).refs c.args.id.0) (granted.Reference c.clone_ref-made.result) _ _ c.in_ok-begin_quietly.ensures.begun c.clone_ref-made.ensures.acts)
    refl c.requires.resting.sound.numbered.refs c.in_ok-begin_quietly.ensures.calm c.clone_ref-made.ensures.ready.sound.within)
