use Rattle.std.proofs.Common.{◌≡◌, true, false, subst}
use Rattle.rpc_machine.specs.declared.command.Command.TheVariants as command
use Rattle.rpc_machine.specs.declared.command.Granted.TheVariants as granted
use Rattle.rpc_machine.specs.State.{State}
use Rattle.core_store.specs.Holding.{state_of}
use Rattle.core_step.specs.InProgress.{progress_of}
use Rattle.core_steps.specs.Calling.{IsMade}
use Rattle.core_steps.proofs.Answered.{done}
use Rattle.core_steps.proofs.Quietly.{tight_of, none_over}
use Rattle.core_steps.proofs.calls.call.Goals as goal

pub unreachable-requires : goal.unreachable-requires
unreachable-requires c =
    let calm = c.make-id.ensures.calm in
    let bad : false ≡ true = c.in_default-sweep.ensures.never (tight_of (state_of c.make-id.new.step.store) calm) (none_over (state_of c.make-id.new.step.store) calm) in
    cc

pub returns-clause-obeys : goal.returns-clause-obeys
returns-clause-obeys c =
    let s = state_of c.args.machine.now.step.store in
    let made = subst (λ (s : State). IsMade s c.args.call c.make-id.result (progress_of c.make-id.new.step)) c.begin_quietly.ensures.same c.make-id.ensures.made in
    done s (command.Call c.args.call) (granted.Call c.make-id.result) c.in-Ok-sweep.effects (state_of c.sweep.new.step.store) c.requires.allowed
    (record { acted = made.0; acts = made.1; ends = c.in-Ok-sweep.ensures.ends made.0 made.2 })
    c.in-Ok-sweep.ensures.idle.sound.within
