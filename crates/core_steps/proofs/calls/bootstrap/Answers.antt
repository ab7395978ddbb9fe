use Rattle.std.proofs.Common.{◌≡◌, true, false}
use Rattle.rpc_machine.specs.declared.command.Command.TheVariants as command
use Rattle.rpc_machine.specs.declared.command.Granted.TheVariants as granted
use Rattle.rpc_machine.specs.Settling.{NoneLeft}
use Rattle.core_store.specs.Holding.{state_of}
use Rattle.core_step.specs.InProgress.{progress_of}
use Rattle.core_steps.proofs.Answered.{does, done}
use Rattle.core_steps.proofs.Quietly.{tight_of, none_over}
use Rattle.core_steps.proofs.Opened.{asked}
use Rattle.core_steps.proofs.calls.bootstrap.Goals as goal

pub unreachable-requires : goal.unreachable-requires
unreachable-requires c =
    let s = state_of c.args.machine.now.step.store in
    let said = asked s (granted.Call c.bootstrap-call.result) (progress_of c.begin_quietly.new.step) (progress_of c.bootstrap-call.new.step) c.in_ok-begin_quietly.ensures.begun c.bootstrap-call.ensures.acts c.in_ok-begin_quietly.ensures.calm in
    let bad : false ≡ true = c.in_default.ensures.never (tight_of (state_of c.bootstrap-call.new.step.store) said.0) (none_over (state_of c.bootstrap-call.new.step.store) said.0) in
    cc

pub returns-clause-obeys : goal.returns-clause-obeys
returns-clause-obeys c =
    let s = state_of c.args.machine.now.step.store in
    let said = asked s (granted.Call c.bootstrap-call.result) (progress_of c.begin_quietly.new.step) (progress_of c.bootstrap-call.new.step) c.in_ok-begin_quietly.ensures.begun c.bootstrap-call.ensures.acts c.in_ok-begin_quietly.ensures.calm in
    done s command.Bootstrap (granted.Call c.bootstrap-call.result) c.in-Ok.effects (state_of c.sweep.new.step.store) c.requires.allowed
    (does s command.Bootstrap (granted.Call c.bootstrap-call.result) _ _ c.in-Ok.effects _ c.in_ok-begin_quietly.ensures.begun c.bootstrap-call.ensures.acts
    (c.in-Ok.ensures.ends (progress_of c.bootstrap-call.new.step) (NoneLeft said.1)))
    c.in-Ok.ensures.idle.sound.within
