use Rattle.std.proofs.Common.{ap}
use Rattle.rpc_machine.specs.declared.command.Command.TheVariants as command
use Rattle.rpc_machine.specs.declared.command.Granted.TheVariants as granted
use Rattle.rpc_machine.specs.Settling.{NoneLeft}
use Rattle.core_store.specs.Holding.{state_of}
use Rattle.core_step.specs.declared.step.Step.{Step}
use Rattle.core_step.specs.InProgress.{progress_of}
use Rattle.core_steps.proofs.Answered.{does}
use Rattle.core_steps.proofs.Turning.{advanced, led}
use Rattle.core_steps.proofs.refs.advance_whole.Goals as goal

pub returns-in_default-clause-same : goal.returns-in_default-clause-same
returns-in_default-clause-same c =
    (c.turn_back.ensures.back (state_of c.args.step.now.store) (led (state_of c.args.step.now.store) c.reference_of-from.result (progress_of c.begin.new.step) c.args.id.0 (granted.Advanced c.advance-advanced.result) (progress_of c.advance-advanced.new.step) (state_of c.sweep.new.step.store)
    c.in_ok-begin.ensures.begun c.reference_of-from.ensures c.advance-advanced.ensures.acts (ap (λ (x : Step). state_of x.store) c.in_default.ensures.same))).0

pub returns-in_default-clause-taken : goal.returns-in_default-clause-taken
returns-in_default-clause-taken c =
    (c.turn_back.ensures.back (state_of c.args.step.now.store) (led (state_of c.args.step.now.store) c.reference_of-from.result (progress_of c.begin.new.step) c.args.id.0 (granted.Advanced c.advance-advanced.result) (progress_of c.advance-advanced.new.step) (state_of c.sweep.new.step.store)
    c.in_ok-begin.ensures.begun c.reference_of-from.ensures c.advance-advanced.ensures.acts (ap (λ (x : Step). state_of x.store) c.in_default.ensures.same))).1

pub returns-clause-does : goal.returns-clause-does
returns-clause-does c =
    does (state_of c.args.step.now.store) (command.Advance c.args.id) (granted.Advanced c.advance-advanced.result) (progress_of c.begin.new.step) (progress_of c.advance-advanced.new.step) c.in-Ok.effects (state_of c.sweep.new.step.store)
    c.in_ok-begin.ensures.begun c.advance-advanced.ensures.acts
    (c.in-Ok.ensures.ends (progress_of c.advance-advanced.new.step)
    (NoneLeft (advanced (state_of c.args.step.now.store) (progress_of c.begin.new.step) c.args.id.0 (granted.Advanced c.advance-advanced.result) (progress_of c.advance-advanced.new.step) c.in_ok-begin.ensures.begun c.advance-advanced.ensures.acts).1))
