use Rattle.std.proofs.Common.{Option, subst}
use Rattle.rpc_msg.specs.declared.exception.Exception.{Exception}
use Rattle.rpc_machine.specs.Settling.{NoneLeft}
use Rattle.core_step.specs.InProgress.{progress_of}
use Rattle.core_steps.specs.Calling.{EndsIf}
use Rattle.core_steps.proofs.Ended.{calm_ended}
use Rattle.core_steps.proofs.calls.settle_if_ended.Goals as goal

pub returns-in_default-clause-drains : goal.returns-in_default-clause-drains
returns-in_default-clause-drains c = NoneLeft (subst (λ (o : Option Exception). EndsIf (progress_of c.args.step.now) c.args.call o) c.in_default.is c.requires.ends)

pub returns-clause-calm : goal.returns-clause-calm
returns-clause-calm c = calm_ended (progress_of c.args.step.now) (progress_of c.settle_ended.new.step) c.args.call c.in-Some.told c.settle_ended.ensures.ended c.requires.calm
