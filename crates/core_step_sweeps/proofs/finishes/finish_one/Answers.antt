use Rattle.core_step_sweeps.proofs.Closed.{only_same, only_waived}
use Rattle.core_step_sweeps.proofs.finishes.finish_one.Goals as goal

pub returns-in_default-clause-only : goal.returns-in_default-clause-only
returns-in_default-clause-only c = only_same c.args.step.now c.args.q.0 c.requires.last

pub returns-in-Sent-clause-only : goal.returns-in-Sent-clause-only
returns-in-Sent-clause-only c = only_same c.args.step.now c.args.q.0 c.requires.last

pub returns-in-Waived-clause-only : goal.returns-in-Waived-clause-only
returns-in-Waived-clause-only c = only_waived c.args.step.now c.close.new.store c.args.q.0 c.requires.last c.close.ensures.left
