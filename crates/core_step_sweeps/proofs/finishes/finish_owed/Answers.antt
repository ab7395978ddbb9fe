use Rattle.core_step_sweeps.proofs.Closed.{only_same, only_owed, ending_owed}
use Rattle.core_step_sweeps.proofs.finishes.finish_owed.Goals as goal

pub returns-then-is_none-clause-only : goal.returns-then-is_none-clause-only
returns-then-is_none-clause-only c = only_same c.args.step.now c.args.q.0 c.requires.last

pub returns-clause-only : goal.returns-clause-only
returns-clause-only c =
    only_owed c.args.step.now c.close_giving.new.store c.args.q.0 c.flag_of-flag.result c.finish.new.self c.in-Ok.ensures.ok c.requires.last c.close_giving.ensures.left

pub returns-clause-ending : goal.returns-clause-ending
returns-clause-ending c =
    ending_owed c.args.step.now c.close_giving.new.store c.args.q.0 c.flag_of-flag.result c.finish.new.self c.in-Ok.ensures.ok
    c.close_giving.ensures.state c.requires.ending c.close_giving.ensures.sound c.close_giving.ensures.left
