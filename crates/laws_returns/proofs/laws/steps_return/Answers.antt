use Rattle.laws_returns.proofs.Answering.{task_ends_return}
use Rattle.laws_returns.proofs.Stepping.{steps_return}
use Rattle.laws_returns.proofs.Waiting.{open_ones_wait}
use Rattle.laws_returns.proofs.laws.steps_return.Goals as goal

pub returns-clause-steps : goal.returns-clause-steps
returns-clause-steps c = steps_return c.nodes_are_there.ensures.there

pub returns-clause-wait : goal.returns-clause-wait
returns-clause-wait c = open_ones_wait c.answers_return_once_known.ensures c.outcomes_have_sources.ensures

pub returns-clause-ends : goal.returns-clause-ends
returns-clause-ends c = task_ends_return c.answers_return_once_known.ensures
