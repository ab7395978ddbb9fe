use Rattle.laws_verdicts.proofs.Reached.{tells}
use Rattle.laws_verdicts.proofs.Runs.{go_on, runs_recorded}
use Rattle.laws_verdicts.proofs.laws.journals_tell_runs.Goals as goal

pub returns-clause-runs : goal.returns-clause-runs
returns-clause-runs c = runs_recorded

pub returns-clause-more : goal.returns-clause-more
returns-clause-more c = go_on

pub returns-clause-reached : goal.returns-clause-reached
returns-clause-reached c = tells
