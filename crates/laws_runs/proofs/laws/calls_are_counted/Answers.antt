use Rattle.laws_runs.proofs.Counting.{scenes_count, runs_count}
use Rattle.laws_runs.proofs.laws.calls_are_counted.Goals as goal

pub returns-clause-scenes : goal.returns-clause-scenes
returns-clause-scenes c = scenes_count

pub returns-clause-runs : goal.returns-clause-runs
returns-clause-runs c = runs_count
