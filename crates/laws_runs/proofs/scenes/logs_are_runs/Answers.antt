use Rattle.laws_runs.proofs.Weaving.{runs_are_runs, logs_are_runs, logs_are_sound}
use Rattle.laws_runs.proofs.scenes.logs_are_runs.Goals as goal

pub returns-clause-runs : goal.returns-clause-runs
returns-clause-runs c = runs_are_runs

pub returns-clause-logs : goal.returns-clause-logs
returns-clause-logs c = logs_are_runs

pub returns-clause-sound : goal.returns-clause-sound
returns-clause-sound c = logs_are_sound
