use Rattle.laws_runs.proofs.QuietRuns.{every_run_is_quiet}
use Rattle.laws_runs.proofs.laws.quiet_when_down.Goals as goal

pub returns : goal.returns
returns c = every_run_is_quiet
