use Rattle.laws_runs.proofs.Showing.{every_run, both_up}
use Rattle.laws_runs.proofs.Running.{scenes_show_runs, scenes_are_up, scenes_are_reached}
use Rattle.laws_runs.proofs.laws.every_run_is_shown.Goals as goal

pub returns-clause-every : goal.returns-clause-every
returns-clause-every c = every_run

pub returns-clause-both_up : goal.returns-clause-both_up
returns-clause-both_up c = both_up

pub returns-clause-only : goal.returns-clause-only
returns-clause-only c = scenes_show_runs

pub returns-clause-up : goal.returns-clause-up
returns-clause-up c = scenes_are_up

pub returns-clause-reached : goal.returns-clause-reached
returns-clause-reached c = scenes_are_reached
