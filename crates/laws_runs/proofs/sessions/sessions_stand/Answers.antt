use Rattle.laws_runs.proofs.Kept.{in_steady_worlds}
use Rattle.laws_runs.proofs.Standing.{are_kept}
use Rattle.laws_runs.proofs.sessions.sessions_stand.Goals as goal

pub returns-clause-kept : goal.returns-clause-kept
returns-clause-kept c = are_kept c.steps_are_acts.ensures

pub returns-clause-stand : goal.returns-clause-stand
returns-clause-stand c = in_steady_worlds (are_kept c.steps_are_acts.ensures)
