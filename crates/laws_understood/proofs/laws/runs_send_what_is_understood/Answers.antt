use Rattle.laws_understood.proofs.Runs.{in_runs}
use Rattle.laws_understood.proofs.laws.runs_send_what_is_understood.Goals as goal

pub returns : goal.returns
returns c = in_runs c.steps_send_what_is_understood.ensures c.names_stay.ensures
