use Rattle.laws_runs.proofs.Lasting.{lasts, means_one}
use Rattle.laws_runs.proofs.InTime.{in_time}
use Rattle.laws_runs.proofs.laws.meanings_last.Goals as goal

pub returns-clause-last : goal.returns-clause-last
returns-clause-last c = lasts

pub returns-clause-one : goal.returns-clause-one
returns-clause-one c = means_one

pub returns-clause-in_time : goal.returns-clause-in_time
returns-clause-in_time c = in_time
