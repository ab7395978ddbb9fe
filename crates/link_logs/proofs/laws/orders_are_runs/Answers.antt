use Rattle.link_logs.proofs.Walking as walking
use Rattle.link_logs.proofs.laws.orders_are_runs.Goals as goal

pub returns : goal.returns
returns c = walking.orders_are_runs c.calls_are_counted.ensures.runs c.logs_are_runs.ensures.runs c.names_stay.ensures
