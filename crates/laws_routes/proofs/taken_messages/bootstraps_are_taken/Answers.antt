use Rattle.laws_routes.proofs.BootstrapTaken.{bootstrap_comes, bootstrap_taken}
use Rattle.laws_routes.proofs.taken_messages.bootstraps_are_taken.Goals as goal

pub returns-clause-opens : goal.returns-clause-opens
returns-clause-opens c = bootstrap_comes

pub returns-clause-answered : goal.returns-clause-answered
returns-clause-answered c = bootstrap_taken
