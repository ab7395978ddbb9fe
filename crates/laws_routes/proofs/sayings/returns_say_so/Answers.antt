use Rattle.laws_routes.proofs.ReturnsSaySo.{exception_says, results_say}
use Rattle.laws_routes.proofs.sayings.returns_say_so.Goals as goal

pub returns-clause-results : goal.returns-clause-results
returns-clause-results c = results_say

pub returns-clause-exception : goal.returns-clause-exception
returns-clause-exception c = exception_says
