use Rattle.laws_routes.proofs.CallMade.{call_here, call_far}
use Rattle.laws_routes.proofs.laws.calls_are_made.Goals as goal

pub returns-clause-here : goal.returns-clause-here
returns-clause-here c = call_here

pub returns-clause-far : goal.returns-clause-far
returns-clause-far c = call_far
