use Rattle.laws_routes.proofs.CallAnswered.{call_taken}
use Rattle.laws_routes.proofs.taken_messages.calls_are_taken.Goals as goal

pub returns : goal.returns
returns c = call_taken
