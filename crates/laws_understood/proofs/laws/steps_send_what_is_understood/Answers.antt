use Rattle.laws_understood.proofs.Steps.{send}
use Rattle.laws_understood.proofs.laws.steps_send_what_is_understood.Goals as goal

pub returns : goal.returns
returns c = send
