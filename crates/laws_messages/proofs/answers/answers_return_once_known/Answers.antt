use Rattle.laws_messages.proofs.Returning.{in_step}
use Rattle.laws_messages.proofs.answers.answers_return_once_known.Goals as goal

pub returns : goal.returns
returns c = in_step c.nodes_are_there.ensures.there
