use Rattle.laws_routes.proofs.EachReceived.{messages_may}
use Rattle.laws_routes.proofs.first_acts.messages_may_be_taken.Goals as goal

pub returns : goal.returns
returns c = messages_may
