use Rattle.laws_messages.proofs.Filling.{payloads_fit}
use Rattle.laws_messages.proofs.answers.payloads_fit.Goals as goal

pub returns : goal.returns
returns c = payloads_fit
