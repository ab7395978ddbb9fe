use Rattle.laws_messages.proofs.Keeping as keeping
use Rattle.laws_messages.proofs.laws.imports_answer.Goals as goal

pub returns : goal.returns
returns c = record { keeps = keeping.acts; answers = keeping.answers }
