use Rattle.rpc_machine_examples.proofs.ManyAnswers.{full_answers_fall}
use Rattle.rpc_machine_examples.proofs.refused.full_answers_fall.Goals as goal

pub returns : goal.returns
returns c = full_answers_fall
