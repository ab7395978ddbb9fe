use Rattle.rpc_machine_examples.proofs.Promised.{is_promised}
use Rattle.rpc_machine_examples.proofs.runs.promised_answer.Goals as goal

pub returns : goal.returns
returns c = is_promised
