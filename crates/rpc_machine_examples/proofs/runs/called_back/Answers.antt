use Rattle.rpc_machine_examples.proofs.CalledBack.{is_called_back}
use Rattle.rpc_machine_examples.proofs.runs.called_back.Goals as goal

pub returns : goal.returns
returns c = is_called_back
