use Rattle.rpc_machine_examples.proofs.Relayed.{relayed}
use Rattle.rpc_machine_examples.proofs.runs.relayed_back.Goals as goal

pub returns : goal.returns
returns c = relayed
