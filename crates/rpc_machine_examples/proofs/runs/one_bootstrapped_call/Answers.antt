use Rattle.rpc_machine_examples.proofs.OneCall.{one_call}
use Rattle.rpc_machine_examples.proofs.runs.one_bootstrapped_call.Goals as goal

pub returns : goal.returns
returns c = one_call
