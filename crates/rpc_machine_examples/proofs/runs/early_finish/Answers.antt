use Rattle.rpc_machine_examples.proofs.EarlyFinish.{early_finish}
use Rattle.rpc_machine_examples.proofs.runs.early_finish.Goals as goal

pub returns : goal.returns
returns c = early_finish
