use Rattle.rpc_machine_examples.proofs.LateResolve.{is_late_resolve}
use Rattle.rpc_machine_examples.proofs.runs.late_resolve.Goals as goal

pub returns : goal.returns
returns c = is_late_resolve
