use Rattle.rpc_machine_examples.proofs.Across.{resolves_across}
use Rattle.rpc_machine_examples.proofs.runs.resolved_across.Goals as goal

pub returns : goal.returns
returns c = resolves_across
