use Rattle.rpc_machine_examples.proofs.OverRelease.{over_release}
use Rattle.rpc_machine_examples.proofs.runs.over_release.Goals as goal

pub returns : goal.returns
returns c = over_release
