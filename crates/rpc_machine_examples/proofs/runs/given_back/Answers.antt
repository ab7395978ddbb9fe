use Rattle.rpc_machine_examples.proofs.GivenBack.{is_given_back}
use Rattle.rpc_machine_examples.proofs.runs.given_back.Goals as goal

pub returns : goal.returns
returns c = is_given_back
