use Rattle.rpc_machine_examples.proofs.GivenAgain.{is_given_again}
use Rattle.rpc_machine_examples.proofs.runs.given_again.Goals as goal

pub returns : goal.returns
returns c = is_given_again
