use Rattle.rpc_machine_examples.proofs.GivenTwice.{is_given_twice}
use Rattle.rpc_machine_examples.proofs.runs.given_twice.Goals as goal

pub returns : goal.returns
returns c = is_given_twice
