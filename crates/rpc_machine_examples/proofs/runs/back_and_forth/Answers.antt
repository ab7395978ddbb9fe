use Rattle.rpc_machine_examples.proofs.BackAndForth.{is_back_and_forth}
use Rattle.rpc_machine_examples.proofs.runs.back_and_forth.Goals as goal

pub returns : goal.returns
returns c = is_back_and_forth
