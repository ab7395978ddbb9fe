use Rattle.rpc_machine_examples.proofs.FlaggedReturns.{alone, named, named_and_more}
use Rattle.rpc_machine_examples.proofs.FlaggedFinishes as finishes
use Rattle.rpc_machine_examples.proofs.SparedImports.{spares}
use Rattle.rpc_machine_examples.proofs.DescriptorsFirst.{descriptors_first}
use Rattle.rpc_machine_examples.proofs.refused.flags_are_exact.Goals as goal

pub returns-clause-sent : goal.returns-clause-sent
returns-clause-sent c = record { alone = alone; named = named; named_and_more = named_and_more }

pub returns-clause-obeyed : goal.returns-clause-obeyed
returns-clause-obeyed c = descriptors_first

pub returns-clause-finished : goal.returns-clause-finished
returns-clause-finished c = record { alone = finishes.alone; named = finishes.named }

pub returns-clause-spared : goal.returns-clause-spared
returns-clause-spared c = spares
