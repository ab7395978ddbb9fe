use Rattle.rpc_machine_examples.proofs.KeepingSteps.{command_asks, message_asks}
use Rattle.rpc_machine_examples.proofs.ReturnedQuestions.{returned_stay}
use Rattle.rpc_machine_examples.proofs.refused.questions_stay_taken.Goals as goal

pub returns-clause-asked : goal.returns-clause-asked
returns-clause-asked c = record { commands = λ s c g x new h q y f. command_asks s c g x new h q y f; messages = λ s m x new h q y f. message_asks s m x new h q y f }

pub returns-clause-returned : goal.returns-clause-returned
returns-clause-returned c = returned_stay
