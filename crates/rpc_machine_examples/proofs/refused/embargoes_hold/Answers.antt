use Rattle.rpc_machine_examples.proofs.KeepingSteps.{does, handles}
use Rattle.rpc_machine_examples.proofs.TurningBack.{turns}
use Rattle.rpc_machine_examples.proofs.WaitingCalls.{call_waits}
use Rattle.rpc_machine_examples.proofs.refused.embargoes_hold.Goals as goal

pub returns-clause-last : goal.returns-clause-last
returns-clause-last c = record {
  commands = λ s c g x new h e b f. let k = does e 0 s c g x new h in k.0 b f;
  messages = λ s m x new h e b free f. let k = handles e 0 s m x new free h in k.0 b f;
}

pub returns-clause-turn : goal.returns-clause-turn
returns-clause-turn c = turns

pub returns-clause-wait : goal.returns-clause-wait
returns-clause-wait c = call_waits
