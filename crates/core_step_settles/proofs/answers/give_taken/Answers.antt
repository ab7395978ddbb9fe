use Rattle.rpc_machine.specs.Progress.{numbers}
use Rattle.core_step_settles.proofs.Said.{ready_given}
use Rattle.core_step_settles.proofs.answers.give_taken.Goals as goal

pub returns-clause-ready : goal.returns-clause-ready
returns-clause-ready c =
    ready_given c.args.step.now c.give_back.new.store (numbers c.args.ids.now) c.give_back.ensures.state c.requires.ready c.give_back.ensures.sound c.give_back.ensures.left
