use Rattle.core_step_messages.proofs.Readied.{ready_received}
use Rattle.core_step_messages.proofs.descriptors.take_import.Goals as goal

pub returns-in-Ok-clause-ready : goal.returns-in-Ok-clause-ready
returns-in-Ok-clause-ready c = ready_received c.args.step.now c.receive.new.store c.args.kind c.args.id.0 c.requires.ready c.receive.ensures.sound c.requires.slack c.in-Ok.ensures.left c.in-Ok.ensures.ok
