use Rattle.std.proofs.Common.{arith}
use Rattle.core_step_messages.proofs.Readied.{ready_resolved}
use Rattle.core_step_messages.proofs.resolves.keep_said.Goals as goal

pub returns-clause-ready : goal.returns-clause-ready
returns-clause-ready c =
    let left = c.set_resolution.ensures.left in
    ready_resolved c.reserve.new.step c.set_resolution.new.store c.args.id.0 c.args.said c.in_ok-reserve.ensures.ready c.set_resolution.ensures.sound (omega (arith, left)) c.set_resolution.ensures.state
