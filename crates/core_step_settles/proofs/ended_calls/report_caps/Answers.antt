use Rattle.std.proofs.Common.{arith}
use Rattle.core_step_settles.proofs.Told.{ready_referred}
use Rattle.core_step_settles.proofs.ended_calls.report_caps.Goals as goal

pub tell_ended-requires-clause-ready : goal.tell_ended-requires-clause-ready
tell_ended-requires-clause-ready c =
    let a = c.add_refs.ensures.left in
    ready_referred c.reserve.new.step c.deref-2.result.now c.add_refs.new.store c.add_refs.ensures.state c.in_ok-reserve.ensures.ready c.add_refs.ensures.sound (omega (arith, a))
