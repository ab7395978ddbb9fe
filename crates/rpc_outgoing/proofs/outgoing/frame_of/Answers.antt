use Rattle.rpc_outgoing.proofs.Sayable.{sayable}
use Rattle.rpc_outgoing.proofs.outgoing.frame_of.Goals as goal

pub returns-clause-sayable : goal.returns-clause-sayable
returns-clause-sayable c = sayable c.args.message.now c.in_ok-frame.frame c.fit.ensures c.requires c.in_ok-frame.ensures.frame c.in_ok-frame.ensures.says
