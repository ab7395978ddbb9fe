use Rattle.rpc_check.proofs.Given.{given_more}
use Rattle.rpc_check.proofs.handovers.handed_on_by.Goals as goal

pub loop-descriptor-preserved : goal.loop-descriptor-preserved
loop-descriptor-preserved c = given_more _ _ c.args.descriptors.now c.loop-descriptor.descriptor-index c.descriptor-item.result c.loop-descriptor-test.true c.descriptor-item.is c.loop-descriptor.invariant c.in_ok-hand_on.ensures
