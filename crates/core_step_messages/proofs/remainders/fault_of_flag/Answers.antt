use Rattle.std.proofs.Common.{rules, refl}
use Rattle.core_store.specs.Holding.{state_of}
use Rattle.core_step_messages.proofs.GivenBack.{all_remain, given_next}
use Rattle.core_step_messages.proofs.remainders.fault_of_flag.Goals as goal

pub loop-id-init : goal.loop-id-init
loop-id-init c = ((state_of c.args.store.now).exports, all_remain (state_of c.args.store.now) c.new-remaining.result c.new-remaining.ensures, refl)

pub loop-id-preserved : goal.loop-id-preserved
loop-id-preserved c = (
  _,
  c.in_ok-found.ensures.remains (search rules) c.loop-id.invariant.0 c.loop-id.invariant.1,
  given_next _ _ _ _ _ c.loop-id-test.true (search rules) c.loop-id.invariant.2,
)
