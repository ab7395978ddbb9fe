use Rattle.rpc_machine.proofs.Idle.{idle_is_none_pending}
use Rattle.rpc_machine.proofs.laws.idle_is_none_pending.Goals as goal

pub returns : goal.returns
returns c = idle_is_none_pending
