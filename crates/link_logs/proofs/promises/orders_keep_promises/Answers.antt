use Rattle.link_logs.proofs.Keeping as keeping
use Rattle.link_logs.proofs.promises.orders_keep_promises.Goals as goal

pub returns : goal.returns
returns c = keeping.orders_keep_promises c.orders_are_runs.ensures c.worlds_keep_promises.ensures
