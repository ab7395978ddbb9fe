use Rattle.rpc_check.proofs.Moving.{way_begins}
use Rattle.rpc_check.proofs.ways.Ways.new.Goals as goal

pub returns : goal.returns
returns c = way_begins _ (c.new.ensures.way _) c.new.ensures.said (c.new-2.ensures.way _) c.new-2.ensures.said
