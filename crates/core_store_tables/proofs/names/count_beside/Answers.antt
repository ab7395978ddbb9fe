use Rattle.std.proofs.Common.{sym}
use Rattle.core_store_tables.proofs.Listed.{length_nodes}
use Rattle.core_store_tables.proofs.names.count_beside.Goals as goal

pub returns : goal.returns
returns c = sym (length_nodes c.args.caps.now)
