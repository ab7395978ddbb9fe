use Rattle.std.proofs.Common.{◌≡◌, take}
use Rattle.rpc_machine.specs.Places.{nodes}
use Rattle.core_refcounts.specs.Names.{unnamed_all}
use Rattle.core_store_tables.proofs.names.unname_beside.Given as goal

abbrev pub invariant-loop-cap : goal.invariant-loop-cap
invariant-loop-cap l = l.names ≡ unnamed_all l.fn.names (nodes (take l.cap-index l.caps))
