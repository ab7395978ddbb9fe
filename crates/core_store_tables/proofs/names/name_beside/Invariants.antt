use Rattle.std.proofs.Common.{◌≡◌, ◌-◌, take, length}
use Rattle.rpc_machine.specs.Places.{nodes}
use Rattle.core_refcounts.specs.Names.{named_all, HasRoom}
use Rattle.core_store_tables.proofs.names.name_beside.Given as goal

abbrev pub invariant-loop-cap : goal.invariant-loop-cap
invariant-loop-cap l = record {
  named : l.names ≡ named_all l.fn.names (nodes (take l.cap-index l.caps));
  room : HasRoom (length (nodes l.caps) - l.cap-index) l.names;
}
