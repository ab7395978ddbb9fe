use Rattle.std.proofs.Common.{◌≡◌, ◌<◌, ◌++◌, All}
use Rattle.std.specs.FinMap as map
use Rattle.rpc_machine.specs.Nodes.{is_field}
use Rattle.rpc_machine.specs.Settling.{exports_where}
use Rattle.core_store_tables.proofs.exports.find_fields.Given as goal

abbrev pub invariant-loop-id : goal.invariant-loop-id
invariant-loop-id l = record {
  so_far : l.found ++ exports_where (is_field l.o) l.id-iterator ≡ exports_where (is_field l.o) (map.entries l.store.exports.entries);
  ids : All (λ entry. entry.0 < 4294967296) l.id-iterator;
}
