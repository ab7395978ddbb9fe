use Rattle.std.proofs.Common.{◌≡◌, ◌-◌, take, length}
use Rattle.rpc_machine.specs.Places.{imports_of}
use Rattle.core_refcounts.specs.Names.{named_all, HasRoom}
use Rattle.core_store_tables.proofs.names.name_imports.Given as goal

abbrev pub invariant-loop-id : goal.invariant-loop-id
invariant-loop-id l = record {
  named : l.names ≡ named_all l.fn.names (imports_of (take l.id-index l.ids));
  room : HasRoom (length l.ids - l.id-index) l.names;
}
