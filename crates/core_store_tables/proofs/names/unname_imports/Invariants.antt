use Rattle.std.proofs.Common.{◌≡◌, take}
use Rattle.rpc_machine.specs.Places.{imports_of}
use Rattle.core_refcounts.specs.Names.{unnamed_all}
use Rattle.core_store_tables.proofs.names.unname_imports.Given as goal

abbrev pub invariant-loop-id : goal.invariant-loop-id
invariant-loop-id l = l.names ≡ unnamed_all l.fn.names (imports_of (take l.id-index l.ids))
