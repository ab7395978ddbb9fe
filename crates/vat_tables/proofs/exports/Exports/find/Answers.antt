use Rattle.std.proofs.Common.{subst}
use Rattle.rpc_machine.specs.declared.entries.Export.{Export}
use Rattle.vat_tables.specs.Exports.{IsOneEach}
use Rattle.vat_tables.specs.Table.{Table}
use Rattle.vat_tables.specs.Index.{found}
use Rattle.vat_tables.proofs.ExportLemmas.{one_each}
use Rattle.vat_tables.proofs.exports.Exports.find.Goals as goal

pub returns-in_err-id-clause-one_each : goal.returns-in_err-id-clause-one_each
returns-in_err-id-clause-one_each c =
    subst (λ (t : Table Export). IsOneEach t.entries) c.self.view_is (one_each c.self.inside.slots.entries (found c.self.inside.index) c.self.invariant.0)

pub returns-clause-one_each : goal.returns-clause-one_each
returns-clause-one_each c =
    subst (λ (t : Table Export). IsOneEach t.entries) c.self.view_is (one_each c.self.inside.slots.entries (found c.self.inside.index) c.self.invariant.0)
