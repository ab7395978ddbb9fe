use Rattle.std.proofs.Common.{None, refl}
use Rattle.vat_tables.proofs.Indexing.{unnumbered, refound_object, refound_promise, refound_import}
use Rattle.vat_tables.proofs.FieldCounts.{none_fewer_of, field_fewer}
use Rattle.vat_tables.specs.Index.{fields_found}
use Rattle.rpc_machine.specs.declared.node.Node.TheVariants as node
use Rattle.vat_tables.proofs.index.NodeIndex.remove.Goals as goal

pub returns-in-Object-clause-removed : goal.returns-in-Object-clause-removed
returns-in-Object-clause-removed c =
    refound_object c.args.self.now c.remove.new.self c.in-Object.object None c.args.node.now c.in-Object.is (unnumbered _ _ _ c.remove.ensures.removed)

pub returns-in-Promise-clause-removed : goal.returns-in-Promise-clause-removed
returns-in-Promise-clause-removed c =
    refound_promise c.args.self.now c.remove-in-Promise.new.self c.in-Promise.key None c.args.node.now c.in-Promise.is (unnumbered _ _ _ c.remove-in-Promise.ensures.removed)

pub returns-in-Import-clause-removed : goal.returns-in-Import-clause-removed
returns-in-Import-clause-removed c =
    refound_import c.args.self.now c.remove-in-Import.new.self c.in-Import.id None c.args.node.now c.in-Import.is (unnumbered _ _ _ c.remove-in-Import.ensures.removed)

pub returns-in-Object-clause-fields : goal.returns-in-Object-clause-fields
returns-in-Object-clause-fields c = none_fewer_of (fields_found c.args.self.now) c.args.node.now (node.Object c.in-Object.object) c.in-Object.is (λ outcome. refl)

pub returns-in-Promise-clause-fields : goal.returns-in-Promise-clause-fields
returns-in-Promise-clause-fields c = none_fewer_of (fields_found c.args.self.now) c.args.node.now (node.Promise c.in-Promise.key) c.in-Promise.is (λ outcome. refl)

pub returns-in-Import-clause-fields : goal.returns-in-Import-clause-fields
returns-in-Import-clause-fields c = none_fewer_of (fields_found c.args.self.now) c.args.node.now (node.Import c.in-Import.id) c.in-Import.is (λ outcome. refl)

pub returns-in-Field-clause-fields : goal.returns-in-Field-clause-fields
returns-in-Field-clause-fields c =
    field_fewer c.args.self.now.fields.entries c.remove_field.new.fields.entries c.in-Field.outcome c.args.node.now _ c.in-Field.is (λ outcome. refl) c.remove_field.ensures.counted
