use Rattle.std.proofs.Common.{Some, refl}
use Rattle.std.proofs.lemmas.Result.{on_ok_weaker}
use Rattle.vat_tables.proofs.Indexing.{numbered, refound_object, refound_promise, refound_import}
use Rattle.vat_tables.proofs.FieldCounts.{none_more, field_more}
use Rattle.vat_tables.specs.Index.{fields_found}
use Rattle.rpc_machine.specs.declared.node.Node.TheVariants as node
use Rattle.vat_tables.proofs.index.NodeIndex.add.Goals as goal

pub returns-in-Object-clause-ok : goal.returns-in-Object-clause-ok
returns-in-Object-clause-ok c =
    on_ok_weaker c.add_number.result (λ added. refound_object c.args.self.now c.add_number.new.numbers c.in-Object.object (Some c.args.id) c.args.node.now c.in-Object.is (numbered _ _ _ _ added))
    c.add_number.ensures.ok

pub returns-in-Promise-clause-ok : goal.returns-in-Promise-clause-ok
returns-in-Promise-clause-ok c =
    on_ok_weaker c.add_number-in-Promise.result (λ added. refound_promise c.args.self.now c.add_number-in-Promise.new.numbers c.in-Promise.key (Some c.args.id) c.args.node.now c.in-Promise.is (numbered _ _ _ _ added))
    c.add_number-in-Promise.ensures.ok

pub returns-in-Import-clause-ok : goal.returns-in-Import-clause-ok
returns-in-Import-clause-ok c =
    on_ok_weaker c.add_number-in-Import.result (λ added. refound_import c.args.self.now c.add_number-in-Import.new.numbers c.in-Import.import (Some c.args.id) c.args.node.now c.in-Import.is (numbered _ _ _ _ added))
    c.add_number-in-Import.ensures.ok

pub returns-in-Object-clause-fields : goal.returns-in-Object-clause-fields
returns-in-Object-clause-fields c =
    on_ok_weaker c.add_number.result (λ added. none_more (fields_found c.args.self.now) c.args.node.now (node.Object c.in-Object.object) c.in-Object.is (λ outcome. refl)) c.add_number.ensures.ok

pub returns-in-Promise-clause-fields : goal.returns-in-Promise-clause-fields
returns-in-Promise-clause-fields c =
    on_ok_weaker c.add_number-in-Promise.result (λ added. none_more (fields_found c.args.self.now) c.args.node.now (node.Promise c.in-Promise.key) c.in-Promise.is (λ outcome. refl)) c.add_number-in-Promise.ensures.ok

pub returns-in-Import-clause-fields : goal.returns-in-Import-clause-fields
returns-in-Import-clause-fields c =
    on_ok_weaker c.add_number-in-Import.result (λ added. none_more (fields_found c.args.self.now) c.args.node.now (node.Import c.in-Import.import) c.in-Import.is (λ outcome. refl)) c.add_number-in-Import.ensures.ok

pub returns-in-Field-clause-fields : goal.returns-in-Field-clause-fields
returns-in-Field-clause-fields c =
    on_ok_weaker c.add_field.result (λ counted. field_more c.args.self.now.fields.entries c.add_field.new.fields.entries c.in-Field.outcome c.args.node.now _ c.in-Field.is (λ outcome. refl) counted)
    c.add_field.ensures.counted
