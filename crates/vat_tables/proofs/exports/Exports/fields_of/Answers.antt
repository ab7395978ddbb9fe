use Rattle.std.proofs.Common.{ap, ◌∙◌}
use Rattle.rpc_machine.specs.declared.entries.Export.{Export}
use Rattle.vat_tables.specs.Exports.{fields_of}
use Rattle.vat_tables.specs.Table.{Table}
use Rattle.vat_tables.proofs.exports.Exports.fields_of.Goals as goal

pub returns : goal.returns
returns c = c.fields_of.ensures ∙ c.self.invariant.2 c.args.outcome ∙ ap (λ (t : Table Export). fields_of c.args.outcome t.entries) c.self.view_is
