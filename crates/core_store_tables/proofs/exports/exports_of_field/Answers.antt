use Rattle.std.proofs.Common.{sym, ◌∙◌, arith}
use Rattle.core_store_tables.proofs.OfFields.{none_listed}
use Rattle.core_store_tables.proofs.exports.exports_of_field.Goals as goal

pub returns-then-fields_of-eq0 : goal.returns-then-fields_of-eq0
returns-then-fields_of-eq0 c =
    c.new.ensures ∙ sym (none_listed c.args.store.now.exports.entries c.args.o (omega (arith, c.fields_of.ensures, c.if-fields_of-eq0.true)))
