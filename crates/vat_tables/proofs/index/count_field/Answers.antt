use Rattle.std.proofs.Common.{ℕ, sym, ap, arith}
use Rattle.vat_tables.specs.Table.{Table}
use Rattle.vat_tables.specs.Index.{number_of}
use Rattle.vat_tables.proofs.FieldCounts.{first_more, next_more}
use Rattle.vat_tables.proofs.index.count_field.Goals as goal

pub returns-in_default-clause-counted : goal.returns-in_default-clause-counted
returns-in_default-clause-counted c = first_more c.args.fields.now.entries c.add.new.self.entries c.args.outcome (sym c.in_default.ensures) c.in-Ok.ensures.ok

pub returns-clause-counted : goal.returns-clause-counted
returns-clause-counted c =
    let fits = ap number_of c.in-Some.ensures in
    next_more c.args.fields.now.entries c.set.new.self.entries c.args.outcome c.in-Some.count.now c.saturating_add-more.result (sym c.in-Some.ensures)
    (omega (arith, fits, c.requires.fits, c.saturating_add-more.ensures)) (ap (λ (t : Table ℕ). t.entries) c.set.ensures)
