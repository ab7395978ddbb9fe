use Rattle.std.proofs.Common.{ℕ, sym, ap, arith}
use Rattle.vat_tables.specs.Table.{Table}
use Rattle.vat_tables.proofs.FieldCounts.{none_fewer, last_fewer, next_fewer}
use Rattle.vat_tables.proofs.index.uncount_field.Goals as goal

pub returns-in_default-clause-counted : goal.returns-in_default-clause-counted
returns-in_default-clause-counted c = none_fewer c.args.fields.now.entries c.args.outcome (sym c.in_default.ensures)

pub returns-then-fewer-eq0-clause-counted : goal.returns-then-fewer-eq0-clause-counted
returns-then-fewer-eq0-clause-counted c =
    last_fewer c.args.fields.now.entries c.remove.new.self.entries c.args.outcome c.in-Some.count.now (sym c.in-Some.ensures)
    (omega (arith, c.saturating_sub-fewer.ensures, c.if-fewer-eq0.true)) c.remove.ensures.removed

pub returns-clause-counted : goal.returns-clause-counted
returns-clause-counted c =
    next_fewer c.args.fields.now.entries c.set.new.self.entries c.args.outcome c.in-Some.count.now c.saturating_sub-fewer.result (sym c.in-Some.ensures) c.saturating_sub-fewer.ensures
    (ap (λ (t : Table ℕ). t.entries) c.set.ensures)
