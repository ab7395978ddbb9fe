use Rattle.std.proofs.Common.{sym, ap, subst, ◌∙◌, option_copied}
use Rattle.rising_table.specs.Rising.{IsAt, IsAbsent}
use Rattle.rising_table.proofs.RisingTable.{table_absent, table_at}
use Rattle.rising_table.proofs.rising.Rising.get.Goals as goal

pub returns-in_err-at : goal.returns-in_err-at
returns-in_err-at g c =
    let absent = subst (λ places. IsAbsent places c.args.number) c.deref.ensures.value c.in_err-at.ensures in
    ap option_copied c.from_residual.ensures ∙ sym (table_absent c.self.inside.places.items _ _ _ c.self.invariant.0 c.self.view_is absent)

pub returns : goal.returns
returns g c =
    let at = subst (λ places. IsAt places c.args.number c.in_ok-at.at) c.deref.ensures.value c.in_ok-at.ensures in
    c.as_ref.ensures.value ∙ ap (λ place. place.1) c.index.ensures
    ∙ sym (table_at c.self.inside.places.items _ _ _ c.in_ok-at.at c.index.result.now c.self.invariant.0 c.self.view_is at)
