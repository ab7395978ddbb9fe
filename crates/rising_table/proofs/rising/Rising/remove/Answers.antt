use Rattle.std.proofs.Common.{None, sym, ap, subst, ◌∙◌, arith}
use Rattle.std.specs.Ordering.{nat_cmp}
use Rattle.std.specs.FinMap as map
use Rattle.finite_maps.proofs.Gets.{remove_absent}
use Rattle.rising_table.specs.Rising.{IsRising, IsAt, IsAbsent}
use Rattle.rising_table.proofs.RisingTable.{table_absent, table_at, seen, over, cut_out, len_cut, rising_put, get_at}
use Rattle.rising_table.proofs.rising.Rising.remove.Goals as goal

pub returns-in_err-at-clause-value : goal.returns-in_err-at-clause-value
returns-in_err-at-clause-value g c =
    let absent = subst (λ places. IsAbsent places c.args.number) c.deref.ensures.value c.in_err-at.ensures in
    c.from_residual.ensures ∙ sym (table_absent c.self.inside.places.items _ _ _ c.self.invariant.0 c.self.view_is absent)

pub returns-in_err-at-clause-removed : goal.returns-in_err-at-clause-removed
returns-in_err-at-clause-removed g c =
    let absent = subst (λ places. IsAbsent places c.args.number) c.deref.ensures.value c.in_err-at.ensures in
    sym (remove_absent c.args.self.now.entries c.args.number (table_absent c.self.inside.places.items _ _ _ c.self.invariant.0 c.self.view_is absent))

pub invariant_of-self : goal.invariant_of-self
invariant_of-self g c =
    let at = subst (λ places. IsAt places c.args.number c.in_ok-at.at) c.deref.ensures.value c.in_ok-at.ensures in
    let cut = c.take_at.ensures.items (0, None) ∙ over c.self.inside.places.items _ c.args.number c.in_ok-at.at None c.self.invariant.0 at (at.has_number (0, None)) in
    let none = get_at c.self.inside.places.items c.args.number c.in_ok-at.at (0, None) c.self.invariant.0 at ∙ sym (c.take_at.ensures.entry (0, None)) ∙ c.in_err-entry.was in (
      subst IsRising (sym cut) (rising_put c.self.inside.places.items c.args.number None c.self.invariant.0),
      c.self.invariant.1 ∙ sym (ap map.len (cut_out c.self.inside.places.items _ c.args.number c.self.invariant.0 cut ∙ remove_absent _ c.args.number none)),
    )

pub returns-in_err-entry-clause-value : goal.returns-in_err-entry-clause-value
returns-in_err-entry-clause-value g c =
    let at = subst (λ places. IsAt places c.args.number c.in_ok-at.at) c.deref.ensures.value c.in_ok-at.ensures in
    c.from_residual-in_err-entry.ensures
    ∙ sym (table_at c.self.inside.places.items _ _ _ c.in_ok-at.at (0, None) c.self.invariant.0 c.self.view_is at ∙ sym (c.take_at.ensures.entry (0, None)) ∙ c.in_err-entry.was)

pub returns-in_err-entry-clause-removed : goal.returns-in_err-entry-clause-removed
returns-in_err-entry-clause-removed g c =
    let at = subst (λ places. IsAt places c.args.number c.in_ok-at.at) c.deref.ensures.value c.in_ok-at.ensures in
    let cut = c.take_at.ensures.items (0, None) ∙ over c.self.inside.places.items _ c.args.number c.in_ok-at.at None c.self.invariant.0 at (at.has_number (0, None)) in
    cut_out c.self.inside.places.items _ c.args.number c.self.invariant.0 cut ∙ ap (λ m. map.remove m c.args.number) (seen c.self.inside.places.items _ _ c.self.view_is)

pub overflow_sub-self : goal.overflow_sub-self
overflow_sub-self g c =
    let at = subst (λ places. IsAt places c.args.number c.in_ok-at.at) c.deref.ensures.value c.in_ok-at.ensures in
    let cut = c.take_at.ensures.items (0, None) ∙ over c.self.inside.places.items _ c.args.number c.in_ok-at.at None c.self.invariant.0 at (at.has_number (0, None)) in
    let there = get_at c.self.inside.places.items c.args.number c.in_ok-at.at (0, None) c.self.invariant.0 at ∙ sym (c.take_at.ensures.entry (0, None)) ∙ c.in_ok-entry.was in
    let less = len_cut c.self.inside.places.items _ c.args.number _ _ c.self.invariant.0 cut there c.self.invariant.1 in
    omega (arith, less)

pub forget_last-requires : goal.forget_last-requires
forget_last-requires g c =
    let at = subst (λ places. IsAt places c.args.number c.in_ok-at.at) c.deref.ensures.value c.in_ok-at.ensures in
    let cut = c.take_at.ensures.items (0, None) ∙ over c.self.inside.places.items _ c.args.number c.in_ok-at.at None c.self.invariant.0 at (at.has_number (0, None)) in
    subst IsRising (sym cut) (rising_put c.self.inside.places.items c.args.number None c.self.invariant.0)

pub invariant_of-self-2 : goal.invariant_of-self-2
invariant_of-self-2 g c =
    let at = subst (λ places. IsAt places c.args.number c.in_ok-at.at) c.deref.ensures.value c.in_ok-at.ensures in
    let cut = c.take_at.ensures.items (0, None) ∙ over c.self.inside.places.items _ c.args.number c.in_ok-at.at None c.self.invariant.0 at (at.has_number (0, None)) in
    let there = get_at c.self.inside.places.items c.args.number c.in_ok-at.at (0, None) c.self.invariant.0 at ∙ sym (c.take_at.ensures.entry (0, None)) ∙ c.in_ok-entry.was in
    let less = len_cut c.self.inside.places.items _ c.args.number _ _ c.self.invariant.0 cut there c.self.invariant.1 in
    let same = ap (λ es. map.len (map.from_entries {R = nat_cmp} es)) c.forget_last.ensures.present in
    (c.forget_last.ensures.rising, omega (arith, less, same))

pub returns-clause-value : goal.returns-clause-value
returns-clause-value g c =
    let at = subst (λ places. IsAt places c.args.number c.in_ok-at.at) c.deref.ensures.value c.in_ok-at.ensures in
    sym (table_at c.self.inside.places.items _ _ _ c.in_ok-at.at (0, None) c.self.invariant.0 c.self.view_is at ∙ sym (c.take_at.ensures.entry (0, None)) ∙ c.in_ok-entry.was)

pub returns-clause-removed : goal.returns-clause-removed
returns-clause-removed g c =
    let at = subst (λ places. IsAt places c.args.number c.in_ok-at.at) c.deref.ensures.value c.in_ok-at.ensures in
    let cut = c.take_at.ensures.items (0, None) ∙ over c.self.inside.places.items _ c.args.number c.in_ok-at.at None c.self.invariant.0 at (at.has_number (0, None)) in
    ap (λ es. map.from_entries {R = nat_cmp} es) c.forget_last.ensures.present
    ∙ cut_out c.self.inside.places.items _ c.args.number c.self.invariant.0 cut ∙ ap (λ m. map.remove m c.args.number) (seen c.self.inside.places.items _ _ c.self.view_is)
