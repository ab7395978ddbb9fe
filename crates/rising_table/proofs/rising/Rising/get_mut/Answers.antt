use Rattle.std.proofs.Common.{◌≡◌, is_some, IsSome, refl, sym, ap, subst, ◌∙◌, inr}
use Rattle.std.proofs.lemmas.List.{get_or_default}
use Rattle.rising_table.specs.Rising.{IsAt, IsAbsent, entry_at}
use Rattle.rising_table.proofs.Lending.{read_of_same}
use Rattle.rising_table.proofs.RisingTable.{table_absent, table_at, table_over, table_left, rising_over, len_over, none_if_not_some}
use Rattle.rising_table.proofs.rising.Rising.get_mut.Goals as goal

pub returns-in_err-at : goal.returns-in_err-at
returns-in_err-at g c =
    let absent = subst (λ places. IsAbsent places c.args.number) c.deref.ensures.value c.in_err-at.ensures in
    rw c.from_residual.ensures (ap inr c.self.view_is, record { writes_back = tt; value = sym (table_absent c.self.inside.places.items _ _ _ c.self.invariant.0 c.self.view_is absent) })

pub returns-then-is_none : goal.returns-then-is_none
returns-then-is_none g c =
    let at = subst (λ places. IsAt places c.args.number c.in_ok-at.at) c.deref.ensures.value c.in_ok-at.ensures in (
      ap inr c.self.view_is,
      record {
        writes_back = tt;
        value = sym (table_at c.self.inside.places.items _ _ _ c.in_ok-at.at c.index.result.now c.self.invariant.0 c.self.view_is at ∙ sym (ap (λ place. place.1) c.index.ensures) ∙ none_if_not_some _ c.if-is_none.ensures);
      },
    )

pub invariant_of-self-lent : goal.invariant_of-self-lent
invariant_of-self-lent g c = λ r.
    let at = subst (λ places. IsAt places c.args.number c.in_ok-at.at) c.deref.ensures.value c.in_ok-at.ensures in
    let same : c.index_mut.result.now.0 ≡ c.args.number = ap (λ place. place.0) c.index_mut.ensures.value ∙ at.has_number _ in
    let some : IsSome c.index_mut.result.now.1 =
    ap (λ place. is_some place.1) (c.index_mut.ensures.value ∙ get_or_default c.self.inside.places.items _ _ _ at.in_range ∙ sym c.index.ensures) ∙ c.if-is_none.ensures in
    let there : IsSome (entry_at c.self.inside.places.items c.in_ok-at.at c.index_mut.result.now) = ap is_some (sym (ap (λ place. place.1) c.index_mut.ensures.value)) ∙ some in (
      (λ w. (
        rising_over c.self.inside.places.items _ c.args.number c.in_ok-at.at _ c.self.invariant.0 at same,
        c.self.invariant.1 ∙ sym (len_over c.self.inside.places.items _ c.args.number c.in_ok-at.at c.index_mut.result.now _ c.self.invariant.0 at same there refl),
      )),
      (
        rising_over c.self.inside.places.items _ c.args.number c.in_ok-at.at _ c.self.invariant.0 at same,
        c.self.invariant.1 ∙ sym (len_over c.self.inside.places.items _ c.args.number c.in_ok-at.at c.index_mut.result.now _ c.self.invariant.0 at same there some),
      ),
    )

pub returns : goal.returns
returns g c =
    let at = subst (λ places. IsAt places c.args.number c.in_ok-at.at) c.deref.ensures.value c.in_ok-at.ensures in
    let same : c.index_mut.result.now.0 ≡ c.args.number = ap (λ place. place.0) c.index_mut.ensures.value ∙ at.has_number _ in (
      read_of_same c.as_mut.result _ _ _ _
          (λ some w. table_over c.self.inside.places.items _ _ _ c.args.number c.in_ok-at.at w c.self.invariant.0 c.self.view_is at same)
          (table_left c.self.inside.places.items _ _ c.in_ok-at.at c.index_mut.result.now c.index_mut.result.now c.self.view_is c.index_mut.ensures.value),
      record {
        writes_back = tt;
        value = c.as_mut.ensures.value ∙ ap (λ place. place.1) c.index_mut.ensures.value
            ∙ sym (table_at c.self.inside.places.items _ _ _ c.in_ok-at.at c.index_mut.result.now c.self.invariant.0 c.self.view_is at);
      },
    )
