use Rattle.std.proofs.Common.{◌<◌, ◌≤◌, length, get_or, nat_eq, None, is_some, IsSome, sym, ap, subst, ◌∙◌, inr, arith}
use Rattle.std.proofs.lemmas.List.{get_or_default}
use Rattle.std.specs.FinMap as map
use Rattle.std.specs.HashMap as hash
use Rattle.vat_tables.specs.Placed.{IsApart, entries_both, table_of_both}
use Rattle.rising_table.proofs.Lending.{read_of_same}
use Rattle.vat_tables.proofs.Options.{is_some_copied, none_copied}
use Rattle.vat_tables.proofs.PlacedTable.{left, table_placed, table_hashed, table_over, table_written, apart_set, apart_written, len_over, len_written, none_if_not_some}
use Rattle.vat_tables.proofs.numbered.Numbered.get_mut.Goals as goal

pub returns-then-is_none : goal.returns-then-is_none
returns-then-is_none g c =
    let low : c.args.number < length c.self.inside.places.items = omega (arith, c.if-number-len.true, c.self.inside.places.ok) in (
      ap inr c.self.view_is,
      record {
        writes_back = tt;
        value = sym (table_placed c.self.inside.places.items c.self.inside.hashed _ _ c.args.number c.self.view_is c.self.invariant.0 low ∙ get_or_default c.self.inside.places.items c.args.number None c.index.result.now low ∙ sym c.index.ensures ∙ none_if_not_some _ c.if-is_none.ensures);
      },
    )

pub invariant_of-self-lent : goal.invariant_of-self-lent
invariant_of-self-lent g c = λ r.
    let low : c.args.number < length c.self.inside.places.items = omega (arith, c.if-number-len.true, c.self.inside.places.ok) in
    let there : IsSome (get_or c.self.inside.places.items c.args.number None) = ap is_some (get_or_default c.self.inside.places.items c.args.number None c.index.result.now low ∙ sym c.index.ensures) ∙ c.if-is_none.ensures in (
      (λ w. (
        apart_set c.self.inside.places.items c.self.inside.hashed c.args.number _ c.self.invariant.0,
        c.self.invariant.1 ∙ sym (len_over c.self.inside.places.items c.self.inside.hashed c.args.number w c.self.invariant.0 low there),
      )),
      (
        apart_set c.self.inside.places.items c.self.inside.hashed c.args.number _ c.self.invariant.0,
        c.self.invariant.1 ∙ sym (ap (λ ps. map.len (entries_both ps c.self.inside.hashed)) (left c.self.inside.places.items c.args.number _ _ c.index_mut.ensures.value)),
      ),
    )

pub returns-then-number-len : goal.returns-then-number-len
returns-then-number-len g c =
    let low : c.args.number < length c.self.inside.places.items = omega (arith, c.if-number-len.true, c.self.inside.places.ok) in (
      read_of_same c.as_mut.result _ _ _ _
          (λ some w. table_over c.self.inside.places.items c.self.inside.hashed _ _ c.args.number w c.self.view_is low)
          (ap (λ ps. table_of_both ps c.self.inside.hashed c.self.inside.len) (left c.self.inside.places.items c.args.number _ _ c.index_mut.ensures.value) ∙ c.self.view_is),
      record {
        writes_back = tt;
        value = c.as_mut.ensures.value ∙ c.index_mut.ensures.value ∙ get_or_default c.self.inside.places.items c.args.number _ None low
            ∙ sym (table_placed c.self.inside.places.items c.self.inside.hashed _ _ c.args.number c.self.view_is c.self.invariant.0 low);
      },
    )

pub returns-then-is_none-2 : goal.returns-then-is_none-2
returns-then-is_none-2 g c =
    let high : length c.self.inside.places.items ≤ c.args.number = omega (arith, c.if-number-len.false, c.self.inside.places.ok) in (
      ap inr c.self.view_is,
      record {
        writes_back = tt;
        value = sym (table_hashed c.self.inside.places.items c.self.inside.hashed _ _ c.args.number c.self.view_is high ∙ sym c.get_hashed.ensures ∙ none_copied _ c.if-is_none-2.ensures);
      },
    )

pub invariant_of-self-lent-2 : goal.invariant_of-self-lent-2
invariant_of-self-lent-2 g c = λ r.
    let high : length c.self.inside.places.items ≤ c.args.number = omega (arith, c.if-number-len.false, c.self.inside.places.ok) in
    let present : IsSome (hash.get nat_eq c.self.inside.hashed c.args.number) = ap is_some (sym c.get_hashed.ensures) ∙ is_some_copied _ c.if-is_none-2.ensures in (
      (λ w. (
        apart_written c.self.inside.places.items c.self.inside.hashed (c.get_mut.follows.lender w) c.args.number w c.self.invariant.0 high present (c.get_mut.follows.holds w),
        c.self.invariant.1 ∙ sym (len_written c.self.inside.places.items c.self.inside.hashed (c.get_mut.follows.lender w) c.args.number w high present (c.get_mut.follows.holds w)),
      )),
      (
        subst (IsApart c.self.inside.places.items) (sym c.get_mut.follows.holds-at-none) c.self.invariant.0,
        c.self.invariant.1 ∙ sym (ap (λ m. map.len (entries_both c.self.inside.places.items m)) c.get_mut.follows.holds-at-none),
      ),
    )

pub returns : goal.returns
returns g c =
    let high : length c.self.inside.places.items ≤ c.args.number = omega (arith, c.if-number-len.false, c.self.inside.places.ok) in
    let present : IsSome (hash.get nat_eq c.self.inside.hashed c.args.number) = ap is_some (sym c.get_hashed.ensures) ∙ is_some_copied _ c.if-is_none-2.ensures in (
      read_of_same c.get_mut.result _ _ _ _
          (λ some w. table_written c.self.inside.places.items c.self.inside.hashed (c.get_mut.follows.lender w) _ _ c.args.number w c.self.view_is high present (c.get_mut.follows.holds w))
          (ap (λ m. table_of_both c.self.inside.places.items m c.self.inside.len) c.get_mut.follows.holds-at-none ∙ c.self.view_is),
      record {
        writes_back = tt;
        value = c.get_mut.ensures.value ∙ sym (table_hashed c.self.inside.places.items c.self.inside.hashed _ _ c.args.number c.self.view_is high);
      },
    )
