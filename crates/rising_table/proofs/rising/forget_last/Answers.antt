use Rattle.std.proofs.Common.{◌≡◌, ◌-◌, ◌∙◌, None, length, ap, sym, subst, arith}
use Rattle.rising_table.specs.Rising.{entry_at}
use Rattle.rising_table.proofs.RisingTable.{popped}
use Rattle.rising_table.proofs.rising.forget_last.Goals as goal

pub drop_last-requires : goal.drop_last-requires
drop_last-requires g c = omega (arith, c.ends_empty.ensures.some c.loop-places-test.true, c.deref.ensures.len)

pub loop-places-preserved : goal.loop-places-preserved
loop-places-preserved g c =
    let empty = subst (λ places. entry_at places (length places - 1) (0, None) ≡ None) c.deref.ensures.value (c.ends_empty.ensures.empty c.loop-places-test.true (0, None)) in
    let last = subst (λ n. entry_at c.loop-places.places.items (n - 1) (0, None) ≡ None) (ap length (sym c.deref.ensures.value) ∙ c.deref.ensures.len) empty in
    let left = popped c.loop-places.places.items _ _ c.loop-places.invariant.0 (c.drop_last.ensures.items (0, None)) last in
    (left.0, left.1 ∙ c.loop-places.invariant.1, omega (arith, c.drop_last.ensures.len, c.loop-places.invariant.2), c.drop_last.ensures.capacity ∙ c.loop-places.invariant.3)
