use Rattle.std.proofs.Common.{sym, ap, subst, ◌∙◌, arith}
use Rattle.std.specs.FinMap as map
use Rattle.rising_table.specs.Rising.{IsRising}
use Rattle.rising_table.proofs.RisingTable.{len_within, seen, added, len_added, rising_put}
use Rattle.rising_table.proofs.rising.Rising.add.Goals as goal

pub overflow_add-self : goal.overflow_add-self
overflow_add-self g c =
    let within = len_within c.self.inside.places.items in
    omega (arith, within, c.self.invariant.1, c.self.inside.places.ok, c.self.inside.places.small)

pub invariant_of-self : goal.invariant_of-self
invariant_of-self g c =
    let none = ap (λ m. map.get m c.args.number) (seen c.self.inside.places.items _ _ c.self.view_is ∙ c.reserve.ensures.same) ∙ c.requires in (
      subst IsRising (sym c.put.ensures.items) (rising_put c.self.inside.places.items _ _ c.self.invariant.0),
      len_added c.self.inside.places.items _ _ _ _ c.self.invariant.0 c.put.ensures.items none c.self.invariant.1,
    )

pub returns-clause-ok : goal.returns-clause-ok
returns-clause-ok g c =
    added c.self.inside.places.items _ _ _ c.self.invariant.0 c.put.ensures.items
    ∙ ap (λ m. map.insert m c.args.number c.args.entry) (seen c.self.inside.places.items _ _ c.self.view_is ∙ c.reserve.ensures.same)
