use Rattle.std.proofs.Common.{refl, sym, ap, ◌∙◌}
use Rattle.std.specs.FinMap as map
use Rattle.vat_tables.proofs.PlacedTable.{seen, same_both, apart_same}
use Rattle.vat_tables.proofs.numbered.Numbered.reserve_hashed.Goals as goal

pub invariant_of-self : goal.invariant_of-self
invariant_of-self g c = (
  apart_same c.self.inside.places.items c.self.inside.hashed c.reserve.new.self c.self.invariant.0 c.reserve.ensures.entries.2,
  c.self.invariant.1 ∙ sym (ap map.len (same_both c.self.inside.places.items c.self.inside.places.items c.self.inside.hashed c.reserve.new.self (λ q. refl) c.reserve.ensures.entries.2)),
)

pub returns-clause-same : goal.returns-clause-same
returns-clause-same g c = same_both c.self.inside.places.items c.self.inside.places.items c.self.inside.hashed c.reserve.new.self (λ q. refl) c.reserve.ensures.entries.2 ∙ seen c.self.inside.places.items c.self.inside.hashed _ _ c.self.view_is
