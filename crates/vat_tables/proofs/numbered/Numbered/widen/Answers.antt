use Rattle.std.proofs.Common.{List, Option, refl, sym, ap, subst, ◌∙◌, arith}
use Rattle.std.specs.FinMap as map
use Rattle.vat_tables.specs.Placed.{HasSamePlaces}
use Rattle.vat_tables.proofs.PlacedTable.{same_both, apart_empty, table_wider}
use Rattle.vat_tables.proofs.numbered.Numbered.widen.Goals as goal

pub invariant_of-self-2 : goal.invariant_of-self-2
invariant_of-self-2 g c =
    let places = subst (λ (ps : List (Option g.row.Entry.Denot)). HasSamePlaces ps c.add_places.new.places.items) c.grow.ensures.items c.add_places.ensures in (
      apart_empty c.add_places.new.places.items c.self.inside.hashed (c.is_empty.ensures.0 (grind (arith, c.if-not-is_empty.false))),
      c.self.invariant.1 ∙ sym (ap map.len (same_both c.self.inside.places.items c.add_places.new.places.items c.self.inside.hashed c.self.inside.hashed places (λ q. refl))),
    )

pub returns : goal.returns
returns g c =
    let places = subst (λ (ps : List (Option g.row.Entry.Denot)). HasSamePlaces ps c.add_places.new.places.items) c.grow.ensures.items c.add_places.ensures in
    table_wider c.self.inside.places.items c.add_places.new.places.items c.self.inside.hashed _ _ places c.self.view_is
