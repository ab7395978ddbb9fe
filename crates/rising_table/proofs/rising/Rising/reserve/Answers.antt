use Rattle.std.proofs.Common.{sym, ap, subst, ◌∙◌, is_some}
use Rattle.std.specs.FinMap as map
use Rattle.rising_table.specs.Rising.{IsRising}
use Rattle.rising_table.proofs.RisingPlaces.{kept_sorted}
use Rattle.rising_table.proofs.RisingTable.{seen, entries_of, entries_kept}
use Rattle.rising_table.proofs.rising.Rising.reserve.Goals as goal
use Rattle.rising_table.proofs.rising.Rising.reserve.Goals.{then-self-len, else-self-len}

pub invariant_of-self : goal.invariant_of-self
invariant_of-self g c = elim c.if-self-len.branch [
  | then-self-len w ↦
      let kept = c.grow.ensures.items ∙ ap (λ s. s.places.items) w.self-inside-is ∙ w.forget_gone.ensures.items in (
        subst IsRising (sym kept) (kept_sorted (λ place. is_some place.1) c.self.inside.places.items c.self.invariant.0),
        ap (λ s. s.len) w.self-inside-is ∙ c.self.invariant.1 ∙ sym (ap map.len (entries_kept c.self.inside.places.items _ kept)),
      )
  | else-self-len w ↦
      let same = c.grow.ensures.items ∙ ap (λ s. s.places.items) w.self-inside-is in
      (subst IsRising (sym same) c.self.invariant.0, ap (λ s. s.len) w.self-inside-is ∙ c.self.invariant.1 ∙ sym (ap (λ places. map.len (entries_of places)) same))
]

pub returns-clause-same : goal.returns-clause-same
returns-clause-same g c = elim c.if-self-len.branch [
  | then-self-len w ↦
      let kept = c.grow.ensures.items ∙ ap (λ s. s.places.items) w.self-inside-is ∙ w.forget_gone.ensures.items in
      entries_kept c.self.inside.places.items _ kept ∙ seen c.self.inside.places.items _ _ c.self.view_is
  | else-self-len w ↦
      let same = c.grow.ensures.items ∙ ap (λ s. s.places.items) w.self-inside-is in
      ap (λ places. entries_of places) same ∙ seen c.self.inside.places.items _ _ c.self.view_is
]
