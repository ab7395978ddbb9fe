use Rattle.std.proofs.Common.{◌++◌, ap, sym, ◌∙◌}
use Rattle.std.proofs.lemmas.List.{append-nil}
use Rattle.vat_tables.proofs.RisingKeys.{numbers_taken, one_number, no_number}
use Rattle.vat_tables.proofs.numbered.numbers_of_places.Goals as goal
use Rattle.vat_tables.proofs.numbered.numbers_of_places.Goals.{then-is_some+in_ok-push, else-is_some}

pub loop-number-preserved : goal.loop-number-preserved
loop-number-preserved g c = elim c.if-is_some.branch [
  | then-is_some+in_ok-push w ↦
      ap (λ v. v.items) w.numbers-is ∙ w.in_ok-push.ensures.items
      ∙ (λ i. c.loop-number.invariant i ++ sym (one_number c.loop-number.number c.index-places-number.result (sym w.if-is_some.ensures)) i)
      ∙ sym (numbers_taken c.loop-number.number c.args.places.now c.index-places-number.result c.loop-number-test.true (sym c.index-places-number.is))
  | else-is_some w ↦
      ap (λ v. v.items) w.numbers-is ∙ sym (append-nil c.loop-number.numbers.items)
      ∙ (λ i. c.loop-number.invariant i ++ sym (no_number c.loop-number.number c.index-places-number.result (sym w.if-is_some.ensures)) i)
      ∙ sym (numbers_taken c.loop-number.number c.args.places.now c.index-places-number.result c.loop-number-test.true (sym c.index-places-number.is))
]
