use Rattle.std.proofs.Common.{sym, subst, ◌∙◌, Some}
use Rattle.rising_table.specs.Rising.{IsAt, IsGapFor}
use Rattle.rising_table.proofs.RisingPlaces.{put_over, put_in_gap}
use Rattle.rising_table.proofs.rising.put_between.Goals as goal

pub returns-in-Ok-clause-items : goal.returns-in-Ok-clause-items
returns-in-Ok-clause-items g c =
    let at = subst (λ places. IsAt places c.args.number c.in-Ok.at) c.deref.ensures.value c.in-Ok.ensures.found in
    sym (put_over _ _ (Some c.args.entry) _ c.requires.rising at)

pub returns-in-Ok-insert-clause-items : goal.returns-in-Ok-insert-clause-items
returns-in-Ok-insert-clause-items g c =
    let gap = subst (λ places. IsGapFor places c.args.number c.in-Err.at) c.deref.ensures.value c.in-Err.ensures.absent in
    c.in-Ok-insert.ensures.items ∙ sym (put_in_gap _ _ (Some c.args.entry) _ gap)
