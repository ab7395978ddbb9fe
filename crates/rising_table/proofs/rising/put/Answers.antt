use Rattle.std.proofs.Common.{sym, subst, ◌∙◌, Some}
use Rattle.rising_table.specs.Rising.{AllBelow}
use Rattle.rising_table.proofs.RisingPlaces.{put_last}
use Rattle.rising_table.proofs.rising.put.Goals as goal

pub returns-then-is_below-clause-items : goal.returns-then-is_below-clause-items
returns-then-is_below-clause-items g c =
    let below = subst (AllBelow c.args.number) c.deref.ensures.value (c.is_below.ensures c.if-is_below.true) in
    c.push_reserved.ensures.items ∙ sym (put_last _ (Some c.args.entry) _ below)
