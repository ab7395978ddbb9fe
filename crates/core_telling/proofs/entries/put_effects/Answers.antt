use Rattle.std.proofs.Common.{◌∙◌}
use Rattle.core_telling.proofs.Written.{all_written}
use Rattle.core_telling.proofs.entries.put_effects.Goals as goal

pub returns-in-Some-clause-entries : goal.returns-in-Some-clause-entries
returns-in-Some-clause-entries c =
    all_written c.args.vat c.args.effects.now c.in-Some.number _ _ _ c.args.journal.now.0 _ _ _ _ c.in-Some.is (c.deref-2.ensures.value ∙ c.deref.ensures) (c.deref-4.ensures.value ∙ c.deref-3.ensures) (c.deref-6.ensures.value ∙ c.deref-5.ensures)
    c.in_ok-put_sent.ensures.entries c.in_ok-put_delivered.ensures.entries c.in_ok-put_ended.ensures.entries c.put_down.ensures.entries
