use Rattle.std.proofs.Common.{rules, is_some}
use Rattle.std.proofs.lemmas.List.Elements.{filter_from_retain}
use Rattle.rising_table.proofs.rising.forget_gone.Goals as goal

pub returns-clause-items : goal.returns-clause-items
returns-clause-items g c = filter_from_retain _ (λ place. is_some place.1) (λ f place b h called. search rules) _ _ _ c.retain.ensures.filtered
