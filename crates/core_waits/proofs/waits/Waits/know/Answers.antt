use Rattle.std.proofs.Common.{◌∙◌, ap, sym, refl}
use Rattle.core_waits.specs.Waiting.{outcome_list, outcome_with}
use Rattle.core_waits.specs.Links.{value_in}
use Rattle.core_waits.proofs.Seeing.{seen_here}
use Rattle.core_waits.proofs.Seen.{not_there, owned_same_outcome, knows, seen_set_outcome}
use Rattle.core_waits.proofs.Hopping.{holds_new_outcome, not_known}
use Rattle.core_waits.proofs.waits.Waits.know.Goals as goal

pub returns-in_default-clause-never : goal.returns-in_default-clause-never
returns-in_default-clause-never c =
    rw (← c.self.view_is) (λ some none. absurd (not_there outcome_list outcome_with _ _ _ (sym c.in_default.ensures) some))

pub returns-in_default-value-clause-never : goal.returns-in_default-value-clause-never
returns-in_default-value-clause-never c =
    rw (← c.self.view_is) (λ some none. absurd (not_known _ _ _ _ _ c.in-Some.ensures c.in_default-value.is none))

pub invariant_of-self : goal.invariant_of-self
invariant_of-self c =
    (owned_same_outcome _ _ _ _ _ _ _ c.self.invariant.0 _ (sym c.in-Some-get_mut.ensures.value) refl, record { for_promises = c.self.invariant.1.for_promises; for_outcomes = c.self.invariant.1.for_outcomes; for_embargoes = c.self.invariant.1.for_embargoes; for_calls = c.self.invariant.1.for_calls }, holds_new_outcome c.self.inside.promises.entries c.self.inside.outcomes.entries _ _ (ap value_in (sym c.in-Some.ensures) ∙ c.in-None.is) c.clear.ensures c.self.invariant.2)

pub returns-clause-ok : goal.returns-clause-ok
returns-clause-ok c =
    rw (← c.self.view_is) (knows _ _ _ _ _ (seen_here outcome_list outcome_with _ _ _ _ (sym c.in-Some-get_mut.ensures.value)) (seen_set_outcome c.self.inside.promises.entries c.self.inside.outcomes.entries c.self.inside.embargoes.entries c.self.inside.taken c.self.inside.pool.lists c.self.inside.room c.self.inside.taken _ _))
