use Rattle.std.proofs.Common.{sym, ap, subst, refl, arith, ◌∙◌}
use Rattle.core_waits.specs.Waiting.{waiting_of, embargo_list, embargo_with}
use Rattle.core_waits.specs.Owned.{list_at, IsOwned}
use Rattle.finite_maps.specs.Tally.{Map}
use Rattle.core_waits.proofs.Seeing.{seen_here}
use Rattle.core_waits.specs.declared.entries.EmbargoEntry.{EmbargoEntry}
use Rattle.core_waits.proofs.Seen.{none_taken, not_there, owned_lifted_embargo, lifts, seen_gone_embargo}
use Rattle.core_waits.proofs.waits.Waits.lift.Goals as goal

pub returns-in_default-clause-never : goal.returns-in_default-clause-never
returns-in_default-clause-never c =
    rw (← c.self.view_is) (λ some none. absurd (none_taken _ _ _ _ _ _ c.self.invariant.0 c.in_default.is none))

pub returns-in_default-get-clause-never : goal.returns-in_default-get-clause-never
returns-in_default-get-clause-never c =
    rw (← c.self.view_is) (λ some none. absurd (not_there embargo_list embargo_with _ _ _ (sym c.in_default-get.ensures) some))

pub invariant_of-self : goal.invariant_of-self
invariant_of-self c =
    (subst (λ (m : Map EmbargoEntry). IsOwned (list_at c.self.inside.promises.entries c.self.inside.outcomes.entries m c.in-Some.entry.now.list) c.self.inside.pool.lists) (sym c.remove.ensures.removed) (owned_lifted_embargo c.self.inside.promises.entries c.self.inside.outcomes.entries c.self.inside.embargoes.entries c.self.inside.taken c.self.inside.pool.lists c.args.id.0 c.self.invariant.0 _ c.in-Some.entry.now c.in-None.is (sym c.in-Some.ensures) refl), record { for_promises = c.self.invariant.1.for_promises; for_outcomes = c.self.invariant.1.for_outcomes; for_embargoes = let room = c.self.invariant.1.for_embargoes in let kept = c.remove.ensures.room in omega (arith, room, kept); for_calls = c.self.invariant.1.for_calls }, c.self.invariant.2)

pub returns-clause-ok : goal.returns-clause-ok
returns-clause-ok c =
    rw (← c.self.view_is) (lifts (waiting_of c.self.inside.promises.entries c.self.inside.outcomes.entries c.self.inside.embargoes.entries c.self.inside.taken c.self.inside.pool.lists c.self.inside.room) _ _ _ _ _ (seen_here embargo_list embargo_with c.self.inside.pool.lists _ _ _ (sym c.in-Some.ensures)) (ap (λ (m : Map EmbargoEntry). waiting_of c.self.inside.promises.entries c.self.inside.outcomes.entries m c.in-Some.entry.now.list c.self.inside.pool.lists c.self.inside.room) c.remove.ensures.removed ∙ seen_gone_embargo c.self.inside.promises.entries c.self.inside.outcomes.entries c.self.inside.embargoes.entries c.self.inside.taken c.self.inside.pool.lists c.self.inside.room c.in-Some.entry.now.list c.args.id.0))
