use Rattle.std.proofs.Common.{ap, None, sym, subst, refl, arith}
use Rattle.core_waits.specs.Waiting.{outcome_list, outcome_with}
use Rattle.core_waits.specs.Links.{value_in}
use Rattle.core_waits.specs.Owned.{list_at, IsOwned}
use Rattle.finite_maps.specs.Tally.{Map}
use Rattle.core_waits.specs.declared.entries.OutcomeEntry.{OutcomeEntry}
use Rattle.core_waits.proofs.Seen.{no_room, owned_new_outcome, seen_new_outcome, new_free}
use Rattle.core_waits.proofs.Hopping.{holds_over, holds_opened_outcome}
use Rattle.core_waits.proofs.waits.Waits.new_outcome.Goals as goal

pub invariant_of-self : goal.invariant_of-self
invariant_of-self c =
    let room = c.self.invariant.1 in
    (subst (λ (m : Map OutcomeEntry). IsOwned (list_at c.self.inside.promises.entries m c.self.inside.embargoes.entries c.self.inside.taken) c.self.inside.pool.lists) (sym c.in_default.ensures.same) c.self.invariant.0, record { for_promises = room.for_promises; for_outcomes = let kept = no_room c.self.inside.outcomes.room c.add.new.self.room c.in_default.ensures.had_room in omega (arith, room.for_outcomes, kept); for_embargoes = room.for_embargoes; for_calls = room.for_calls }, holds_over c.self.inside.promises.entries _ c.self.inside.outcomes.entries _ refl c.in_default.ensures.same c.self.invariant.2)

pub invariant_of-self-2 : goal.invariant_of-self-2
invariant_of-self-2 c =
    let room = c.self.invariant.1 in let less = c.saturating_sub-self-inside.ensures in
    (subst (λ (m : Map OutcomeEntry). IsOwned (list_at c.self.inside.promises.entries m c.self.inside.embargoes.entries c.self.inside.taken) c.self.inside.pool.lists) (sym c.in-Ok.ensures.ok) (owned_new_outcome c.self.inside.promises.entries c.self.inside.outcomes.entries c.self.inside.embargoes.entries c.self.inside.taken c.self.inside.pool.lists c.in-Ok.key (record { caller = c.args.caller; value = None; list = None; hops = c.new.result }) c.self.invariant.0 refl), record { for_promises = omega (arith, less, room.for_promises); for_outcomes = omega (arith, less, room.for_outcomes, c.in-Ok.ensures.room); for_embargoes = omega (arith, less, room.for_embargoes); for_calls = omega (arith, less, room.for_calls) }, holds_opened_outcome c.self.inside.promises.entries c.self.inside.outcomes.entries _ c.in-Ok.key _ c.in-Ok.ensures.ok (ap value_in c.in-Ok.ensures.free) c.new.ensures c.self.invariant.2)

pub returns-clause-free : goal.returns-clause-free
returns-clause-free c =
    rw (← c.self.view_is) (new_free outcome_list outcome_with c.self.inside.pool.lists _ _ c.in-Ok.ensures.free)

pub returns-clause-ok : goal.returns-clause-ok
returns-clause-ok c =
    rw (← c.self.view_is) (seen_new_outcome c.self.inside.promises.entries c.self.inside.outcomes.entries c.self.inside.embargoes.entries c.self.inside.taken c.self.inside.pool.lists c.self.inside.room _ c.saturating_sub-self-inside.ensures _ c.in-Ok.key (record { caller = c.args.caller; value = None; list = None; hops = c.new.result }) c.in-Ok.ensures.ok)
